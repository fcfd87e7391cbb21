-- The order of floats that are no NaN: total and transitive, with = where each is at most the other. `lt`, `le` and `eq` are lib.Ieee's.
use Rattle.std.specs.Prelude.{ℕ, zero, suc, ◌+◌, ◌*◌, ◌≤◌, ◌<◌, ◌≡◌, refl, Bool, true, false, not, ◌&&◌, ◌||◌, T, ltb, leb, eqb, ℤ, Float}
use Rattle.std.proofs.Common.{arith, mul-pos, zero-mul, sym, ap, ◌∙◌, subst, lt-ltb, le-leb, ltb-true, ltb-false, leb-true, leb-false, eq-eqb, ne_eqb, eqb-true}
use Rattle.std.proofs.lemmas.Bool.{lt-leb, eqb-false}
use Rattle.std.specs.Float.{nan, inf, fin}
use Rattle.std.specs.Float.Ieee.{up, down, lt, le, eq, is_nan, below, level}
use Rattle.std.specs.Float.Ieee.Fits.{down_pos}
use Rattle.std.specs.Float.Ieee.Positive.{through}

pub false_true : {X : Type 0} → false ≡ true → X
false_true e = absurd (subst T (sym e) tt)

-- ---- comparing sizes

data Sizes (a b : ℕ) : Type 0 where
  less : ltb a b ≡ true → eqb a b ≡ false → leb a b ≡ true → leb b a ≡ false → Sizes a b
  equal : ltb a b ≡ false → ltb b a ≡ false → a ≡ b → leb a b ≡ true → Sizes a b
  more : ltb a b ≡ false → eqb a b ≡ false → leb a b ≡ false → leb b a ≡ true → Sizes a b

sizes : (a b : ℕ) → Sizes a b
sizes a b = go (ltb a b) refl (ltb b a) refl
  where
    go : (s : Bool) → ltb a b ≡ s → (t : Bool) → ltb b a ≡ t → Sizes a b
    go true p t q = let h = ltb-true a b p in less p (ne_eqb a b (λ e. omega arith)) (le-leb a b (omega arith)) (lt-leb b a h)
    go false p true q = let h = ltb-true b a q in more p (ne_eqb a b (λ e. omega arith)) (lt-leb a b h) (le-leb b a (omega arith))
    go false p false q = let h = ltb-false a b p in let g = ltb-false b a q in equal p q (omega arith) (le-leb a b (omega arith))

-- ±a ≤ ±b, by the signs
abbrev most : Bool → ℕ → Bool → ℕ → Bool
most false a false b = leb a b
most false a true b = leb (a + b) 0
most true a false b = true
most true a true b = leb b a

most_is : (s : Bool) (a : ℕ) (t : Bool) (b : ℕ) → (below s a t b || level s a t b) ≡ most s a t b
most_is false a false b = go (sizes a b)
  where
    go : Sizes a b → (ltb a b || (eqb a b && true)) ≡ leb a b
    go (less p q l m) = rw (p, l)
    go (equal p q e l) = rw (p, l, eq-eqb a b e)
    go (more p q l m) = rw (p, q, l)
most_is false zero true zero = refl
most_is false zero true (suc b) = rw (ne_eqb 0 (suc b) (λ e. omega arith), lt-leb (0 + suc b) 0 (omega arith))
most_is false (suc a) true b = go (eqb (suc a) b)
  where
    go : (t : Bool) → (t && eqb (suc a) 0) ≡ leb (suc a + b) 0
    go true = rw (ne_eqb (suc a) 0 (λ e. omega arith), lt-leb (suc a + b) 0 (omega arith))
    go false = rw (lt-leb (suc a + b) 0 (omega arith))
most_is true zero false zero = refl
most_is true zero false (suc b) = rw (lt-ltb 0 (0 + suc b) (omega arith))
most_is true (suc a) false b = rw (lt-ltb 0 (suc a + b) (omega arith))
most_is true a true b = go (sizes b a)
  where
    go : Sizes b a → (ltb b a || (eqb a b && true)) ≡ leb b a
    go (less p q l m) = rw (p, l)
    go (equal p q e l) = rw (p, l, eq-eqb a b (sym e))
    go (more p q l m) = rw (p, l, ne_eqb a b (λ e. omega (arith, leb-false b a l)))

pub le_fin : (s : Bool) (m : ℕ) (e : ℤ) (t : Bool) (n : ℕ) (d : ℤ) → le (fin s m e) (fin t n d) ≡ most s (m * up e * down d) t (n * up d * down e)
unfolding le lt eq
le_fin s m e t n d = most_is s (m * up e * down d) t (n * up d * down e)

-- ---- a < b exactly where b ≤ a does not hold

turned : (s : Bool) (a : ℕ) (t : Bool) (b : ℕ) → below s a t b ≡ not (most t b s a)
turned false a false b = go (sizes a b)
  where
    go : Sizes a b → ltb a b ≡ not (leb b a)
    go (less p q l m) = rw (p, m)
    go (equal p q e l) = rw (p, le-leb b a (omega arith))
    go (more p q l m) = rw (p, m)
turned false a true b = refl
turned true a false b = go (sizes 0 (a + b))
  where
    go : Sizes 0 (a + b) → ltb 0 (a + b) ≡ not (leb (b + a) 0)
    go (less p q l m) = rw (p, lt-leb (b + a) 0 (omega (arith, ltb-true 0 (a + b) p)))
    go (equal p q e l) = rw (p, le-leb (b + a) 0 (omega arith))
    go (more p q l m) = absurd (omega (arith, leb-false 0 (a + b) l))
turned true a true b = go (sizes b a)
  where
    go : Sizes b a → ltb b a ≡ not (leb a b)
    go (less p q l m) = rw (p, m)
    go (equal p q e l) = rw (p, le-leb a b (omega arith))
    go (more p q l m) = rw (p, m)

pub lt_turned : (x y : Float) → is_nan x ≡ false → is_nan y ≡ false → lt x y ≡ not (le y x)
unfolding is_nan lt le eq
lt_turned nan y h k = false_true (sym h)
lt_turned (inf s) nan h k = false_true (sym k)
lt_turned (inf true) (inf true) h k = refl
lt_turned (inf true) (inf false) h k = refl
lt_turned (inf false) (inf true) h k = refl
lt_turned (inf false) (inf false) h k = refl
lt_turned (inf true) (fin t n d) h k = refl
lt_turned (inf false) (fin t n d) h k = refl
lt_turned (fin s m e) nan h k = false_true (sym k)
lt_turned (fin s m e) (inf true) h k = refl
lt_turned (fin s m e) (inf false) h k = refl
lt_turned (fin s m e) (fin t n d) h k = turned s (m * up e * down d) t (n * up d * down e) ∙ ap not (sym (most_is t (n * up d * down e) s (m * up e * down d)))

-- ---- = is the same both ways

level_turned : (s : Bool) (a : ℕ) (t : Bool) (b : ℕ) → level s a t b ≡ level t b s a
level_turned s a t b = go (eqb a b) refl
  where
    signs : (s t : Bool) → level s b t b ≡ level t b s b
    signs true true = refl
    signs true false = refl
    signs false true = refl
    signs false false = refl

    go : (c : Bool) → eqb a b ≡ c → level s a t b ≡ level t b s a
    go true p = let e : a ≡ b = eqb-true a b p in rw e (signs s t)
    go false p = rw (p, ne_eqb b a (λ e. eqb-false a b p (sym e)))

pub eq_turned : (x y : Float) → eq x y ≡ eq y x
unfolding eq
eq_turned nan nan = refl
eq_turned nan (inf t) = refl
eq_turned nan (fin t n d) = refl
eq_turned (inf s) nan = refl
eq_turned (inf true) (inf true) = refl
eq_turned (inf true) (inf false) = refl
eq_turned (inf false) (inf true) = refl
eq_turned (inf false) (inf false) = refl
eq_turned (inf s) (fin t n d) = refl
eq_turned (fin s m e) nan = refl
eq_turned (fin s m e) (inf t) = refl
eq_turned (fin s m e) (fin t n d) = level_turned s (m * up e * down d) t (n * up d * down e)

both : (a b c : Bool) → a ≡ not (b || c) → c ≡ ((a || c) && (b || c))
both true true c h = false_true (sym h)
both true false true h = false_true (sym h)
both true false false h = refl
both false true true h = refl
both false false true h = refl
both false b false h = refl

-- x = y exactly where each is at most the other
pub eq_both : (x y : Float) → is_nan x ≡ false → is_nan y ≡ false → eq x y ≡ (le x y && le y x)
unfolding le
eq_both x y h k =
    let below : lt x y ≡ not (lt y x || eq y x) = lt_turned x y h k in
    rw (eq_turned y x) (both (lt x y) (lt y x) (eq x y) (rw (eq_turned y x) at below))

-- ---- what a comparison that holds tells

pub le_left : (x y : Float) → le x y ≡ true → is_nan x ≡ false
unfolding le lt eq is_nan
le_left nan y h = false_true h
le_left (inf s) y h = refl
le_left (fin s m e) y h = refl

pub le_right : (x y : Float) → le x y ≡ true → is_nan y ≡ false
unfolding le lt eq is_nan
le_right nan nan h = false_true h
le_right (inf s) nan h = false_true h
le_right (fin s m e) nan h = false_true h
le_right nan (inf t) h = refl
le_right (inf s) (inf t) h = refl
le_right (fin s m e) (inf t) h = refl
le_right nan (fin t n d) h = refl
le_right (inf s) (fin t n d) h = refl
le_right (fin s m e) (fin t n d) h = refl

-- ---- transitive

none_left : (a q : ℕ) → 0 < q → a * q ≤ 0 → a ≡ 0
none_left zero q p h = refl
none_left (suc a) q p h = absurd (omega (arith, mul-pos {m = suc a} {n = q} (omega arith) p))

-- of ±a / p, ±b / q and ±c / r
module _ (a b c p q r : ℕ) (pp : 0 < p) (pq : 0 < q) (pr : 0 < r) where
  both_none : (u v : ℕ) → leb (u + v) 0 ≡ true → (u ≤ 0) × (v ≤ 0)
  both_none u v h = omega (arith, leb-true (u + v) 0 h)

  most_trans : (s t w : Bool) → most s (a * q) t (b * p) ≡ true → most t (b * r) w (c * q) ≡ true → most s (a * r) w (c * p) ≡ true
  most_trans false false false h k = le-leb (a * r) (c * p) (through a b c p q r pq (leb-true _ _ h) (leb-true _ _ k))
  most_trans true true true h k = le-leb (c * p) (a * r) (through c b a r q p pq (leb-true _ _ k) (leb-true _ _ h))
  most_trans true false false h k = refl
  most_trans true true false h k = refl
  most_trans true false true h k =
      let c0 = none_left c q pq (both_none (b * r) (c * q) k).1 in
      rw (c0, zero-mul) (le-leb 0 (a * r) (omega arith))
  most_trans false true false h k =
      let a0 = none_left a q pq (both_none (a * q) (b * p) h).0 in
      rw (a0, zero-mul) (le-leb 0 (c * p) (omega arith))
  most_trans false false true h k =
      let c0 = none_left c q pq (both_none (b * r) (c * q) k).1 in
      let b0 = none_left b r pr (both_none (b * r) (c * q) k).0 in
      let a0 = none_left a q pq (rw (b0, zero-mul) at (leb-true (a * q) (b * p) h)) in
      rw (a0, c0, zero-mul, zero-mul)
  most_trans false true true h k =
      let a0 = none_left a q pq (both_none (a * q) (b * p) h).0 in
      let b0 = none_left b p pp (both_none (a * q) (b * p) h).1 in
      let c0 = none_left c q pq (rw (b0, zero-mul) at (leb-true (c * q) (b * r) k)) in
      rw (a0, c0, zero-mul, zero-mul)

-- the ends
low_end : (x : Float) → is_nan x ≡ false → le (inf true) x ≡ true
unfolding le lt eq is_nan
low_end nan h = false_true (sym h)
low_end (inf true) h = refl
low_end (inf false) h = refl
low_end (fin s m e) h = refl

high_end : (x : Float) → le (inf false) x ≡ true → x ≡ inf false
unfolding le lt eq
high_end nan h = false_true h
high_end (inf true) h = false_true h
high_end (inf false) h = refl
high_end (fin s m e) h = false_true h

pub top_end : (x : Float) → is_nan x ≡ false → le x (inf false) ≡ true
unfolding le lt eq is_nan
top_end nan h = false_true (sym h)
top_end (inf true) h = refl
top_end (inf false) h = refl
top_end (fin s m e) h = refl

bottom_end : (x : Float) → le x (inf true) ≡ true → x ≡ inf true
unfolding le lt eq
bottom_end nan h = false_true h
bottom_end (inf true) h = refl
bottom_end (inf false) h = false_true h
bottom_end (fin s m e) h = false_true h

pub le_trans : (x y z : Float) → le x y ≡ true → le y z ≡ true → le x z ≡ true
unfolding is_nan
le_trans nan y z h k = false_true (sym (le_left nan y h))
le_trans (inf true) y z h k = low_end z (le_right y z k)
le_trans (inf false) y z h k = rw (high_end y h) at k
le_trans (fin s m e) nan z h k = false_true (sym (le_right (fin s m e) nan h))
le_trans (fin s m e) (inf true) z h k = let e : fin s m e ≡ inf true = bottom_end (fin s m e) h in rw e k
le_trans (fin s m e) (inf false) z h k = rw (high_end z k) (top_end (fin s m e) refl)
le_trans (fin s m e) (fin t n d) nan h k = false_true (sym (le_right (fin t n d) nan k))
le_trans (fin s m e) (fin t n d) (inf true) h k = let e = bottom_end (fin t n d) k in rw e at h
le_trans (fin s m e) (fin t n d) (inf false) h k = top_end (fin s m e) refl
le_trans (fin s m e) (fin t n d) (fin w o f) h k =
    le_fin s m e w o f ∙ most_trans (m * up e) (n * up d) (o * up f) (down e) (down d) (down f) (down_pos e) (down_pos d) (down_pos f) s t w
    (sym (le_fin s m e t n d) ∙ h) (sym (le_fin t n d w o f) ∙ k)

-- ---- and so

not_yes : (b : Bool) → not b ≡ true → b ≡ false
not_yes true e = false_true e
not_yes false e = refl

pub lt_le : (x y : Float) → lt x y ≡ true → le x y ≡ true
unfolding le
lt_le x y h = rw h

pub le_refl : (x : Float) → is_nan x ≡ false → le x x ≡ true
le_refl x h = go (le x x) refl
  where
    go : (b : Bool) → le x x ≡ b → le x x ≡ true
    go true p = p
    go false p = lt_le x x (lt_turned x x h h ∙ ap not p)

pub lt_left : (x y : Float) → lt x y ≡ true → is_nan x ≡ false
lt_left x y h = le_left x y (lt_le x y h)

pub lt_right : (x y : Float) → lt x y ≡ true → is_nan y ≡ false
lt_right x y h = le_right x y (lt_le x y h)

-- of two numbers one is at most the other
pub not_lt : (x y : Float) → is_nan x ≡ false → is_nan y ≡ false → lt x y ≡ false → le y x ≡ true
not_lt x y h k e = go (le y x) refl
  where
    go : (b : Bool) → le y x ≡ b → le y x ≡ true
    go true p = p
    go false p = false_true (sym e ∙ lt_turned x y h k ∙ ap not p)

pub not_le : (x y : Float) → is_nan x ≡ false → is_nan y ≡ false → le x y ≡ false → lt y x ≡ true
not_le x y h k e = lt_turned y x k h ∙ ap not e

pub lt_not_le : (x y : Float) → lt x y ≡ true → le y x ≡ false
lt_not_le x y h = not_yes (le y x) (sym (lt_turned x y (lt_left x y h) (lt_right x y h)) ∙ h)

pub le_not_lt : (x y : Float) → le x y ≡ true → lt y x ≡ false
le_not_lt x y h = lt_turned y x (le_right x y h) (le_left x y h) ∙ ap not h

pub lt_irrefl : (x : Float) → lt x x ≡ false
lt_irrefl x = go (lt x x) refl
  where
    go : (b : Bool) → lt x x ≡ b → lt x x ≡ false
    go true p = false_true (sym (lt_not_le x x p) ∙ lt_le x x p)
    go false p = p

pub lt_le_trans : (x y z : Float) → lt x y ≡ true → le y z ≡ true → lt x z ≡ true
lt_le_trans x y z h k = go (lt x z) refl
  where
    go : (b : Bool) → lt x z ≡ b → lt x z ≡ true
    go true p = p
    go false p = false_true (sym (lt_not_le x y h) ∙ le_trans y z x k (not_lt x z (lt_left x y h) (le_right y z k) p))

pub lt_trans : (x y z : Float) → lt x y ≡ true → lt y z ≡ true → lt x z ≡ true
lt_trans x y z h k = lt_le_trans x y z h (lt_le y z k)
