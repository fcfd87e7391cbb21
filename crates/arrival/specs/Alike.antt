-- Floats that differ at most in the sign of a zero. No comparison and no cell tells them apart, and no sum, difference or quotient but for that sign.
use Prim.Native.Nat.{ℕ, zero, suc, ◌-◌, ◌*◌, ◌<◌}
use Rattle.std.proofs.Common.{zero-mul, mul-one, mul_assoc, mul_comm, mul-pos, zero-add, add-zero, arith, ◌∙◌, subst}
use Rattle.std.proofs.Math.Nat.{one-mul, zero-div, zero-mod}
use Rattle.std.specs.Prelude.{◌≡◌, Bool, ◌&&◌, cond, ◌⊎◌, T, ltb, ℤ, pos, Float}
use Rattle.std.proofs.Math.Path.{refl, sym, ap}
use Rattle.std.proofs.Math.Bool.{true, false}
use Rattle.std.proofs.Math.Logic.{inl, inr}
use borrow.Author.Tests.{ltb-false, le-ltb, ne_eqb}
use Rattle.std.specs.Float.{nan, inf, fin}
use Rattle.std.specs.Float.Ieee.{binary64, fits, up, down, size, span, climb, odd, units, round, sum, add, sub, neg, mul, div, lt, le, eq, of_bits}
use Rattle.std.specs.Float.Ieee.Fits.{up_pos, down_pos}
use Rattle.std.specs.Float.Ieee.Scale.{finite, round_same}
use Rattle.floats.specs.Floats.{nought, smaller, larger, absolute, canonical}
use Rattle.floats.specs.Zeros.{nil, by_zeros, lt_canonical, canonical_lt, le_canonical, canonical_le, eq_canonical, canonical_eq}
use Rattle.cells.specs.Cells.{down_div, up_div, cell_by, floor_cell, ceil_cell}
use Rattle.arrival.specs.Exact.{round_itself}

abbrev pub Alike : Float → Float → Type 0
Alike x y = canonical x ≡ canonical y

-- a zero of either sign
abbrev pub Zero : Float → Type 0
Zero x = canonical x ≡ nil

pub nought_zero : Zero nought
unfolding of_bits canonical
nought_zero = refl

pub zero_alike : (x : Float) → Zero x → Alike x nought
zero_alike x z = z ∙ sym nought_zero

-- floats that are alike are zeros, or they are one float
pub zero_or_same : (x y : Float) → Alike x y → ((Zero x) × (Zero y)) ⊎ (x ≡ y)
zero_or_same x y e = go (zero_or_own x) (zero_or_own y)
  where
    zero_or_own : (v : Float) → (Zero v) ⊎ (canonical v ≡ v)
    zero_or_own nan = inr (unfold canonical in refl)
    zero_or_own (inf s) = inr (unfold canonical in refl)
    zero_or_own (fin s zero e) = inl (unfold canonical in refl)
    zero_or_own (fin s (suc m) e) = inr (unfold canonical in refl)

    go : (Zero x) ⊎ (canonical x ≡ x) → (Zero y) ⊎ (canonical y ≡ y) → ((Zero x) × (Zero y)) ⊎ (x ≡ y)
    go (inl z) own = inl (z, sym e ∙ z)
    go (inr p) (inl z) = inl (e ∙ z, z)
    go (inr p) (inr q) = inr (sym p ∙ e ∙ q)

-- floats that are alike answer alike where no zero is told from 0.0
alike_by : {A : Type 0} (f : Float → A) → ((s : Bool) (e : ℤ) → f nil ≡ f (fin s zero e)) → (x y : Float) → Alike x y → f x ≡ f y
alike_by f h x y e = sym (by_zeros f h x) ∙ ap f e ∙ by_zeros f h y

-- and so on either side of what has two sides
both_alike : {A : Type 0} (f : Float → Float → A) → ((x y : Float) → f (canonical x) y ≡ f x y) → ((x y : Float) → f x (canonical y) ≡ f x y) →
    (x y a b : Float) → Alike x a → Alike y b → f x y ≡ f a b
both_alike f left right x y a b e g =
    let between : f (canonical x) (canonical y) ≡ f (canonical a) (canonical b) = cc in
    sym (left x y) ∙ sym (right (canonical x) y) ∙ between ∙ right (canonical a) b ∙ left a b

-- one of two, by the same test
pick_alike : (q : Bool) (x y a b : Float) → Alike x a → Alike y b → Alike (cond q x y) (cond q a b)
pick_alike true x y a b e f = e
pick_alike false x y a b e f = f

pub finite_alike : (x y : Float) → Alike x y → finite x ≡ finite y
finite_alike = alike_by finite (λ s e. refl)

-- ---- a sum with a zero is one rounding

unit : (s : Bool) → round binary64 s 0 1 ≡ fin s zero (pos zero)
unfolding round units odd size span climb
unit true = refl
unit false = refl

round_zero : (s : Bool) (a c : ℕ) → a ≡ 0 → 0 < c → Zero (round binary64 s a c)
unfolding canonical
round_zero s a c e h = rw (e, round_same binary64 s 0 c 0 1 h (omega arith) (sym (zero-mul c)), unit s)

module _ (c : ℕ) (p : 0 < c) where
  unlike_left : (u t : Bool) (b : ℕ) (q : Bool) → ltb 0 b ≡ q → Alike (cond q (round binary64 t (b - 0) c) (round binary64 u (0 - b) c)) (round binary64 t b c)
  unlike_left u t b true e = let z : b - 0 ≡ b = omega arith in rw z
  unlike_left u t b false e = let z : b ≡ 0 = omega (arith, ltb-false 0 b e) in round_zero u (0 - b) c (omega arith) p ∙ sym (round_zero t b c z p)

  zero_left : (s t : Bool) (z b : ℕ) → z ≡ 0 → Alike (sum binary64 s z t b c) (round binary64 t b c)
  unfolding sum
  zero_left true true z b e = rw (e, zero-add)
  zero_left false false z b e = rw (e, zero-add)
  zero_left true false z b e = rw e (unlike_left (ltb b 0) false b (ltb 0 b) refl)
  zero_left false true z b e = rw e (unlike_left false true b (ltb 0 b) refl)

  unlike_right : (s : Bool) (a : ℕ) (q : Bool) → ltb 0 a ≡ q → Alike (round binary64 (s && q) (a - 0) c) (round binary64 s a c)
  unlike_right true a true e = let z : a - 0 ≡ a = omega arith in rw z
  unlike_right false a true e = let z : a - 0 ≡ a = omega arith in rw z
  unlike_right s a false e = let z : a ≡ 0 = omega (arith, ltb-false 0 a e) in round_zero _ (a - 0) c (omega arith) p ∙ sym (round_zero s a c z p)

  zero_right : (s t : Bool) (a z : ℕ) → z ≡ 0 → Alike (sum binary64 s a t z c) (round binary64 s a c)
  unfolding sum
  zero_right true true a z e = rw (e, add-zero)
  zero_right false false a z e = rw (e, add-zero)
  zero_right true false a z e = rw (e, le-ltb a 0 (omega arith)) (unlike_right true a (ltb 0 a) refl)
  zero_right false true a z e = rw (e, le-ltb a 0 (omega arith)) (unlike_right false a (ltb 0 a) refl)

-- ---- sums and differences

add_left : (x y : Float) → Alike (add binary64 (canonical x) y) (add binary64 x y)
add_left x y = by_zeros (λ v. canonical (add binary64 v y)) (λ s e. zero_first s e y) x
  where
    zero_first : (s : Bool) (e : ℤ) (y : Float) → Alike (add binary64 nil y) (add binary64 (fin s zero e) y)
    zero_first s e nan = unfold add in refl
    zero_first s e (inf t) = unfold add in refl
    zero_first s e (fin t n d) =
        unfold add in
        zero_left (1 * down d) (mul-pos {m = 1} {n = down d} (omega arith) (down_pos d)) false t (0 * 1 * down d) (n * up d * 1) (simp zero-mul)
        ∙ ap canonical (round_same binary64 t (n * up d * 1) (1 * down d) (n * up d * down e) (down e * down d) (mul-pos {m = 1} {n = down d} (omega arith) (down_pos d)) (mul-pos (down_pos e) (down_pos d)) (simp (mul-one, one-mul, mul_assoc)))
        ∙ sym (zero_left (down e * down d) (mul-pos (down_pos e) (down_pos d)) s t (0 * up e * down d) (n * up d * down e) (simp zero-mul))

add_right : (x y : Float) → Alike (add binary64 x (canonical y)) (add binary64 x y)
add_right x y = by_zeros (λ v. canonical (add binary64 x v)) (λ t d. zero_second t d x) y
  where
    zero_second : (t : Bool) (d : ℤ) (x : Float) → Alike (add binary64 x nil) (add binary64 x (fin t zero d))
    zero_second t d nan = unfold add in refl
    zero_second t d (inf s) = unfold add in refl
    zero_second t d (fin s m e) =
        unfold add in
        zero_right (down e * 1) (mul-pos {m = down e} {n = 1} (down_pos e) (omega arith)) s false (m * up e * 1) (0 * 1 * down e) (simp zero-mul)
        ∙ ap canonical (round_same binary64 s (m * up e * 1) (down e * 1) (m * up e * down d) (down e * down d) (mul-pos {m = down e} {n = 1} (down_pos e) (omega arith)) (mul-pos (down_pos e) (down_pos d)) (simp (mul-one, mul_assoc) (rw (mul_comm (down e) (down d)))))
        ∙ sym (zero_right (down e * down d) (mul-pos (down_pos e) (down_pos d)) s t (m * up e * down d) (0 * up d * down e) (simp zero-mul))

neg_alike : (x y : Float) → Alike x y → Alike (neg x) (neg y)
unfolding canonical neg
neg_alike = alike_by (λ v. canonical (neg v)) (λ s e. refl)

pub add_alike : (x y a b : Float) → Alike x a → Alike y b → Alike (add binary64 x y) (add binary64 a b)
add_alike = both_alike (λ x y. canonical (add binary64 x y)) add_left add_right

pub sub_alike : (x y a b : Float) → Alike x a → Alike y b → Alike (sub binary64 x y) (sub binary64 a b)
unfolding sub
sub_alike x y a b e f = add_alike x (neg y) a (neg b) e (neg_alike y b f)

-- a quotient by one divisor
pub div_alike : (x y d : Float) → Alike x y → Alike (div binary64 x d) (div binary64 y d)
div_alike x y d = alike_by (λ v. canonical (div binary64 v d)) (λ s e. quotient s e d) x y
  where
    quotient : (s : Bool) (e : ℤ) (d : Float) → Alike (div binary64 nil d) (div binary64 (fin s zero e) d)
    quotient s e nan = unfold div in refl
    quotient s e (inf t) = unfold div canonical in refl
    quotient s e (fin t zero d) = unfold div in refl
    quotient s e (fin t (suc n) d) =
        unfold div in rw (ne_eqb (suc n) 0 (λ q. omega arith))
        (round_zero _ (0 * 1 * down d) (suc n * up d * 1) (simp zero-mul) (mul-pos {m = suc n * up d} {n = 1} (mul-pos {m = suc n} {n = up d} (omega arith) (up_pos d)) (omega arith))
        ∙ sym (round_zero _ (0 * up e * down d) (suc n * up d * down e) (simp zero-mul) (mul-pos {m = suc n * up d} {n = down e} (mul-pos {m = suc n} {n = up d} (omega arith) (up_pos d)) (down_pos e))))

-- a number less itself is a zero, and so it is less one alike
itself : (x : Float) → finite x ≡ true → Zero (sub binary64 x x)
unfolding sub add neg sum
itself nan h = absurd (subst T (sym h) tt)
itself (inf s) h = absurd (subst T (sym h) tt)
itself (fin true m e) h = rw (le-ltb (m * up e * down e) (m * up e * down e) (omega arith)) (round_zero false _ (down e * down e) (omega arith) (mul-pos (down_pos e) (down_pos e)))
itself (fin false m e) h = rw (le-ltb (m * up e * down e) (m * up e * down e) (omega arith)) (round_zero false _ (down e * down e) (omega arith) (mul-pos (down_pos e) (down_pos e)))

pub no_difference : (x y : Float) → Alike x y → finite x ≡ true → Zero (sub binary64 x y)
no_difference x y e h = sub_alike x y x x refl (sym e) ∙ itself x h

-- with a zero an f64 stays alike
round_alone : (s : Bool) (m : ℕ) (e : ℤ) → T (fits binary64 (fin s (suc m) e)) → round binary64 s (suc m * up e * 1) (down e * 1) ≡ fin s (suc m) e
round_alone s m e h = rw (mul-one (suc m * up e), mul-one (down e)) (round_itself s m e h)

with_nil : (x : Float) → T (fits binary64 x) → Alike (add binary64 x nil) x
unfolding canonical add
with_nil nan h = refl
with_nil (inf s) h = refl
with_nil (fin s zero e) h =
    zero_right (down e * 1) (mul-pos {m = down e} {n = 1} (down_pos e) (omega arith)) s false (0 * up e * 1) (0 * 1 * down e) (simp zero-mul)
    ∙ round_zero s (0 * up e * 1) (down e * 1) (simp zero-mul) (mul-pos {m = down e} {n = 1} (down_pos e) (omega arith))
with_nil (fin s (suc m) e) h =
    zero_right (down e * 1) (mul-pos {m = down e} {n = 1} (down_pos e) (omega arith)) s false (suc m * up e * 1) (0 * 1 * down e) (simp zero-mul)
    ∙ ap canonical (round_alone s m e h)

pub with_zero : (x z : Float) → T (fits binary64 x) → Zero z → Alike (add binary64 x z) x
with_zero x z h e = sym (add_right x z) ∙ ap (λ (v : Float). canonical (add binary64 x v)) e ∙ with_nil x h

round_second : (s : Bool) (m : ℕ) (e : ℤ) → T (fits binary64 (fin s (suc m) e)) → round binary64 s (suc m * up e * 1) (1 * down e) ≡ fin s (suc m) e
round_second s m e h = rw (mul-one (suc m * up e), one-mul (down e)) (round_itself s m e h)

nil_with : (x : Float) → T (fits binary64 x) → Alike (add binary64 nil x) x
unfolding canonical add
nil_with nan h = refl
nil_with (inf s) h = refl
nil_with (fin s zero e) h =
    zero_left (1 * down e) (mul-pos {m = 1} {n = down e} (omega arith) (down_pos e)) false s (0 * 1 * down e) (0 * up e * 1) (simp zero-mul)
    ∙ round_zero s (0 * up e * 1) (1 * down e) (simp zero-mul) (mul-pos {m = 1} {n = down e} (omega arith) (down_pos e))
nil_with (fin s (suc m) e) h =
    zero_left (1 * down e) (mul-pos {m = 1} {n = down e} (omega arith) (down_pos e)) false s (0 * 1 * down e) (suc m * up e * 1) (simp zero-mul)
    ∙ ap canonical (round_second s m e h)

pub zero_with : (z x : Float) → T (fits binary64 x) → Zero z → Alike (add binary64 z x) x
zero_with z x h e = sym (add_left z x) ∙ ap (λ (v : Float). canonical (add binary64 v x)) e ∙ nil_with x h

-- the square of a zero is a zero
pub square_zero : (z : Float) → Zero z → Zero (mul binary64 z z)
square_zero z h = sym (by_zeros (λ v. canonical (mul binary64 v v)) (λ s e. zero_squared false (pos zero) ∙ sym (zero_squared s e)) z) ∙ ap (λ (v : Float). canonical (mul binary64 v v)) h ∙ zero_squared false (pos zero)
  where
    zero_squared : (s : Bool) (e : ℤ) → Zero (mul binary64 (fin s zero e) (fin s zero e))
    zero_squared s e = unfold mul in round_zero _ (0 * up e * (0 * up e)) (down e * down e) (simp zero-mul) (mul-pos (down_pos e) (down_pos e))

-- ---- comparisons

module _ (x y a b : Float) (e : Alike x a) (f : Alike y b) where
  pub lt_alike : lt x y ≡ lt a b
  lt_alike = both_alike lt lt_canonical canonical_lt x y a b e f

  pub le_alike : le x y ≡ le a b
  le_alike = both_alike le le_canonical canonical_le x y a b e f

  pub eq_alike : eq x y ≡ eq a b
  eq_alike = both_alike eq eq_canonical canonical_eq x y a b e f

  pub smaller_alike : Alike (smaller x y) (smaller a b)
  unfolding smaller
  smaller_alike = rw lt_alike (pick_alike (lt a b) x y a b e f)

pub larger_alike : (x y a b : Float) → Alike x a → Alike y b → Alike (larger x y) (larger a b)
unfolding larger
larger_alike x y a b e f = rw (lt_alike y x b a f e) (pick_alike (lt b a) x y a b e f)

pub absolute_alike : (x y : Float) → Alike x y → Alike (absolute x) (absolute y)
unfolding absolute
absolute_alike x y e = rw (lt_alike x nought y nought e refl) (pick_alike (lt y nought) (neg x) x (neg y) y (neg_alike x y e) e)

-- ---- cells

cell_alike : (f g : ℕ → ℕ → ℕ) → ((d : ℕ) → f 0 d ≡ 0) → ((d : ℕ) → g 0 d ≡ 0) → (x y : Float) → Alike x y → cell_by f g x ≡ cell_by f g y
cell_alike f g p q = alike_by (cell_by f g) zeros
  where
    zeros : (s : Bool) (e : ℤ) → cell_by f g nil ≡ cell_by f g (fin s zero e)
    zeros false e = rw (zero-mul (up e), q 1, q (down e))
    zeros true e = rw (zero-mul (up e), q 1, p (down e))

down_nil : (d : ℕ) → down_div 0 d ≡ 0
down_nil d = zero-div d

up_nil : (d : ℕ) → up_div 0 d ≡ 0
up_nil d = rw (zero-mod d, zero-div d)

pub floor_alike : (x y : Float) → Alike x y → floor_cell x ≡ floor_cell y
unfolding floor_cell
floor_alike = cell_alike up_div down_div up_nil down_nil

pub ceil_alike : (x y : Float) → Alike x y → ceil_cell x ≡ ceil_cell y
unfolding ceil_cell
ceil_alike = cell_alike down_div up_div down_nil up_nil
