-- Numbers that are in size at most so large, and the operations that keep them so: coordinates, distances, costs and estimates are made by these alone.
-- Assumes nothing.
use Prim.Native.Nat.{ℕ, zero, suc, ◌+◌, ◌-◌, ◌*◌, ◌/◌, ◌^◌, ◌≤◌, ◌<◌}
use Rattle.std.proofs.Common.{zero-lt-suc, div-lt_iff_lt-mul, mul-pos, mul-le-mul_right, mul-le-mul, mul_assoc, mul_comm, mul_left_comm, mul_right_comm, mul-one, le_trans, arith, sym, ◌∙◌, lt→ltb, pow_pos}
use Rattle.std.proofs.Math.Nat.{zero-mul, le_of_mul-le-mul_right, add-mul}
use Rattle.std.specs.Prelude.{◌≡◌, Bool, not, ◌&&◌, cond, T, leb, ℤ, pos, Float}
use Rattle.std.proofs.Math.Path.{refl, subst}
use Rattle.std.proofs.Math.Bool.{true, false}
use borrow.Author.Tests.{leb-true, leb-false, ltb-true, ltb-false}
use Rattle.std.proofs.Math.Dec.{ltb}
use Rattle.std.specs.Float.Ieee.{nan, binary64, fits, low, emax, is_nan, up, down, unlike, neg, le, lt, eq, add, sub, mul, sum, round, units, odd, of_int, of_bits}
use Rattle.std.specs.Float.{inf, fin}
use Rattle.std.specs.Float.Ieee.Bits.{is_true}
use Rattle.std.specs.Float.Ieee.Exact.{HasValue}
use Rattle.std.specs.Float.Ieee.Back.{round_whole}
use Rattle.std.specs.Float.Ieee.Fits.{round_is, down_pos, add-fits}
use Rattle.std.specs.Float.Ieee.Order.{round_mono}
use Rattle.std.specs.Float.Ieee.Scale.{finite}
use Rattle.floats.specs.Floats.{nought, absolute}
use Rattle.floats.specs.Order.{false_true, le_fin, le_right, not_lt, le_not_lt}
use Rattle.root.specs.Root.{quanta, IsRoot}
use Rattle.root.specs.Method.{answer}
use Rattle.root.specs.Distance.{square_root, distance}
use Rattle.root.specs.Laws.{square_root_right}
use Rattle.root.specs.Quanta.{quanta_exact}
use Rattle.claims.specs.Laws.NotNegative.{NotNegative, endless, sized, of_rounding, sum_not_negative, square_not_negative}

-- finite, and in size at most n
pub data UpTo (n : ℕ) : Float → Type 0 where
  of_size : (s : Bool) (m : ℕ) (e : ℤ) → m * up e ≤ n * down e → UpTo n (fin s m e)

pub up_to_finite : {n : ℕ} {x : Float} → UpTo n x → finite x ≡ true
up_to_finite (of_size s m e h) = refl

up_to_number : {n : ℕ} {x : Float} → UpTo n x → is_nan x ≡ false
unfolding is_nan
up_to_number (of_size s m e h) = refl

pub up_to_more : {n : ℕ} {x : Float} (k : ℕ) → n ≤ k → UpTo n x → UpTo k x
up_to_more k h (of_size s m e l) = of_size s m e (le_trans l (mul-le-mul_right (down e) h))

neg_up_to : {n : ℕ} {x : Float} → UpTo n x → UpTo n (neg x)
unfolding neg
neg_up_to (of_size s m e h) = of_size (not s) m e h

neg_back : {n : ℕ} (x : Float) → UpTo n (neg x) → UpTo n x
unfolding neg
neg_back nan u = u
neg_back (inf s) u = false_true (up_to_finite u)
neg_back (fin s m e) (of_size t k d h) = of_size s m e h

-- a whole number that is an f64
abbrev pub WholeF64 : ℕ → Type 0
WholeF64 n = HasValue (round binary64 false n 1) false n 1

pub whole_f64 : (n : ℕ) → n ≤ 2 ^ 53 → WholeF64 n
whole_f64 n h = round_whole binary64 false n h

-- ---- roundings

-- a rounding with the other sign is the opposite
units_turned : (q k : ℕ) → units binary64 true q k ≡ neg (units binary64 false q k)
unfolding units neg
units_turned q k = go (ltb (q * 2 ^ k) (2 ^ (low binary64 + suc (emax binary64))))
  where
    written : (q : ℕ) → odd 54 true q k (low binary64) ≡ neg (odd 54 false q k (low binary64))
    written zero = unfold odd in refl
    written (suc q) = unfold odd in refl

    go : (b : Bool) → cond b (odd 54 true q k (low binary64)) (inf true) ≡ neg (cond b (odd 54 false q k (low binary64)) (inf false))
    go true = written q
    go false = refl

round_turned : (a c : ℕ) → round binary64 true a c ≡ neg (round binary64 false a c)
round_turned a c = rw (round_is binary64 true a c, round_is binary64 false a c) (units_turned _ _)

-- against a whole number: from above and from below
below_whole : (n : ℕ) {x : Float} (w : Float) → NotNegative x → HasValue w false n 1 → le x w ≡ true → UpTo n x
below_whole n nan p v h = absurd v
below_whole n (inf s) p v h = absurd v
below_whole n (fin t k j) endless v h = false_true (unfold le lt eq in h)
below_whole n (fin t k j) (sized m e) v h =
    let z : le (fin false m e) (fin false k j) ≡ true = subst (λ (s : Bool). le (fin false m e) (fin s k j) ≡ true) v.0 h in
    let l : m * up e * down j ≤ k * up j * down e = leb-true (m * up e * down j) (k * up j * down e) (sym (le_fin false m e false k j) ∙ z) in
    let i : k * up j ≡ n * down j = sym (mul-one (k * up j)) ∙ v.1 in
    of_size false m e (le_of_mul-le-mul_right (le_trans l (subst (λ (q : ℕ). q * down e ≤ n * down e * down j) (sym i) (subst (λ (q : ℕ). q ≤ n * down e * down j) (mul_right_comm n (down e) (down j)) (omega arith)))) (down_pos j))

above_whole : (n : ℕ) {x : Float} (w : Float) → HasValue w false (suc n) 1 → le w x ≡ true → UpTo n x → ⊥
above_whole n nan v h u = v
above_whole n (inf s) v h u = v
above_whole n (fin t k j) v h (of_size s m e u) =
    let z : le (fin false k j) (fin s m e) ≡ true = subst (λ (q : Bool). le (fin q k j) (fin s m e) ≡ true) v.0 h in
    let i : k * up j ≡ suc n * down j = sym (mul-one (k * up j)) ∙ v.1 in
    go s z i
  where
    most : k * up j * down e ≤ m * up e * down j → k * up j ≡ suc n * down j → ⊥
    most l i =
        let a : m * up e * down j ≤ n * down e * down j = mul-le-mul_right (down j) u in
        let b : k * up j * down e ≡ suc n * down j * down e = rw i in
        let c : suc n * down j * down e ≡ n * down e * down j + down e * down j = simp (mul_assoc, mul_comm) (omega arith) in
        omega (arith, mul-pos (down_pos e) (down_pos j))

    go : (s : Bool) → le (fin false k j) (fin s m e) ≡ true → k * up j ≡ suc n * down j → ⊥
    go false z i = most (leb-true _ _ (sym (le_fin false k j false m e) ∙ z)) i
    go true z i = most (omega (arith, leb-true (k * up j * down e + m * up e * down j) 0 (sym (le_fin false k j true m e) ∙ z))) i

module _ (n : ℕ) (s : Bool) (a c : ℕ) (p : 0 < c) where
  rounded_up_to : WholeF64 n → a ≤ n * c → UpTo n (round binary64 s a c)
  rounded_up_to w h = signed s
    where
      plain : UpTo n (round binary64 false a c)
      plain =
          below_whole n (round binary64 false n 1) (of_rounding NotNegative false sized endless a c) w
          (is_true (le (round binary64 false a c) (round binary64 false n 1)) (round_mono binary64 a c n 1 p (omega arith) (subst (λ (q : ℕ). q ≤ n * c) (sym (mul-one a)) h)))

      signed : (s : Bool) → UpTo n (round binary64 s a c)
      signed false = plain
      signed true = rw (round_turned a c) (neg_up_to plain)

  rounded_back : WholeF64 (suc n) → UpTo n (round binary64 s a c) → a < suc n * c
  rounded_back w u = go (leb (suc n * c) a) refl
    where
      plain : (s : Bool) → UpTo n (round binary64 s a c) → UpTo n (round binary64 false a c)
      plain false u = u
      plain true u = neg_back (round binary64 false a c) (rw (round_turned a c) at u)

      go : (b : Bool) → leb (suc n * c) a ≡ b → a < suc n * c
      go false e = leb-false (suc n * c) a e
      go true e =
          absurd (above_whole n (round binary64 false (suc n) 1) w
          (is_true (le (round binary64 false (suc n) 1) (round binary64 false a c)) (round_mono binary64 (suc n) 1 a c (omega arith) p (omega (arith, leb-true (suc n * c) a e, mul-one a)))) (plain s u))

pub int_up_to : (n : ℕ) → n ≤ 2 ^ 53 → UpTo n (of_int binary64 (pos n))
unfolding of_int
int_up_to n h = rounded_up_to n false n 1 (omega arith) (whole_f64 n h) (omega arith)

-- ---- sums and differences

module _ (a b : ℕ) (w : WholeF64 (a + b)) where
  parts_up_to : (s : Bool) (x : ℕ) (t : Bool) (y c : ℕ) → 0 < c → x ≤ a * c → y ≤ b * c → UpTo (a + b) (sum binary64 s x t y c)
  unfolding sum
  parts_up_to s x t y c p h l = go s t
    where
      both : x + y ≤ (a + b) * c
      both = omega (arith, add-mul a b c)

      apart : (s t : Bool) → UpTo (a + b) (cond (ltb x y) (round binary64 t (y - x) c) (round binary64 (s && ltb y x) (x - y) c))
      apart s t = either (ltb x y)
        where
          either : (q : Bool) → UpTo (a + b) (cond q (round binary64 t (y - x) c) (round binary64 (s && ltb y x) (x - y) c))
          either true = rounded_up_to (a + b) t (y - x) c p w (omega arith)
          either false = rounded_up_to (a + b) (s && ltb y x) (x - y) c p w (omega arith)

      go : (s t : Bool) → UpTo (a + b) (sum binary64 s x t y c)
      go true true = rounded_up_to (a + b) true (x + y) c p w both
      go false false = rounded_up_to (a + b) false (x + y) c p w both
      go true false = apart true false
      go false true = apart false true

  pub sum_up_to : {x y : Float} → UpTo a x → UpTo b y → UpTo (a + b) (add binary64 x y)
  unfolding add
  sum_up_to (of_size s m e h) (of_size t n d l) =
      parts_up_to s (m * up e * down d) t (n * up d * down e) (down e * down d) (mul-pos (down_pos e) (down_pos d))
      (subst (λ (q : ℕ). m * up e * down d ≤ q) (mul_assoc a (down e) (down d)) (mul-le-mul_right (down d) h))
      (let z : b * down d * down e ≡ b * (down e * down d) = simp (mul_assoc, mul_comm) in subst (λ (q : ℕ). n * up d * down e ≤ q) z (mul-le-mul_right (down e) l))

  pub difference_up_to : {x y : Float} → UpTo a x → UpTo b y → UpTo (a + b) (sub binary64 x y)
  unfolding sub
  difference_up_to u v = sum_up_to u (neg_up_to v)

-- a number is bounded by its sum with another, or its difference from it, and that other one
module _ (n k : ℕ) (w : WholeF64 (suc n)) where
  parts_back : (s : Bool) (x : ℕ) (t : Bool) (y c : ℕ) → 0 < c → y ≤ k * c → UpTo n (sum binary64 s x t y c) → x ≤ (suc n + k) * c
  unfolding sum
  parts_back s x t y c p l u = omega (arith, add-mul (suc n) k c, go s t u)
    where
      apart : (s t : Bool) → UpTo n (cond (ltb x y) (round binary64 t (y - x) c) (round binary64 (s && ltb y x) (x - y) c)) → x ≤ suc n * c + k * c
      apart s t u = either (ltb x y) refl u
        where
          either : (q : Bool) → ltb x y ≡ q → UpTo n (cond q (round binary64 t (y - x) c) (round binary64 (s && ltb y x) (x - y) c)) → x ≤ suc n * c + k * c
          either true e u = omega (arith, ltb-true x y e)
          either false e u = omega (arith, rounded_back n (s && ltb y x) (x - y) c p w u)

      go : (s t : Bool) → UpTo n (sum binary64 s x t y c) → x ≤ suc n * c + k * c
      go true true u = omega (arith, rounded_back n true (x + y) c p w u)
      go false false u = omega (arith, rounded_back n false (x + y) c p w u)
      go true false u = apart true false u
      go false true u = apart false true u

  sum_back : (x y : Float) → UpTo k y → UpTo n (add binary64 x y) → UpTo (suc n + k) x
  unfolding add
  sum_back nan y v u = false_true (up_to_finite u)
  sum_back (inf s) y (of_size t j d l) u = false_true (up_to_finite u)
  sum_back (fin s m e) y (of_size t j d l) u =
      of_size s m e (cancel (parts_back s (m * up e * down d) t (j * up d * down e) (down e * down d) (mul-pos (down_pos e) (down_pos d))
      (let z : k * down d * down e ≡ k * (down e * down d) = simp (mul_assoc, mul_comm) in subst (λ (q : ℕ). j * up d * down e ≤ q) z (mul-le-mul_right (down e) l)) u))
    where
      cancel : m * up e * down d ≤ (suc n + k) * (down e * down d) → m * up e ≤ (suc n + k) * down e
      cancel h = le_of_mul-le-mul_right (subst (λ (q : ℕ). m * up e * down d ≤ q) (sym (mul_assoc (suc n + k) (down e) (down d))) h) (down_pos d)

  pub difference_back : (x y : Float) → UpTo k y → UpTo n (sub binary64 x y) → UpTo (suc n + k) x
  unfolding sub
  difference_back x y v u = sum_back x (neg y) (neg_up_to v) u

-- ---- comparisons

under : (n m : ℕ) (e : ℤ) (t : Bool) (k : ℕ) (j : ℤ) → k * up j ≤ n * down j → le (fin false m e) (fin t k j) ≡ true → m * up e ≤ n * down e
under n m e t k j u h =
    le_of_mul-le-mul_right (le_trans (go t h) (subst (λ (q : ℕ). k * up j * down e ≤ q) (mul_right_comm n (down j) (down e)) (mul-le-mul_right (down e) u))) (down_pos j)
  where
    go : (t : Bool) → le (fin false m e) (fin t k j) ≡ true → m * up e * down j ≤ k * up j * down e
    go false h = leb-true _ _ (sym (le_fin false m e false k j) ∙ h)
    go true h = omega (arith, leb-true (m * up e * down j + k * up j * down e) 0 (sym (le_fin false m e true k j) ∙ h))

-- what is in size at most a bounded number is so bounded
pub size_up_to : (n : ℕ) (x : Float) {most : Float} → UpTo n most → le (absolute x) most ≡ true → UpTo n x
unfolding absolute lt neg of_bits
size_up_to n nan (of_size t k j u) h = false_true (unfold le eq in h)
size_up_to n (inf true) (of_size t k j u) h = false_true (unfold le eq in h)
size_up_to n (inf false) (of_size t k j u) h = false_true (unfold le eq in h)
size_up_to n (fin false m e) (of_size t k j u) h = of_size false m e (go (ltb (m * up e * 1) (0 * 1 * down e)) refl h)
  where
    go : (b : Bool) → ltb (m * up e * 1) (0 * 1 * down e) ≡ b → le (cond b (fin true m e) (fin false m e)) (fin t k j) ≡ true → m * up e ≤ n * down e
    go true p h = absurd (omega (arith, ltb-true (m * up e * 1) (0 * 1 * down e) p))
    go false p h = under n m e t k j u h
size_up_to n (fin true m e) (of_size t k j u) h = of_size true m e (go (ltb 0 (m * up e * 1 + 0 * 1 * down e)) refl h)
  where
    go : (b : Bool) → ltb 0 (m * up e * 1 + 0 * 1 * down e) ≡ b → le (cond b (fin false m e) (fin true m e)) (fin t k j) ≡ true → m * up e ≤ n * down e
    go true p h = under n m e t k j u h
    go false p h = omega (arith, ltb-false 0 (m * up e * 1 + 0 * 1 * down e) p)

-- what is from 0 to a whole number
pub from_nought_up_to : (n : ℕ) (x : Float) → n ≤ 2 ^ 53 → le nought x ≡ true → lt (of_int binary64 (pos n)) x ≡ false → UpTo n x
unfolding absolute
from_nought_up_to n x few h l =
    let top = int_up_to n few in
    let positive = le_not_lt nought x h in
    size_up_to n x top (rw positive (not_lt (of_int binary64 (pos n)) x (up_to_number top) (le_right nought x h) l))

-- ---- squares, one and a half times, roots and distances

square_up_to : (a : ℕ) {x : Float} → WholeF64 (a * a) → UpTo a x → UpTo (a * a) (mul binary64 x x)
unfolding mul
square_up_to a w (of_size s m e h) =
    let r : a * down e * (a * down e) ≡ a * a * (down e * down e) = simp (mul_assoc, mul_left_comm) in
    rounded_up_to (a * a) (unlike s s) (m * up e * (m * up e)) (down e * down e) (mul-pos (down_pos e) (down_pos e)) w
    (subst (λ (q : ℕ). m * up e * (m * up e) ≤ q) r (mul-le-mul h h))

pub half_more_up_to : (a : ℕ) {x : Float} → WholeF64 (2 * a) → UpTo a x → UpTo (2 * a) (mul binary64 (of_bits binary64 0x3ff8_0000_0000_0000) x)
unfolding mul of_bits
half_more_up_to a w (of_size s m e h) =
    let r : 2 * a * (2 * down e) ≡ 4 * (a * down e) = simp (mul_assoc, mul_left_comm) (omega arith) in
    rounded_up_to (2 * a) (unlike false s) (3 * 1 * (m * up e)) (2 * down e) (omega (arith, down_pos e)) w (omega arith)

-- in quanta: a root above 2 ^ 34 would have a square above 2 ^ 68
too_far : (q r y x : ℕ) → y ≡ 17179869184 * q → x ≤ 295147905179352825856 * q → y < r → (r + y) * (r + y) < 4 * (x * q) → ⊥
too_far q r y x e h l k =
    let a : (y + y) * (y + y) ≤ (r + y) * (r + y) = mul-le-mul (omega arith) (omega arith) in
    let b : x * q ≤ 295147905179352825856 * q * q = mul-le-mul_right q h in
    let c : (y + y) * (y + y) ≡ 4 * (295147905179352825856 * q * q) = rw e (squared q) in
    omega arith
  where
    squared : (q : ℕ) → (17179869184 * q + 17179869184 * q) * (17179869184 * q + 17179869184 * q) ≡ 4 * (295147905179352825856 * q * q)
    squared q =
        let z : 17179869184 * q + 17179869184 * q ≡ 34359738368 * q = omega arith in
        rw z (let w : 34359738368 * q * (34359738368 * q) ≡ 34359738368 * 34359738368 * (q * q) = simp (mul_assoc, mul_left_comm) in
        let v : 295147905179352825856 * q * q ≡ 295147905179352825856 * (q * q) = mul_assoc 295147905179352825856 q q in
        omega (arith, w, v))

-- 2 ^ 34
farthest : Float
farthest = fin false 1 (pos 34)

farthest_quanta : quanta farthest ≡ 17179869184 * 2 ^ 1074
unfolding quanta farthest
farthest_quanta = refl

farthest_fits : T (fits binary64 farthest)
unfolding farthest fits
farthest_fits = tt

few_quanta : (n q m : ℕ) (e : ℤ) → m * up e ≤ n * down e → m * up e * q / down e ≤ n * q
few_quanta n q m e h =
    let p : m * up e * q ≤ n * q * down e = subst (λ (z : ℕ). m * up e * q ≤ z) (mul_right_comm n (down e) q) (mul-le-mul_right q h) in
    let l : m * up e * q < (n * q + 1) * down e = omega (arith, add-mul (n * q) 1 (down e), down_pos e) in
    omega (arith, (div-lt_iff_lt-mul {k = down e} {x = m * up e * q} {y = n * q + 1} (down_pos e)).1 l)

by_root : (x r : Float) → IsRoot x r → quanta x ≤ 295147905179352825856 * 2 ^ 1074 → UpTo 17179869184 r
unfolding farthest
by_root x nan v h = absurd v.above_zero
by_root x (inf s) v h = absurd v.above_zero
by_root x (fin true k j) v h = absurd v.above_zero
by_root x (fin false k j) v h =
    of_size false k j (cancel (2 ^ 1074) (quanta (fin false k j)) (pow_pos 1074) (quanta_exact (fin false k j) v.held tt) (go (leb (quanta (fin false k j)) (17179869184 * 2 ^ 1074)) refl))
  where
    go : (b : Bool) → leb (quanta (fin false k j)) (17179869184 * 2 ^ 1074) ≡ b → quanta (fin false k j) ≤ 17179869184 * 2 ^ 1074
    go true e = leb-true _ _ e
    go false e =
        let far : quanta farthest < quanta (fin false k j) =
        subst (λ (z : ℕ). z < quanta (fin false k j)) (sym farthest_quanta) (leb-false (quanta (fin false k j)) (17179869184 * 2 ^ 1074) e) in
        absurd (too_far (2 ^ 1074) (quanta (fin false k j)) (quanta farthest) (quanta x) farthest_quanta h far (v.from_below farthest farthest_fits far))

    cancel : (q r : ℕ) → 0 < q → k * up j * q ≡ r * down j → r ≤ 17179869184 * q → k * up j ≤ 17179869184 * down j
    cancel q r p e l =
        le_of_mul-le-mul_right
        (subst (λ (z : ℕ). z ≤ 17179869184 * down j * q) (sym e) (subst (λ (z : ℕ). r * down j ≤ z) (mul_right_comm 17179869184 q (down j)) (mul-le-mul_right (down j) l))) p

root_up_to : {x : Float} → T (fits binary64 x) → NotNegative x → UpTo 295147905179352825856 x → UpTo 17179869184 (square_root x)
root_up_to t (sized zero e) u = unfold square_root answer in of_size false zero e (omega (arith, zero-mul (up e)))
root_up_to t endless u = elim u [ ]
root_up_to t (sized (suc m) e) (of_size s n d h) =
    by_root (fin false (suc m) e) (square_root (fin false (suc m) e)) (square_root_right (fin false (suc m) e) t (lt→ltb 0 (suc m) (zero-lt-suc m)))
    (unfold quanta in few_quanta 295147905179352825856 (2 ^ 1074) (suc m) e h)

-- how far apart two points are, of whose coordinates each pair differs by at most 2 ^ 33: three squares of 2 ^ 66, whose root is below 2 ^ 34
square_whole : WholeF64 (2 ^ 33 * 2 ^ 33)
unfolding round
square_whole = (refl, refl)

two_whole : WholeF64 (2 ^ 33 * 2 ^ 33 + 2 ^ 33 * 2 ^ 33)
unfolding round
two_whole = (refl, refl)

three_whole : WholeF64 (2 ^ 33 * 2 ^ 33 + 2 ^ 33 * 2 ^ 33 + 2 ^ 33 * 2 ^ 33)
unfolding round
three_whole = (refl, refl)

pub distance_up_to : {x y z : Float} → UpTo (2 ^ 33) x → UpTo (2 ^ 33) y → UpTo (2 ^ 33) z → UpTo (2 ^ 34) (distance x y z)
unfolding distance
distance_up_to u v w =
    root_up_to (add-fits binary64 _ _)
    (sum_not_negative (sum_not_negative (square_not_negative _ (up_to_number u)) (square_not_negative _ (up_to_number v))) (square_not_negative _ (up_to_number w)))
    (up_to_more 295147905179352825856 (omega arith)
    (sum_up_to (2 ^ 33 * 2 ^ 33 + 2 ^ 33 * 2 ^ 33) (2 ^ 33 * 2 ^ 33) three_whole
    (sum_up_to (2 ^ 33 * 2 ^ 33) (2 ^ 33 * 2 ^ 33) two_whole (square_up_to (2 ^ 33) square_whole u) (square_up_to (2 ^ 33) square_whole v)) (square_up_to (2 ^ 33) square_whole w)))
