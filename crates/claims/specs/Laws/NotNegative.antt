-- Numbers that are not negative, and the operations that give one: costs and estimates are made by these alone.
use Prim.Native.Nat.{ℕ, zero, suc, ◌+◌, ◌-◌, ◌*◌, ◌^◌}
use Rattle.std.proofs.Common.{arith, zero-lt-suc, zero-mul, sym, subst, le-ltb, lt→ltb}
use Rattle.std.specs.Prelude.{◌≡◌, refl, Bool, not, cond, T, ltb, ℤ, Float}
use Rattle.std.proofs.Math.Bool.{true, false}
use Rattle.std.specs.Float.{nan, inf, fin}
use Rattle.std.specs.Float.Ieee.{binary64, fits, low, emax, is_nan, up, down, neg, add, sub, mul, sum, round, units, odd, of_bits}
use Rattle.std.specs.Float.Ieee.Fits.{round_is, add-fits}
use Rattle.std.specs.Float.Ieee.Positive.{positive}
use Rattle.std.specs.Float.Ieee.Scale.{finite}
use Rattle.root.specs.Method.{answer}
use Rattle.root.specs.Distance.{square_root, distance}
use Rattle.root.specs.Laws.{square_root_right}
use Rattle.floats.specs.Floats.{canonical}
use Rattle.arrival.specs.Alike.{Zero}

-- no NaN, and with the sign of 0.0
pub data NotNegative : Float → Type 0 where
  endless : NotNegative (inf false)
  sized : (m : ℕ) (e : ℤ) → NotNegative (fin false m e)

pub is_number : {x : Float} → NotNegative x → is_nan x ≡ false
unfolding is_nan
is_number endless = refl
is_number (sized m e) = refl

-- ---- a rounding gives a finite number or the infinity, with the sign that it is given

module _ (P : Float → Type 0) (s : Bool) (finites : (m : ℕ) (e : ℤ) → P (fin s m e)) (infinity : P (inf s)) where
  of_odd : (d q k l : ℕ) → P (odd d s q k l)
  unfolding odd
  of_odd d zero k l = finites _ _
  of_odd d (suc q) k l = finites _ _

  of_units : (q k : ℕ) → P (units binary64 s q k)
  unfolding units
  of_units q k = go (ltb (q * 2 ^ k) (2 ^ (low binary64 + suc (emax binary64))))
    where
      go : (b : Bool) → P (cond b (odd 54 s q k (low binary64)) (inf s))
      go true = of_odd 54 q k (low binary64)
      go false = infinity

  pub of_rounding : (a c : ℕ) → P (round binary64 s a c)
  of_rounding a c = subst P (sym (round_is binary64 s a c)) (of_units _ _)

rounded : (a c : ℕ) → NotNegative (round binary64 false a c)
rounded = of_rounding NotNegative false sized endless

rounded_number : (s : Bool) (a c : ℕ) → is_nan (round binary64 s a c) ≡ false
rounded_number s = of_rounding (λ x. is_nan x ≡ false) s (λ m e. unfold is_nan in refl) (unfold is_nan in refl)

either : (b : Bool) (x y : Float) → is_nan x ≡ false → is_nan y ≡ false → is_nan (cond b x y) ≡ false
either true x y p q = p
either false x y p q = q

-- ---- sums, squares, multiples and roots

pub sum_not_negative : {x y : Float} → NotNegative x → NotNegative y → NotNegative (add binary64 x y)
unfolding add sum
sum_not_negative endless endless = endless
sum_not_negative endless (sized n d) = endless
sum_not_negative (sized m e) endless = endless
sum_not_negative (sized m e) (sized n d) = rounded (m * up e * down d + n * up d * down e) (down e * down d)

pub square_not_negative : (x : Float) → is_nan x ≡ false → NotNegative (mul binary64 x x)
unfolding mul is_nan
square_not_negative nan h = absurd (subst T h tt)
square_not_negative (inf true) h = endless
square_not_negative (inf false) h = endless
square_not_negative (fin true m e) h = rounded (m * up e * (m * up e)) (down e * down e)
square_not_negative (fin false m e) h = rounded (m * up e * (m * up e)) (down e * down e)

-- a zero of either sign, added on either side
zero_sum : (s : Bool) (a b c : ℕ) → a ≡ 0 → NotNegative (sum binary64 s a false b c)
unfolding sum
zero_sum false a b c e = rounded (a + b) c
zero_sum true a b c e = rw (e, le-ltb b 0 (omega arith)) (go (ltb 0 b))
  where
    go : (q : Bool) → NotNegative (cond q (round binary64 false (b - 0) c) (round binary64 false (0 - b) c))
    go true = rounded (b - 0) c
    go false = rounded (0 - b) c

sum_zero : (s : Bool) (a b c : ℕ) → b ≡ 0 → NotNegative (sum binary64 false a s b c)
unfolding sum
sum_zero false a b c e = rounded (a + b) c
sum_zero true a b c e = rw (e, le-ltb a 0 (omega arith)) (rounded (a - 0) c)

-- tells a zero from the rest
abbrev pub is_no_zero : Float → Bool
is_no_zero nan = true
is_no_zero (inf s) = true
is_no_zero (fin s zero e) = false
is_no_zero (fin s (suc m) e) = true

pub zero_plus : (z : Float) {x : Float} → Zero z → NotNegative x → NotNegative (add binary64 z x)
unfolding add canonical
zero_plus nan h n = absurd (subst (λ v. T (is_no_zero v)) h tt)
zero_plus (inf s) h n = absurd (subst (λ v. T (is_no_zero v)) h tt)
zero_plus (fin s (suc m) e) h n = absurd (subst (λ v. T (is_no_zero v)) h tt)
zero_plus (fin s zero e) h endless = endless
zero_plus (fin s zero e) h (sized n d) = zero_sum s (0 * up e * down d) (n * up d * down e) (down e * down d) (simp zero-mul)

pub plus_zero : {x : Float} (z : Float) → NotNegative x → Zero z → NotNegative (add binary64 x z)
unfolding add canonical
plus_zero nan n h = absurd (subst (λ v. T (is_no_zero v)) h tt)
plus_zero (inf s) n h = absurd (subst (λ v. T (is_no_zero v)) h tt)
plus_zero (fin s (suc m) e) n h = absurd (subst (λ v. T (is_no_zero v)) h tt)
plus_zero (fin s zero e) endless h = endless
plus_zero (fin s zero e) (sized m d) h = sum_zero s (m * up d * down e) (0 * up e * down d) (down d * down e) (simp zero-mul)

-- 1.5 times as much
pub half_more_not_negative : {x : Float} → NotNegative x → NotNegative (mul binary64 (of_bits binary64 0x3ff8_0000_0000_0000) x)
unfolding mul of_bits
half_more_not_negative endless = endless
half_more_not_negative (sized m e) = rounded (3 * 1 * (m * up e)) (2 * down e)

positive_not_negative : (x : Float) → T (positive x) → NotNegative x
positive_not_negative nan p = absurd p
positive_not_negative (inf s) p = absurd p
positive_not_negative (fin true m e) p = absurd p
positive_not_negative (fin false m e) p = sized m e

pub root_not_negative : {x : Float} → T (fits binary64 x) → NotNegative x → NotNegative (square_root x)
unfolding square_root answer
root_not_negative t endless = endless
root_not_negative t (sized zero e) = sized zero e
root_not_negative t (sized (suc m) e) = positive_not_negative _ (square_root_right (fin false (suc m) e) t (lt→ltb 0 (suc m) (zero-lt-suc m))).above_zero

-- ---- differences and distances

-- the difference of two finite numbers is a number, though perhaps an infinity
pub difference_number : (x y : Float) → finite x ≡ true → finite y ≡ true → is_nan (sub binary64 x y) ≡ false
unfolding sub add neg sum
difference_number nan y p q = absurd (subst T (sym p) tt)
difference_number (inf s) y p q = absurd (subst T (sym p) tt)
difference_number (fin s m e) nan p q = absurd (subst T (sym q) tt)
difference_number (fin s m e) (inf t) p q = absurd (subst T (sym q) tt)
difference_number (fin s m e) (fin t n d) p q = summed s (not t) (m * up e * down d) (n * up d * down e) (down e * down d)
  where
    summed : (s t : Bool) (a b c : ℕ) → is_nan (sum binary64 s a t b c) ≡ false
    summed true true a b c = rounded_number true (a + b) c
    summed false false a b c = rounded_number false (a + b) c
    summed true false a b c = either (ltb a b) _ _ (rounded_number false (b - a) c) (rounded_number (ltb b a) (a - b) c)
    summed false true a b c = either (ltb a b) _ _ (rounded_number true (b - a) c) (rounded_number false (a - b) c)

pub distance_not_negative : (x y z : Float) → is_nan x ≡ false → is_nan y ≡ false → is_nan z ≡ false → NotNegative (distance x y z)
unfolding distance
distance_not_negative x y z p q r =
    root_not_negative (add-fits binary64 _ _)
    (sum_not_negative (sum_not_negative (square_not_negative x p) (square_not_negative y q)) (square_not_negative z r))
