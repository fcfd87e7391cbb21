-- A sum with a number that is not negative keeps the order of what is not negative: what `joins within E` goes by.
use Rattle.std.specs.Prelude.{ℕ, ◌+◌, ◌-◌, ◌*◌, ◌≤◌, ◌≡◌, Bool, T, ℤ, pos, Float}
use Rattle.std.proofs.Common.{add-mul, zero-mul, mul_assoc, mul_left_comm, mul-le-mul_right, mul-pos, sym, ◌∙◌}
use native.Mathlib.Omega.{arith}
use Rattle.std.proofs.Math.Path.{refl}
use Rattle.std.proofs.Math.Bool.{true, false, cond}
use borrow.Author.Tests.{leb-true, ltb-false}
use Rattle.std.proofs.Math.Dec.{ltb}
use Rattle.std.specs.Float.Ieee.{nan, binary64, is_nan, lt, le, eq, up, down, add, sum, round, of_bits}
use Rattle.std.specs.Float.{inf, fin}
use Rattle.std.specs.Float.Ieee.Fits.{down_pos}
use Rattle.std.specs.Float.Ieee.Order.{round_mono}
use Rattle.floats.specs.Floats.{E, nought}
use Rattle.floats.specs.Order.{false_true, le_fin, le_left, le_trans, top_end}

yes : (b : Bool) → T b → b ≡ true
yes true t = refl
yes false t = absurd t

-- the size of a number that is not negative is that of its fraction, whatever its sign says of a zero
not_negative : (m : ℕ) (e : ℤ) → le nought (fin true m e) ≡ true → m * up e ≡ 0
unfolding of_bits
not_negative m e h = omega (arith, leb-true (0 * 1 * down e + m * up e * 1) 0 (sym (le_fin false 0 (pos 0) true m e) ∙ h))

-- a number no larger has no larger size
sized : (s t : Bool) (m k : ℕ) (e f : ℤ) → le nought (fin s m e) ≡ true → le (fin s m e) (fin t k f) ≡ true → m * up e * down f ≤ k * up f * down e
sized true t m k e f h l = rw (not_negative m e h, zero-mul) (omega arith)
sized false false m k e f h l = leb-true _ _ (sym (le_fin false m e false k f) ∙ l)
sized false true m k e f h l = omega (arith, leb-true (m * up e * down f + k * up f * down e) 0 (sym (le_fin false m e true k f) ∙ l))

-- two sums with one number q / dd, over one denominator
both : (a b q de df dd : ℕ) → a * df ≤ b * de → (a * dd + q * de) * (df * dd) ≤ (b * dd + q * df) * (de * dd)
both a b q de df dd h =
    let x : a * dd * (df * dd) ≡ a * df * (dd * dd) = simp (mul_assoc, mul_left_comm) in
    let y : b * dd * (de * dd) ≡ b * de * (dd * dd) = simp (mul_assoc, mul_left_comm) in
    let z : q * de * (df * dd) ≡ q * df * (de * dd) = simp (mul_assoc, mul_left_comm) in
    omega (arith, add-mul (a * dd) (q * de) (df * dd), add-mul (b * dd) (q * df) (de * dd), mul-le-mul_right (dd * dd) h)

module _ (n : ℕ) (d : ℤ) where
  abbrev size : ℕ → ℤ → ℕ
  size m e = m * up e * down d + n * up d * down e

  abbrev with : Float → Float
  with x = add binary64 x (fin false n d)

  -- the sum, as one rounding
  sum_is : (s : Bool) (m : ℕ) (e : ℤ) → le nought (fin s m e) ≡ true → with (fin s m e) ≡ round binary64 false (size m e) (down e * down d)
  unfolding add sum
  sum_is false m e h = refl
  sum_is true m e h = rw (not_negative m e h, zero-mul) (go (ltb 0 (n * up d * down e)) refl)
    where
      go : (t : Bool) → ltb 0 (n * up d * down e) ≡ t →
          cond t (round binary64 false (n * up d * down e - 0) (down e * down d)) (round binary64 (ltb (n * up d * down e) 0) (0 - n * up d * down e) (down e * down d))
          ≡ round binary64 false (0 + n * up d * down e) (down e * down d)
      go true p = let z : n * up d * down e - 0 ≡ 0 + n * up d * down e = omega arith in rw z
      go false p = let z : n * up d * down e ≡ 0 = omega (arith, ltb-false 0 (n * up d * down e) p) in rw z

  rounds_in_order : (m k : ℕ) (e f : ℤ) → m * up e * down f ≤ k * up f * down e →
      le (round binary64 false (size m e) (down e * down d)) (round binary64 false (size k f) (down f * down d)) ≡ true
  rounds_in_order m k e f h =
      yes _ (round_mono binary64 (size m e) (down e * down d) (size k f) (down f * down d) (mul-pos (down_pos e) (down_pos d)) (mul-pos (down_pos f) (down_pos d))
      (both (m * up e) (k * up f) (n * up d) (down e) (down f) (down d) h))

  number : (s : Bool) (m : ℕ) (e : ℤ) → le nought (fin s m e) ≡ true → is_nan (with (fin s m e)) ≡ false
  number s m e h = rw (sum_is s m e h) (le_left _ _ (rounds_in_order m m e e (omega arith)))

  pub sum_grows : (x y : Float) → le nought x ≡ true → le x y ≡ true → le (with x) (with y) ≡ true
  unfolding le lt eq of_bits add
  sum_grows nan y h k = false_true h
  sum_grows (inf true) y h k = false_true h
  sum_grows (inf false) nan h k = false_true k
  sum_grows (inf false) (inf true) h k = false_true k
  sum_grows (inf false) (inf false) h k = refl
  sum_grows (inf false) (fin t l f) h k = false_true k
  sum_grows (fin s m e) nan h k = false_true k
  sum_grows (fin s m e) (inf true) h k = false_true k
  sum_grows (fin s m e) (inf false) h k = top_end (with (fin s m e)) (number s m e h)
  sum_grows (fin s m e) (fin t l f) h k =
      rw (sum_is s m e h, sum_is t l f (le_trans nought (fin s m e) (fin t l f) h k)) (rounds_in_order m l e f (sized s t m l e f h k))

-- E behind what is covered is no less of what is covered further
pub within_grows : (x y : Float) → le nought x ≡ true → le x y ≡ true → le (add binary64 x E) (add binary64 y E) ≡ true
unfolding of_bits
within_grows x y h k = sum_grows _ _ x y h k
