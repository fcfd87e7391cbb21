-- A sum of two f64s is -0.0 only where both are: a sum that is no zero is one of the smallest f64s at least, so it is not rounded to a zero, and a sum that is
-- exactly zero is 0.0 but of two that are negative.
use Rattle.std.proofs.Common.{ℕ, zero, suc, ◌+◌, ◌-◌, ◌*◌, ◌/◌, ◌%◌, ◌^◌, ◌≤◌, ◌<◌, zero-mul, mul_comm, mul_assoc, mul_left_comm, mul-pos, mul-le-mul_right, add-mul, one-mul, le-div_iff_mul-le, arith, sym, ap, ◌∙◌, ltb-true, ltb-false, ne_eqb, pow_pos}
use Prim.Native.Nat.{compare}
use Rattle.std.specs.Prelude.{◌≡◌, refl, Bool, true, false, ◌&&◌, cond, T, ltb, eqb, ℤ, pos, negsuc, Float}
use Rattle.std.specs.Float.{nan, inf, fin, binary64}
use Rattle.std.specs.Float.Ieee.{prec, emax, low, fits, up, down, size, nearest, odd, units, round, sum, add, of_int, of_bits}
use Rattle.std.specs.Float.Ieee.Digits.{size-lt, size_reaches}
use Rattle.std.specs.Float.Ieee.Exact.{HasValue, odd_sign}
use Rattle.std.specs.Float.Ieee.Fits.{up_pos, down_pos, round_is}
use Rattle.std.specs.Float.Ieee.Nearest.{nearest-ge}
use Rattle.arrival.specs.Exact.{fine_unit}
use Rattle.arrival.specs.MinusZero.{minus_zero, is_minus_zero}

pub not_minus : (x : Float) → is_minus_zero x ≡ false → x ≡ minus_zero → ⊥
unfolding of_bits
not_minus x h e = let z : false ≡ true = sym h ∙ ap is_minus_zero e in let y : ◌≡◌ {A = ℕ} 0 1 = cc in omega arith

-- ---- a rounding

-- of a size above 0
sized : (x : Float) (s : Bool) (a c : ℕ) → HasValue x s a c → 0 < a → is_minus_zero x ≡ false
sized nan s a c v h = refl
sized (inf t) s a c v h = refl
sized (fin t zero e) s a c v h = absurd (omega (arith, v.1, zero-mul (up e), zero-mul c, mul-pos {m = a} {n = down e} h (down_pos e)))
sized (fin t (suc m) e) s a c v h = rw (ne_eqb (suc m) 0 (λ q. omega arith)) (neither t)
  where
    neither : (t : Bool) → (t && false) ≡ false
    neither true = refl
    neither false = refl

units_sized : (s : Bool) (q k : ℕ) → 0 < q → is_minus_zero (units binary64 s q k) ≡ false
unfolding units
units_sized s q k h = go (ltb (q * 2 ^ k) (2 ^ (low binary64 + suc (emax binary64))))
  where
    go : (b : Bool) → is_minus_zero (cond b (odd (suc (prec binary64)) s q k (low binary64)) (inf s)) ≡ false
    go true = sized (odd (suc (prec binary64)) s q k (low binary64)) s (q * 2 ^ k) (2 ^ low binary64) (odd_sign (suc (prec binary64)) s q k (low binary64)) (mul-pos {m = q} {n = 2 ^ k} h (pow_pos k))
    go false = refl

-- of a fraction that is one of the smallest f64s at least
pub round_sized : (s : Bool) (a c : ℕ) → 0 < c → c ≤ a * 2 ^ low binary64 → is_minus_zero (round binary64 s a c) ≡ false
round_sized s a c p h = rw (round_is binary64 s a c) (units_sized s (nearest (n / u) (compare (n % u * 2) u)) k (omega (arith, nearest-ge (n / u) (compare (n % u * 2) u), some)))
  where
    n : ℕ
    n = a * 2 ^ low binary64

    k : ℕ
    k = size (n / c) - prec binary64

    u : ℕ
    u = c * 2 ^ k

    one : 1 ≤ n / c
    one = (le-div_iff_mul-le p).1 (rw (one-mul c) h)

    within : 2 ^ k ≤ n / c
    within = size_reaches (n / c) k (go (size (n / c)) (size-lt (n / c)))
      where
        go : (z : ℕ) → n / c < 2 ^ z → z - prec binary64 < z
        go zero l = absurd (omega (arith, one))
        go (suc z) l = omega arith

    some : 1 ≤ n / u
    some = (le-div_iff_mul-le (mul-pos p (pow_pos k))).1 (rw (one-mul u, mul_comm c (2 ^ k)) ((le-div_iff_mul-le p).0 within))

-- of no sign
units_plus : (q k : ℕ) → is_minus_zero (units binary64 false q k) ≡ false
unfolding units odd
units_plus q k = go (ltb (q * 2 ^ k) (2 ^ (low binary64 + suc (emax binary64)))) q
  where
    go : (b : Bool) (q : ℕ) → is_minus_zero (cond b (odd (suc (prec binary64)) false q k (low binary64)) (inf false)) ≡ false
    go true zero = refl
    go true (suc q) = refl
    go false q = refl

pub round_plus : (a c : ℕ) → is_minus_zero (round binary64 false a c) ≡ false
round_plus a c = rw (round_is binary64 false a c) (units_plus _ _)

-- ---- a sum

-- over l smallest ones to 1: of two fractions over c that are whole numbers of them
module _ (l a b c x y : ℕ) (p : 0 < c) (q : 0 < l) (i : a * l ≡ x * c) (j : b * l ≡ y * c) where
  -- the difference is one of them at least
  apart : a < b → c ≤ (b - a) * l
  apart h =
      let back : a + (b - a) ≡ b = omega arith in
      go (ltb x y) refl (ap (λ (v : ℕ). v * l) (sym back) ∙ add-mul a (b - a) l)
    where
      go : (t : Bool) → ltb x y ≡ t → b * l ≡ a * l + (b - a) * l → c ≤ (b - a) * l
      go true e all =
          let less : x + 1 ≤ y = omega (arith, ltb-true x y e) in
          let more : (x + 1) * c ≤ y * c = mul-le-mul_right c less in
          omega (arith, all, i, j, add-mul x 1 c, one-mul c, more)
      go false e all =
          let more : y * c ≤ x * c = mul-le-mul_right c (ltb-false x y e) in
          absurd (omega (arith, all, i, j, more, mul-pos {m = b - a} {n = l} (omega arith) q))

  -- and so is the sum
  enough : 0 < b → c ≤ (a + b) * l
  enough h = go y j
    where
      go : (y : ℕ) → b * l ≡ y * c → c ≤ (a + b) * l
      go zero e = absurd (omega (arith, e, zero-mul c, mul-pos {m = b} {n = l} h q))
      go (suc y) e = omega (arith, e, add-mul a b l, add-mul y 1 c, one-mul c)

sum_sized : (s t : Bool) (a b c x y : ℕ) → 0 < c → a * 2 ^ low binary64 ≡ x * c → b * 2 ^ low binary64 ≡ y * c → (t ≡ true → 0 < b) → is_minus_zero (sum binary64 s a t b c) ≡ false
unfolding sum
sum_sized false false a b c x y p i j h = round_plus (a + b) c
sum_sized true true a b c x y p i j h = round_sized true (a + b) c p (enough (2 ^ low binary64) a b c x y p (pow_pos (low binary64)) i j (h refl))
sum_sized false true a b c x y p i j h = go (ltb a b) refl
  where
    go : (q : Bool) → ltb a b ≡ q → is_minus_zero (cond q (round binary64 true (b - a) c) (round binary64 false (a - b) c)) ≡ false
    go true e = round_sized true (b - a) c p (apart (2 ^ low binary64) a b c x y p (pow_pos (low binary64)) i j (ltb-true a b e))
    go false e = round_plus (a - b) c
sum_sized true false a b c x y p i j h = go (ltb a b) (ltb b a) refl
  where
    go : (q r : Bool) → ltb b a ≡ r → is_minus_zero (cond q (round binary64 false (b - a) c) (round binary64 r (a - b) c)) ≡ false
    go true r e = round_plus (b - a) c
    go false true e = round_sized true (a - b) c p (apart (2 ^ low binary64) b a c y x p (pow_pos (low binary64)) j i (ltb-true b a e))
    go false false e = round_plus (a - b) c

pub sum_not_minus : (x y : Float) → T (fits binary64 x) → T (fits binary64 y) → is_minus_zero y ≡ false → is_minus_zero (add binary64 x y) ≡ false
unfolding add
sum_not_minus nan y f g h = refl
sum_not_minus (inf s) nan f g h = refl
sum_not_minus (inf true) (inf true) f g h = refl
sum_not_minus (inf true) (inf false) f g h = refl
sum_not_minus (inf false) (inf true) f g h = refl
sum_not_minus (inf false) (inf false) f g h = refl
sum_not_minus (inf s) (fin t n d) f g h = refl
sum_not_minus (fin s m e) nan f g h = refl
sum_not_minus (fin s m e) (inf t) f g h = refl
sum_not_minus (fin s m e) (fin t n d) f g h =
    let a = fine_unit s m e f in
    let b = fine_unit t n d g in
    sum_sized s t (m * up e * down d) (n * up d * down e) (down e * down d) (m * up e * a.0) (n * up d * b.0) (mul-pos (down_pos e) (down_pos d))
    (rw (← a.1) (simp (mul_assoc, mul_comm, mul_left_comm)))
    (rw (← b.1) (simp (mul_assoc, mul_comm, mul_left_comm)))
    (above t n h)
  where
    above : (t : Bool) (n : ℕ) → (t && eqb n 0) ≡ false → t ≡ true → 0 < n * up d * down e
    above true zero q r = absurd (let y : ◌≡◌ {A = ℕ} 0 1 = cc in omega arith)
    above true (suc n) q r = mul-pos {m = suc n * up d} {n = down e} (mul-pos {m = suc n} {n = up d} (omega arith) (up_pos d)) (down_pos e)
    above false n q r = absurd (let y : ◌≡◌ {A = ℕ} 0 1 = cc in omega arith)

-- a whole number is never -0.0
pub whole_not_minus : (z : ℤ) → is_minus_zero (of_int binary64 z) ≡ false
unfolding of_int
whole_not_minus (pos n) = round_plus n 1
whole_not_minus (negsuc n) = round_sized true (suc n) 1 (omega arith) (mul-pos {m = suc n} {n = 2 ^ low binary64} (omega arith) (pow_pos (low binary64)))
