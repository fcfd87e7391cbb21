-- The difference to a lower number keeps the order: what is further than E above a height stays so further up.
use Rattle.std.specs.Prelude.{ℕ, zero, suc, ◌+◌, ◌-◌, ◌*◌, ◌≤◌, ◌<◌, ◌≡◌, refl, Bool, true, false, T, ℤ, Float}
use Rattle.std.proofs.Common.{add-mul, zero-mul, mul_assoc, mul_left_comm, mul-le-mul_right, mul-pos, arith, sym, ap, ◌∙◌, leb-true, ltb-true, le-ltb}
use Rattle.std.specs.Float.{nan, inf, fin}
use Rattle.std.specs.Float.Ieee.{binary64, is_nan, lt, le, eq, up, down, neg, add, sub, sum, round}
use Rattle.std.specs.Float.Ieee.Fits.{down_pos}
use Rattle.std.specs.Float.Ieee.Order.{round_mono}
use Rattle.floats.specs.Order.{false_true, le_fin, le_left, le_refl, lt_le_trans, top_end}

yes : (b : Bool) → T b → b ≡ true
yes true t = refl
yes false t = absurd t

-- ±a - ±b, where it is not below 0
abbrev gap : Bool → ℕ → Bool → ℕ → ℕ
gap false a false b = a - b
gap false a true b = a + b
gap true a false b = 0
gap true a true b = b - a

-- the difference to a lower number, as one rounding
difference_is : (s : Bool) (m : ℕ) (e : ℤ) (t : Bool) (n : ℕ) (d : ℤ) → lt (fin t n d) (fin s m e) ≡ true →
    sub binary64 (fin s m e) (fin t n d) ≡ round binary64 false (gap s (m * up e * down d) t (n * up d * down e)) (down e * down d)
unfolding sub neg add sum lt
difference_is false m e false n d h =
    let z = le-ltb (m * up e * down d) (n * up d * down e) (omega (arith, ltb-true (n * up d * down e) (m * up e * down d) h)) in rw z
difference_is false m e true n d h = refl
difference_is true m e false n d h = false_true h
difference_is true m e true n d h = rw h

-- ---- two differences over one denominator

minus_mul : (a b c : ℕ) → b ≤ a → (a - b) * c + b * c ≡ a * c
minus_mul a b c h = let z : a - b + b ≡ a = omega arith in sym (add-mul (a - b) b c) ∙ ap (λ (v : ℕ). v * c) z

scaled : (a k de df dd : ℕ) → a * df ≤ k * de → a * dd * (df * dd) ≤ k * dd * (de * dd)
scaled a k de df dd h =
    let x : a * dd * (df * dd) ≡ a * df * (dd * dd) = simp (mul_assoc, mul_left_comm) in
    let y : k * dd * (de * dd) ≡ k * de * (dd * dd) = simp (mul_assoc, mul_left_comm) in
    omega (arith, mul-le-mul_right (dd * dd) h)

swapped : (q de df dd : ℕ) → q * de * (df * dd) ≡ q * df * (de * dd)
swapped q de df dd = simp (mul_assoc, mul_left_comm)

-- a size that is none at one scale is none
none_of : (a d : ℕ) → 0 < d → a * d ≤ 0 → a ≡ 0
none_of zero d p h = refl
none_of (suc a) d p h = absurd (omega (arith, mul-pos {m = suc a} {n = d} (omega arith) p))

-- of x at most y, both above k: the gap to x is at most that to y
module _ (t : Bool) (n : ℕ) (d : ℤ) where
  abbrev to : Bool → ℕ → ℤ → ℕ
  to s m e = gap s (m * up e * down d) t (n * up d * down e)

gaps_in_order : (s u : Bool) (m k : ℕ) (e f : ℤ) (t : Bool) (n : ℕ) (d : ℤ) → lt (fin t n d) (fin s m e) ≡ true → lt (fin t n d) (fin u k f) ≡ true → le (fin s m e) (fin u k f) ≡ true →
    to t n d s m e * (down f * down d) ≤ to t n d u k f * (down e * down d)
unfolding lt
gaps_in_order false false m k e f false n d h g l =
    omega (
      arith,
      minus_mul (m * up e * down d) (n * up d * down e) (down f * down d) (omega (arith, ltb-true (n * up d * down e) (m * up e * down d) h)),
      minus_mul (k * up f * down d) (n * up d * down f) (down e * down d) (omega (arith, ltb-true (n * up d * down f) (k * up f * down d) g)),
      swapped (n * up d) (down e) (down f) (down d),
      scaled (m * up e) (k * up f) (down e) (down f) (down d) (leb-true _ _ (sym (le_fin false m e false k f) ∙ l)),
    )
gaps_in_order false true m k e f false n d h g l = false_true g
gaps_in_order true u m k e f false n d h g l = false_true h
gaps_in_order false false m k e f true n d h g l =
    omega (
      arith,
      add-mul (m * up e * down d) (n * up d * down e) (down f * down d),
      add-mul (k * up f * down d) (n * up d * down f) (down e * down d),
      swapped (n * up d) (down e) (down f) (down d),
      scaled (m * up e) (k * up f) (down e) (down f) (down d) (leb-true _ _ (sym (le_fin false m e false k f) ∙ l)),
    )
gaps_in_order false true m k e f true n d h g l =
    let z = leb-true (m * up e * down f + k * up f * down e) 0 (sym (le_fin false m e true k f) ∙ l) in
    let x : m * up e ≡ 0 = none_of (m * up e) (down f) (down_pos f) (omega arith) in
    let y : k * up f ≡ 0 = none_of (k * up f) (down e) (down_pos e) (omega arith) in
    let before : 0 + n * up d * down e ≡ n * up d * down e = omega arith in
    let behind : n * up d * down f - 0 ≡ n * up d * down f = omega arith in
    rw (x, y, zero-mul, before, behind) (omega (arith, swapped (n * up d) (down e) (down f) (down d)))
gaps_in_order true false m k e f true n d h g l =
    omega (
      arith,
      minus_mul (n * up d * down e) (m * up e * down d) (down f * down d) (omega (arith, ltb-true (m * up e * down d) (n * up d * down e) h)),
      add-mul (k * up f * down d) (n * up d * down f) (down e * down d),
      swapped (n * up d) (down e) (down f) (down d),
    )
gaps_in_order true true m k e f true n d h g l =
    omega (
      arith,
      minus_mul (n * up d * down e) (m * up e * down d) (down f * down d) (omega (arith, ltb-true (m * up e * down d) (n * up d * down e) h)),
      minus_mul (n * up d * down f) (k * up f * down d) (down e * down d) (omega (arith, ltb-true (k * up f * down d) (n * up d * down f) g)),
      swapped (n * up d) (down e) (down f) (down d),
      scaled (k * up f) (m * up e) (down f) (down e) (down d) (leb-true _ _ (sym (le_fin true m e true k f) ∙ l)),
    )

module _ (t : Bool) (n : ℕ) (d : ℤ) where
  in_order : (s u : Bool) (m k : ℕ) (e f : ℤ) → lt (fin t n d) (fin s m e) ≡ true → lt (fin t n d) (fin u k f) ≡ true → le (fin s m e) (fin u k f) ≡ true →
      le (sub binary64 (fin s m e) (fin t n d)) (sub binary64 (fin u k f) (fin t n d)) ≡ true
  in_order s u m k e f h g l =
      rw (difference_is s m e t n d h, difference_is u k f t n d g)
      (yes _ (round_mono binary64 (to t n d s m e) (down e * down d) (to t n d u k f) (down f * down d) (mul-pos (down_pos e) (down_pos d)) (mul-pos (down_pos f) (down_pos d)) (gaps_in_order s u m k e f t n d h g l)))

  number : (s : Bool) (m : ℕ) (e : ℤ) → lt (fin t n d) (fin s m e) ≡ true → is_nan (sub binary64 (fin s m e) (fin t n d)) ≡ false
  unfolding is_nan
  number s m e h = le_left (sub binary64 (fin s m e) (fin t n d)) (sub binary64 (fin s m e) (fin t n d)) (in_order s s m m e e h h (le_refl (fin s m e) refl))

pub difference_grows : (k x y : Float) → lt k x ≡ true → le x y ≡ true → le (sub binary64 x k) (sub binary64 y k) ≡ true
unfolding lt le eq sub neg add
difference_grows nan x y h l = false_true h
difference_grows (inf s) nan y h l = false_true h
difference_grows (inf false) (inf t) y h l = false_true h
difference_grows (inf false) (fin t n d) y h l = false_true h
difference_grows (inf true) (inf true) y h l = false_true h
difference_grows (inf true) (inf false) nan h l = false_true l
difference_grows (inf true) (inf false) (inf true) h l = false_true l
difference_grows (inf true) (inf false) (inf false) h l = refl
difference_grows (inf true) (inf false) (fin u k f) h l = false_true l
difference_grows (inf true) (fin s m e) nan h l = false_true l
difference_grows (inf true) (fin s m e) (inf true) h l = false_true l
difference_grows (inf true) (fin s m e) (inf false) h l = refl
difference_grows (inf true) (fin s m e) (fin u k f) h l = refl
difference_grows (fin t n d) nan y h l = false_true h
difference_grows (fin t n d) (inf true) y h l = false_true h
difference_grows (fin t n d) (inf false) nan h l = false_true l
difference_grows (fin t n d) (inf false) (inf true) h l = false_true l
difference_grows (fin t n d) (inf false) (inf false) h l = refl
difference_grows (fin t n d) (inf false) (fin u k f) h l = false_true l
difference_grows (fin t n d) (fin s m e) nan h l = false_true l
difference_grows (fin t n d) (fin s m e) (inf true) h l = false_true l
difference_grows (fin t n d) (fin s m e) (inf false) h l = top_end (sub binary64 (fin s m e) (fin t n d)) (number t n d s m e h)
difference_grows (fin t n d) (fin s m e) (fin u k f) h l = in_order t n d s u m k e f h (lt_le_trans (fin t n d) (fin s m e) (fin u k f) h l) l
