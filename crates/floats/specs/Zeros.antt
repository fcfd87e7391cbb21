-- No comparison tells a float from its canonical form: -0.0 and 0.0 answer alike, on either side.
use Rattle.std.specs.Prelude.{ℕ, zero, suc, ◌+◌, ◌*◌, ◌<◌, ◌≡◌, Bool, true, ◌&&◌, ◌||◌, eqb, ltb, ℤ, pos, Float}
use Rattle.std.proofs.Common.{zero-mul, mul-pos, add-zero, arith, ap, ◌∙◌, ne_eqb, lt-ltb, le-ltb}
use Rattle.std.proofs.Math.Path.{refl, sym}
use Rattle.std.proofs.Math.Bool.{false}
use Rattle.std.specs.Bool.{beq}
use Rattle.std.specs.Float.{nan, inf, fin}
use Rattle.std.specs.Float.Ieee.{lt, le, eq, up, down, level, below}
use Rattle.std.specs.Float.Ieee.Fits.{down_pos}
use Rattle.floats.specs.Floats.{canonical}
use Rattle.floats.specs.Order.{eq_turned}

-- 0.0
abbrev pub nil : Float
nil = fin false zero (pos zero)

-- what tells no zero from 0.0 tells no float from its canonical form
pub by_zeros : {A : Type 0} (f : Float → A) → ((s : Bool) (e : ℤ) → f nil ≡ f (fin s zero e)) → (x : Float) → f (canonical x) ≡ f x
unfolding canonical
by_zeros f h nan = refl
by_zeros f h (inf s) = refl
by_zeros f h (fin s zero e) = h s e
by_zeros f h (fin s (suc m) e) = refl

-- a size is 0 or above it, whatever it is scaled by
scaled : (k d : ℕ) → 0 < d → ltb 0 (k * d) ≡ ltb 0 k
scaled zero d h = ap (ltb 0) (zero-mul d)
scaled (suc k) d h = lt-ltb 0 (suc k * d) (mul-pos {m = suc k} {n = d} (omega arith) h) ∙ sym (lt-ltb 0 (suc k) (omega arith))

level_scaled : (k d : ℕ) → 0 < d → eqb 0 (k * d) ≡ eqb 0 k
level_scaled zero d h = ap (eqb 0) (zero-mul d)
level_scaled (suc k) d h = ne_eqb 0 (suc k * d) (λ e. omega (arith, mul-pos {m = suc k} {n = d} (omega arith) h)) ∙ sym (ne_eqb 0 (suc k) (λ e. omega arith))

-- a zero of either sign against a number of the size k, at any scale
zero_below : (s t : Bool) (z k d : ℕ) → z ≡ 0 → 0 < d → below s z t (k * d) ≡ below false 0 t k
zero_below false false z k d e h = rw e (scaled k d h)
zero_below false true z k d e h = refl
zero_below true false z k d e h = let sum : z + k * d ≡ k * d = omega arith in rw sum (scaled k d h)
zero_below true true z k d e h = rw e (le-ltb (k * d) 0 (omega arith))

below_zero : (s t : Bool) (z k d : ℕ) → z ≡ 0 → 0 < d → below s (k * d) t z ≡ below s k false 0
below_zero false false z k d e h = rw e (le-ltb (k * d) 0 (omega arith) ∙ sym (le-ltb k 0 (omega arith)))
below_zero false true z k d e h = sym (le-ltb k 0 (omega arith))
below_zero true false z k d e h = let sum : k * d + z ≡ k * d = omega arith in rw (sum, add-zero k) (scaled k d h)
below_zero true true z k d e h = rw (e, add-zero k) (scaled k d h)

zero_level : (s t : Bool) (z k d : ℕ) → z ≡ 0 → 0 < d → level s z t (k * d) ≡ level false 0 t k
zero_level s t z k d e h = rw (e, level_scaled k d h) (or-true (eqb 0 k) (beq s t) (beq false t))
  where
    or-true : (a b c : Bool) → (a && (b || true)) ≡ (a && (c || true))
    or-true a true true = refl
    or-true a true false = refl
    or-true a false true = refl
    or-true a false false = refl

-- so a test by signs and sizes that no zero answers in its own way, whatever the scale, answers all zeros alike
zeros_first : (test : Bool → ℕ → Bool → ℕ → Bool) → ((s t : Bool) (z k d : ℕ) → z ≡ 0 → 0 < d → test s z t (k * d) ≡ test false 0 t k) →
    (s t : Bool) (n : ℕ) (e d : ℤ) → test false (0 * 1 * down d) t (n * up d * 1) ≡ test s (0 * up e * down d) t (n * up d * down e)
zeros_first test law s t n e d =
    law false t (0 * 1 * down d) (n * up d) 1 (simp zero-mul) (omega arith) ∙ sym (law s t (0 * up e * down d) (n * up d) (down e) (simp zero-mul) (down_pos e))

pub lt_canonical : (x y : Float) → lt (canonical x) y ≡ lt x y
lt_canonical x y = by_zeros (λ v. lt v y) (λ s e. zero_first s e y) x
  where
    zero_first : (s : Bool) (e : ℤ) (y : Float) → lt nil y ≡ lt (fin s zero e) y
    zero_first s e nan = unfold lt in refl
    zero_first s e (inf t) = unfold lt in refl
    zero_first s e (fin t n d) = unfold lt in zeros_first below zero_below s t n e d

pub canonical_lt : (x y : Float) → lt x (canonical y) ≡ lt x y
canonical_lt x y = by_zeros (lt x) (λ t d. zero_second t d x) y
  where
    zero_second : (t : Bool) (d : ℤ) (x : Float) → lt x nil ≡ lt x (fin t zero d)
    zero_second t d nan = unfold lt in refl
    zero_second t d (inf s) = unfold lt in refl
    zero_second t d (fin s m e) =
        unfold lt in
        below_zero s false (0 * 1 * down e) (m * up e) 1 (simp zero-mul) (omega arith) ∙ sym (below_zero s t (0 * up d * down e) (m * up e) (down d) (simp zero-mul) (down_pos d))

pub eq_canonical : (x y : Float) → eq (canonical x) y ≡ eq x y
eq_canonical x y = by_zeros (λ v. eq v y) (λ s e. zero_first s e y) x
  where
    zero_first : (s : Bool) (e : ℤ) (y : Float) → eq nil y ≡ eq (fin s zero e) y
    zero_first s e nan = unfold eq in refl
    zero_first s e (inf t) = unfold eq in refl
    zero_first s e (fin t n d) = unfold eq in zeros_first level zero_level s t n e d

pub canonical_eq : (x y : Float) → eq x (canonical y) ≡ eq x y
canonical_eq x y = eq_turned x (canonical y) ∙ eq_canonical y x ∙ eq_turned y x

pub le_canonical : (x y : Float) → le (canonical x) y ≡ le x y
unfolding le
le_canonical x y = rw (lt_canonical x y, eq_canonical x y)

pub canonical_le : (x y : Float) → le x (canonical y) ≡ le x y
unfolding le
canonical_le x y = rw (canonical_lt x y, canonical_eq x y)
