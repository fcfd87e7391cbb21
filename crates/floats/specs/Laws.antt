-- Laws of floats that other crates cite: bit patterns, and what it is to be finite. `T (fits binary64 x)` says
-- that x is an f64, which is known of every f64 of the code.
use Rattle.std.specs.Prelude.{◌^◌, ◌<◌, ◌≡◌, refl, true, false, ◌&&◌, T, Float}
use Rattle.std.proofs.Common.{sym, ap, ◌∙◌}
use Rattle.std.specs.Float.{nan, inf, fin, binary64, float_is_finite}
use Rattle.std.specs.Float.Ieee.{fits, of_bits, to_bits, lt}
use Rattle.std.specs.Float.Ieee.Bits.{of_bits-to_bits, to_bits-lt}
use Rattle.std.specs.Float.Ieee.Scale.{finite}

-- ---- bit patterns

-- the pattern of an f64 is below 2^64, and is read back as that f64
pub bits_below : (x : Float) → T (fits binary64 x) → to_bits binary64 x < 2 ^ 64
bits_below x h = to_bits-lt binary64 x h

pub float_of_bits : (x : Float) → T (fits binary64 x) → of_bits binary64 (to_bits binary64 x) ≡ x
float_of_bits x h = of_bits-to_bits binary64 x h

-- so f64s with equal bits are equal
pub equal_bits : (x y : Float) → T (fits binary64 x) → T (fits binary64 y) → to_bits binary64 x ≡ to_bits binary64 y → x ≡ y
equal_bits x y h k e = sym (float_of_bits x h) ∙ ap (of_bits binary64) e ∙ float_of_bits y k

-- ---- comparisons

-- a float lies between the infinities exactly where it is finite
pub finite_between : (x : Float) → (lt x (inf false) && lt (inf true) x) ≡ finite x
unfolding lt
finite_between nan = refl
finite_between (inf true) = refl
finite_between (inf false) = refl
finite_between (fin s m e) = refl

-- what std's `is_finite` asks, too
pub is_finite : (x : Float) → float_is_finite x ≡ finite x
unfolding float_is_finite
is_finite nan = refl
is_finite (inf s) = refl
is_finite (fin s m e) = refl
