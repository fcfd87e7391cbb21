-- What is no number: a NaN as it is read and written, and an infinity. The goals of src/lib.rt are given them, so that of an edit the right value is proved, and a wrong one is refused for what it is.
use Rattle.std.specs.Prelude.{ℕ, ◌%◌, ◌<◌, ◌≡◌, refl, true, false, T, Float}
use Rattle.std.proofs.Common.{sym, ap, subst}
use Rattle.std.specs.Float.{nan, inf, fin, binary64}
use Rattle.std.specs.Float.Ieee.{of_bits, to_bits, ne, eq}
use Rattle.std.specs.Float.Ieee.Scale.{finite}
use Rattle.floats.specs.Patterns.{nan_pattern, unequal_nan}

pub nan_read : (n : ℕ) → 0x7ff0_0000_0000_0000 < n % 0x8000_0000_0000_0000 → nan ≡ of_bits binary64 n
nan_read n h = sym (nan_pattern n h)

pub nan_written : (x : Float) → ne x x ≡ true → 0x7ff8_0000_0000_0000 ≡ to_bits binary64 x
unfolding to_bits
nan_written x h = sym (ap (to_bits binary64) (unequal_nan x h))

pub infinity_no_number : (x : Float) → eq x (of_bits binary64 0x7ff0_0000_0000_0000) ≡ true → false ≡ finite x
unfolding eq of_bits
infinity_no_number nan h = refl
infinity_no_number (inf s) h = refl
infinity_no_number (fin s m e) h = absurd (subst T (sym h) tt)
