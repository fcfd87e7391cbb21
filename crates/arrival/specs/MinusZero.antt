-- -0.0. What is proved of it: MinusZero in proofs/. Definitions only.
use Rattle.std.specs.Prelude.{Bool, false, ◌&&◌, eqb, Float}
use Rattle.std.specs.Float.{nan, inf, fin, binary64}
use Rattle.std.specs.Float.Ieee.{of_bits}

-- -0.0, and the test whether a float is it
abbrev pub minus_zero : Float
minus_zero = of_bits binary64 0x8000_0000_0000_0000

abbrev pub is_minus_zero : Float → Bool
is_minus_zero nan = false
is_minus_zero (inf s) = false
is_minus_zero (fin s m e) = s && eqb m 0
