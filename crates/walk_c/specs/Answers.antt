-- The numbers that the calls of roots and jumps answer with, and the bytes that they leave in a lent slice.
use Rattle.std.specs.Prelude.{ℕ, List, [], ◌∷◌, Float, Option, Some, None}
use Rattle.std.specs.Float.{binary64}
use Rattle.std.specs.Float.Ieee.{to_bits}
use Rattle.fields.specs.Little.{with_field}
use Rattle.root.specs.Root.{Given, value, refusal}

-- a root: 0 and the root in the first 8 bytes, or 9 and nothing written
abbrev pub root_number : Given → ℕ
root_number (value r) = 0
root_number (refusal n) = n

abbrev pub root_written : Given → List ℕ → List ℕ
root_written (value r) old = with_field 8 old 0 (to_bits binary64 r)
root_written (refusal n) old = old

-- the values of an answer, the first of them in the first 8 bytes: of a jump its height, or none
abbrev pub first_written : List Float → List ℕ → List ℕ
first_written [] old = old
first_written (h ∷ hs) old = with_field 8 old 0 (to_bits binary64 h)

-- a number that may be refused: 0 and the number in the first 8 bytes, or the refusal's number and nothing written
abbrev pub float_number : ℕ → Option Float → ℕ
float_number n (Some x) = 0
float_number n None = n

abbrev pub float_written : Option Float → List ℕ → List ℕ
float_written (Some x) old = with_field 8 old 0 (to_bits binary64 x)
float_written None old = old
