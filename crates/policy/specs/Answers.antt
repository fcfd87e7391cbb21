-- The number by which each answer is known. 8 is 01's refusal BadTable, and 0 says that nothing was refused; passages are told apart by 0, 1 and 2, which no call gives back.
use Rattle.std.specs.Prelude.{ℕ, Result, Ok, Err}
use Rattle.policy.specs.declared.doors.Passage.{Passage}
use Rattle.policy.specs.declared.doors.Passage.TheVariants.{Shape, Through, Wall}
use Rattle.policy.specs.declared.policy.BadTable.{BadTable}

abbrev pub shape : ℕ
shape = 0

abbrev pub through : ℕ
through = 1

abbrev pub wall : ℕ
wall = 2

abbrev pub passage_number : Passage → ℕ
passage_number Shape = shape
passage_number Through = through
passage_number Wall = wall

-- a filled table is no refusal
abbrev pub filled_number : Result (Unit {0}) BadTable → ℕ
filled_number (Ok _) = 0
filled_number (Err _) = 8
