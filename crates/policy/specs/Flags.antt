-- The flags of a block state. 01, Policy: "The six flag bits are named once: WATER 1, DAMAGING 2, GRASS 4, DOOR 8, IRON_DOOR 16, OPEN 32."
use Rattle.std.specs.Prelude.{Bool, ℕ, ◌/◌, ◌%◌, eqb}

abbrev pub WATER : ℕ
WATER = 1

abbrev pub DAMAGING : ℕ
DAMAGING = 2

abbrev pub GRASS : ℕ
GRASS = 4

abbrev pub DOOR : ℕ
DOOR = 8

abbrev pub IRON_DOOR : ℕ
IRON_DOOR = 16

abbrev pub OPEN : ℕ
OPEN = 32

-- whether a flag byte has a flag: the bit of that weight is 1
abbrev pub has : ℕ → ℕ → Bool
has flag bits = eqb (bits / flag % 2) 1
