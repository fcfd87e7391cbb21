-- The permission byte of a state, and the table of them. 01, Policy and Tables.
use Rattle.std.specs.Prelude.{Bool, not, ◌&&◌, ◌||◌, cond, List, map, ℕ, ◌+◌, eqb, length}
use Rattle.policy.specs.declared.policy.WalkPolicy.{WalkPolicy}
use Rattle.policy.specs.Flags.{has, WATER, DAMAGING}
use Rattle.policy.specs.Answers.{through, wall}
use Rattle.policy.specs.Doors.{door_passage}

-- "WATER is forbidden if avoided and the body isn't in it, DAMAGING if damage blocks are avoided": whether the flags f of a state have a forbidden one.
unfoldable pub forbidden : WalkPolicy → Bool → ℕ → Bool
forbidden p in_water f = (p.avoid_water && not in_water && has WATER f) || (p.avoid_damage_blocks && has DAMAGING f)

-- "Occupied: no forbidden flag and not Wall."
abbrev pub occupied : WalkPolicy → Bool → ℕ → Bool
occupied p in_water f = not (forbidden p in_water f) && not (eqb (door_passage p f) wall)

-- "Support: no forbidden flag."
abbrev pub support : WalkPolicy → Bool → ℕ → Bool
support p in_water f = not (forbidden p in_water f)

-- "Collides: not Through."
abbrev pub collides : WalkPolicy → ℕ → Bool
collides p f = not (eqb (door_passage p f) through)

-- "1 occupied, 2 support, 4 collides"
unfoldable pub permission : WalkPolicy → Bool → ℕ → ℕ
permission p in_water f = cond (occupied p in_water f) 1 0 + cond (support p in_water f) 2 0 + cond (collides p f) 4 0

-- "8 BadTable: flag and permission tables differ in length", and 0 else
abbrev pub filled : List ℕ → List ℕ → ℕ
filled flags old = cond (eqb (length flags) (length old)) 0 8

-- the permission table after the call: a byte for each flag byte; "6, 8 and 9 write nothing"
abbrev pub permission_table : WalkPolicy → Bool → List ℕ → List ℕ → List ℕ
permission_table p in_water flags old = cond (eqb (length flags) (length old)) (map (permission p in_water) flags) old
