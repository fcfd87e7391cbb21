-- How a walk meets a door. 01, Policy: "Passage as `door_passage`."
use Rattle.std.specs.Prelude.{Bool, true, false, ℕ}
use Rattle.policy.specs.declared.policy.WalkPolicy.{WalkPolicy}
use Rattle.policy.specs.Flags.{has, DOOR, IRON_DOOR, OPEN}
use Rattle.policy.specs.Answers.{shape, through, wall}

-- The cases, a row each. What a row leaves open has a name there and plays no part.
-- Columns: the state is a door; the mob breaks doors, can pass doors, can open doors, can open iron doors; the door is open, is of iron.
unfoldable pub door_case : Bool → Bool → Bool → Bool → Bool → Bool → Bool → ℕ
-- what is no door is met as its shape
door_case false breaks pass opens irons ajar iron = shape
-- a mob that is no breaker crosses every door if it can open doors; else meets them as walls if it can't pass doors; else as their shape
door_case true false pass true irons ajar iron = through
door_case true false false false irons ajar iron = wall
door_case true false true false irons ajar iron = shape
-- a breaker sorts doors itself: none if it can't pass doors
door_case true true false opens irons ajar iron = wall
-- open ones by their shape
door_case true true true opens irons true iron = shape
-- closed iron ones if it can open iron doors
door_case true true true opens true false true = through
door_case true true true opens false false true = wall
-- other closed ones always: if it can't open them it breaks them
door_case true true true opens irons false false = through

-- how a mob of the policy p meets a state with the flags f
abbrev pub door_passage : WalkPolicy → ℕ → ℕ
door_passage p f = door_case (has DOOR f) p.door_breaker p.can_pass_doors p.can_open_doors p.can_open_iron_doors (has OPEN f) (has IRON_DOOR f)
