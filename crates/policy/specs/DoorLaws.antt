-- A door by two tests: whether the mob crosses it, and, where it does not, whether it passes by the door's shape. Assumes nothing.
use Rattle.std.specs.Prelude.{◌≡◌, refl, Bool, true, false, not, ◌&&◌, ◌||◌, cond, ℕ}
use Rattle.policy.specs.Answers.{shape, through, wall}
use Rattle.policy.specs.Doors.{door_case}

abbrev pub met : Bool → Bool → ℕ
met crosses passes = cond crosses through (cond passes shape wall)

-- by a mob that is no breaker
pub met_plainly : (pass opens irons ajar iron : Bool) → door_case true false pass opens irons ajar iron ≡ met opens pass
unfolding door_case
met_plainly pass true irons ajar iron = refl
met_plainly true false irons ajar iron = refl
met_plainly false false irons ajar iron = refl

-- by a breaker
pub met_by_breaker : (pass opens irons ajar iron : Bool) → door_case true true pass opens irons ajar iron ≡ met ((pass && not ajar) && (irons || not iron)) (pass && ajar)
unfolding door_case
met_by_breaker false opens irons ajar iron = refl
met_by_breaker true opens irons true iron = refl
met_by_breaker true opens true false true = refl
met_by_breaker true opens false false true = refl
met_by_breaker true opens true false false = refl
met_by_breaker true opens false false false = refl
