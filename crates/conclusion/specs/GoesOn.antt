-- Whether a search goes on after an expansion (02, No. 10: "the outcome is answered by the call whose expansion finds the goal or leaves nothing waiting").
-- Definitions only.
use Rattle.std.specs.Prelude.{Bool, false, List, ℕ, ltb}
use Rattle.rooms.specs.Scans.{next_of}
use Rattle.outcomes.specs.declared.Turn.{Turn}
use Rattle.outcomes.specs.declared.Turn.TheVariants.{Rest, Going, At, By}

-- it did not find the goal, and there is a next node
abbrev pub goes_on : List ℕ → Turn → Bool
goes_on g (Rest c) = false
goes_on g (Going c) = ltb (next_of c.retained g) c.retained
goes_on g (At c k) = false
goes_on g (By c k l) = false
