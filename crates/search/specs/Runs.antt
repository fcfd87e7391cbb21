-- What so many expansions make of the rooms: the theory's run, of the state that the rooms are. Definitions only.
use Rattle.std.specs.Prelude.{◌≡◌, List, ℕ, ◌+◌, ◌*◌}
use Rattle.exploration.specs.Explore.{run}
use Rattle.world.specs.declared.Body.{Body}
use Rattle.world.specs.declared.Request.{Request}
use Rattle.world.specs.Space.{Space}
use Rattle.steps.specs.Graph.{graph}
use Rattle.rooms.specs.declared.Counts.{Counts}
use Rattle.rooms.specs.Rooms.{state_of}
use Rattle.visits.specs.declared.Aim.{Aim}
use Rattle.visits.specs.Best.{best}
use Rattle.visits.specs.Visits.{Kept, Near}
use Rattle.outcomes.specs.declared.Turn.{Turn}
use Rattle.search.specs.Turns.{most_steps, after, Quiet}
use Rattle.outcomes.specs.Outcomes.{counts_of}

-- n expansions, with what the last of them came to
pub record Spun (aim : Aim) (sp : Space) (r : Request) (body : Body) (c : Counts) (n : ℕ) (t : Turn) (a f b g : List ℕ) : Type 0 where
  pub state : after aim t b g ≡ run (graph sp r body) (best aim.goal) aim.budget n (state_of a f c)
  pub kept : Kept (counts_of t).retained a f b g
  pub near : Near aim.budget ((most_steps + 1) * n) c (counts_of t)
  pub quiet : Quiet aim b g t
