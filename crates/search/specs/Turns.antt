-- What one expansion makes of the rooms: one expansion of the theory, over 01's graph and under 01's policy, of the state that the rooms are. Definitions only.
use Rattle.std.specs.Prelude.{◌≡◌, List, [], ◌∷◌, ℕ, ◌+◌, ◌≤◌, ◌<◌, length}
use Rattle.std.proofs.Math.Option.{none}
use Rattle.exploration.specs.Explore.{State, arrive, advance}
use Rattle.world.specs.declared.Point.{Point}
use Rattle.world.specs.declared.Body.{Body}
use Rattle.world.specs.declared.Request.{Request}
use Rattle.world.specs.Space.{Space}
use Rattle.steps.specs.Columns.{steps_from}
use Rattle.steps.specs.Graph.{graph}
use Rattle.rooms.specs.declared.Feet.{Feet}
use Rattle.rooms.specs.declared.Label.{Label}
use Rattle.rooms.specs.declared.Counts.{Counts}
use Rattle.rooms.specs.Rooms.{Note, nodes_of, state_of}
use Rattle.visits.specs.declared.Aim.{Aim}
use Rattle.visits.specs.Best.{best}
use Rattle.visits.specs.Visits.{Kept, Still, Rested, Rests, Near}
use Rattle.outcomes.specs.Outcomes.{counts_of}
use Rattle.outcomes.specs.declared.Turn.{Turn}
use Rattle.outcomes.specs.declared.Turn.TheVariants.{Rest, Going, At, By}

-- the most steps that one expansion has: nine columns of at most 256 cells with at most 16 boxes each
abbrev pub most_steps : ℕ
most_steps = 36864

abbrev pub Bounded : Space → Request → Body → Type 0
Bounded sp r body = (p : Point) → length (steps_from sp r body p) ≤ most_steps

-- the state after an expansion: where it ended the search, with its list
abbrev pub after : Aim → Turn → List ℕ → List ℕ → State Feet Label Note ℕ
after aim (Rest r) b g = state_of b g r
after aim (Going r) b g = state_of b g r
after aim (At r k) b g = arrive (state_of b g r) k []
after aim (By r k l) b g = arrive (state_of b g r) k ((aim.goal, l) ∷ [])

-- `Rest` is answered only where nothing waits
abbrev pub Quiet : Aim → List ℕ → List ℕ → Turn → Type 0
Quiet aim a f (Rest c) = (best aim.goal).pick (nodes_of c.retained a f) c.pushed ≡ none
Quiet aim a f (Going r) = Unit {0}
Quiet aim a f (At r k) = Unit {0}
Quiet aim a f (By r k l) = Unit {0}

-- the nodes before `low` are at rest
pub record Settled (a f : List ℕ) (low : ℕ) : Type 0 where
  pub rested : (j : ℕ) → j < low → Rested a f j

pub record Turned (aim : Aim) (sp : Space) (r : Request) (body : Body) (c : Counts) (t : Turn) (a f b g : List ℕ) : Type 0 where
  pub state : after aim t b g ≡ advance (graph sp r body) (best aim.goal) aim.budget (state_of a f c)
  pub kept : Kept (counts_of t).retained a f b g
  pub still : Still c.retained a b
  pub rest : Rests c.retained a f b g
  pub near : Near aim.budget (most_steps + 1) c (counts_of t)
  pub quiet : Quiet aim b g t
