-- What the steps of an expansion make of the rooms: the theory's visits, of the state that the rooms are, in order. Definitions only.
use Rattle.std.specs.Prelude.{◌≡◌, true, ◌||◌, List, map, ℕ, ◌+◌, length}
use Rattle.exploration.specs.Graph.{Graph}
use Rattle.exploration.specs.Policy.{Node}
use Rattle.exploration.specs.Explore.{visits}
use Rattle.world.specs.declared.Body.{Body}
use Rattle.world.specs.declared.Request.{Request}
use Rattle.world.specs.Space.{Space}
use Rattle.moves.specs.declared.answer.Waypoint.{Waypoint}
use Rattle.sides.specs.Sides.{side_at}
use Rattle.steps.specs.Columns.{level, column_if}
use Rattle.steps.specs.Expansion.{sides_before}
use Rattle.words.specs.Words.{step_of}
use Rattle.rooms.specs.declared.Feet.{Feet}
use Rattle.rooms.specs.declared.Label.{Label}
use Rattle.rooms.specs.declared.Counts.{Counts}
use Rattle.rooms.specs.Rooms.{Note, state_of}
use Rattle.rooms.proofs.Laws.Rooms.{BySamePoint}
use Rattle.visits.specs.declared.Aim.{Aim}
use Rattle.visits.specs.Best.{best}
use Rattle.visits.specs.Visits.{Kept, Still, Rests, Near}
use Rattle.visits.specs.declared.Place.{Place}
use Rattle.strides.specs.declared.Column.{Column}
use Rattle.search.specs.declared.Around.{Around}

-- some steps from a node, visited in order: over every graph whose points compare as 01 says
pub record Stepped (aim : Aim) (at : Place) (ws : List Waypoint) (c r : Counts) (a f b g : List ℕ) : Type 0 where
  pub state : (𝓖 : Graph Feet Label) → BySamePoint 𝓖 → (n : Node Feet Label Note) → n.point ≡ at.node.feet → n.note.cost ≡ at.node.cost →
      state_of b g r ≡ visits 𝓖 (best aim.goal) aim.budget at.number n (state_of a f c) (map step_of ws)
  pub kept : Kept r.retained a f b g
  pub still : Still c.retained a b
  pub rest : Rests c.retained a f b g
  pub near : Near aim.budget (length ws) c r

-- and noted, at a side, whether one of them does not climb
pub record Went (aim : Aim) (at : Place) (n : ℕ) (ws : List Waypoint) (c r : Column) (a f b g : List ℕ) : Type 0 where
  pub steps : Stepped aim at ws c.counts r.counts a f b g
  pub noted : side_at n ≡ true → r.level ≡ (c.level || level at.point ws)

-- column n, with the side answers
pub record Looked (aim : Aim) (at : Place) (sp : Space) (r : Request) (body : Body) (n : ℕ) (c s : Around) (a f b g : List ℕ) : Type 0 where
  pub steps : Stepped aim at (column_if sp r body at.point n) c.counts s.counts a f b g
  pub answered : s.sides ≡ sides_before sp r body at.point (n + 1)
