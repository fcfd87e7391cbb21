-- The words of the claims. Definitions only.
use Rattle.std.specs.Prelude.{ℕ, ◌<◌, ◌≡◌, true, List, ◌⊎◌, ◌≢◌, T}
use Rattle.std.proofs.Math.Option.{some}
use Rattle.std.specs.Float.{binary64}
use Rattle.std.specs.Float.Ieee.{fits, lt, eq}
use Rattle.exploration.specs.Lists.{nth}
use Rattle.exploration.specs.Policy.{Node}
use Rattle.exploration.specs.Explore.{State, run, begin}
use Rattle.fields.specs.Records.{firsts}
use Rattle.world.specs.declared.Body.{Body}
use Rattle.world.specs.declared.Request.{Request}
use Rattle.world.specs.Space.{Space}
use Rattle.words.specs.Words.{feet_of}
use Rattle.steps.specs.Graph.{graph}
use Rattle.rooms.specs.declared.Feet.{Feet}
use Rattle.rooms.specs.declared.Label.{Label}
use Rattle.rooms.specs.Records.{node_at}
use Rattle.rooms.specs.Scans.{estimate_of}
use Rattle.rooms.specs.Rooms.{Note, node_waits}
use Rattle.visits.specs.Best.{best}

-- the same request with another budget
abbrev pub with_budget : ℕ → Request → Request
with_budget b r = record {
  start = r.start;
  goal = r.goal;
  max_range = r.max_range;
  node_budget = b;
  step_height = r.step_height;
  jump_height = r.jump_height;
  max_drop = r.max_drop;
}

-- the numbers of a request that a list can hold are f64s, as every caller's are
pub record InF64 (r : Request) : Type 0 where
  pub start_x : T (fits binary64 r.start.x)
  pub start_y : T (fits binary64 r.start.y)
  pub start_z : T (fits binary64 r.start.z)
  pub goal_x : T (fits binary64 r.goal.x)
  pub goal_y : T (fits binary64 r.goal.y)
  pub goal_z : T (fits binary64 r.goal.z)
  pub jump : T (fits binary64 r.jump_height)

-- ---- the first n records of a node room: their points, and their closed words, the u32 at byte 60 of each record's 64

abbrev pub kept_points : ℕ → List ℕ → List Feet
kept_points n room = firsts n (λ k. (node_at room k).feet)

abbrev pub closed_words : ℕ → List ℕ → List ℕ
closed_words n room = firsts n (λ k. (node_at room k).closed)

-- ---- the order of a search

-- when a node was pushed
abbrev pub push_of : Node Feet Label Note → ℕ
push_of n = n.note.entry.order

module _ (sp : Space) (r : Request) (body : Body) where
  -- the search after n expansions
  abbrev pub after : ℕ → State Feet Label Note ℕ
  after n = run (graph sp r body) (best (feet_of r.goal)) r.node_budget n (begin (graph sp r body) (best (feet_of r.goal)) r.node_budget)

  -- "lowest estimate first, then earliest push": whenever a node is picked, every other one that waits has a higher estimate, or an equal one and a later push
  abbrev pub LowestFirst : Type 0
  LowestFirst =
      (n : ℕ) (p : ℕ × Node Feet Label Note) → (best (feet_of r.goal)).pick (after n).nodes (after n).book ≡ some p →
      (k : ℕ) (x : Node Feet Label Note) → nth (after n).nodes k ≡ some x → node_waits x ≡ true → k ≢ p.0 →
      (lt (estimate_of p.1.note.entry) (estimate_of x.note.entry) ≡ true)
      ⊎ ((eq (estimate_of p.1.note.entry) (estimate_of x.note.entry) ≡ true) × (push_of p.1 < push_of x))
