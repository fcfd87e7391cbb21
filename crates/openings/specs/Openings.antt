-- What `begin_search` answers and what it leaves in the rooms (02, No. 10). Definitions only.
use Rattle.std.specs.Prelude.{ℕ, false, List, length, replicate, Err}
use Rattle.std.proofs.Math.Option.{Option, none, some}
use Rattle.exploration.specs.Explore as explore
use Rattle.exploration.specs.Explore.{State, begin}
use Rattle.world.specs.declared.Body.{Body}
use Rattle.world.specs.declared.Query.{Query}
use Rattle.world.specs.declared.Request.{Request}
use Rattle.world.specs.declared.Window.{Window}
use Rattle.world.specs.Space.{Space, space}
use Rattle.words.specs.Words.{feet_of}
use Rattle.steps.specs.Graph.{graph}
use Rattle.rooms.specs.declared.Feet.{Feet}
use Rattle.rooms.specs.declared.Label.{Label}
use Rattle.rooms.specs.Rooms.{Note}
use Rattle.visits.specs.Best.{best}
use Rattle.outcomes.specs.declared.Outcome.{Outcome}
use Rattle.outcomes.specs.declared.Refusal.TheVariants.{Judged}
use Rattle.outcomes.specs.Ticks.{Ticked, nothing_written, ticked_by}
use Rattle.refusals.specs.Refusals.{without_search}

-- "retains the start": the theory's begin, of 01's graph under 01's policy, with the request's budget
unfoldable pub start_state : Space → Request → Body → State Feet Label Note ℕ
start_state sp r body = begin (graph sp r body) (best (feet_of r.goal)) r.node_budget

module _ (w : Window) (cells perms shapes boxes : List ℕ) (r : Request) (body : Body) (nodes front out : List ℕ) where
  -- 1 to 5: nothing written. Else the answer is "still searching", never an outcome; "zeroes the frontier room": all that is lent, then the start's record.
  abbrev pub begun_by : Option Outcome → Ticked
  begun_by (some o) = nothing_written (Err (Judged o)) nodes front out
  begun_by none = ticked_by explore.Searching (start_state (space w cells perms shapes boxes) r body) nodes (replicate (length front) 0) out

  -- "Begin makes 01's checks"; there is no index
  unfoldable pub begun_search : Ticked
  begun_search = begun_by (without_search w cells perms shapes boxes r body (length nodes) (length front) (length out) false)

-- of a query, in rooms with these bytes
abbrev pub begun_for : Query → List ℕ → List ℕ → List ℕ → Ticked
begun_for q nodes front out = begun_search q.world.window q.world.cells.now q.world.perms.now q.world.shapes.now q.world.boxes.now q.request q.body nodes front out
