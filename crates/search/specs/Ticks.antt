-- What `continue_search` answers and what it leaves in the rooms (02, No. 10): some expansions more of the search that the rooms and the counts hold. Definitions only.
use Rattle.std.specs.Prelude.{ℕ, not, false, cond, List, length, Err}
use Rattle.exploration.specs.Explore as explore
use Rattle.exploration.specs.Explore.{State, run, outcome}
use Rattle.world.specs.declared.Body.{Body}
use Rattle.world.specs.declared.Query.{Query}
use Rattle.world.specs.declared.Request.{Request}
use Rattle.world.specs.declared.Window.{Window}
use Rattle.world.specs.Space.{Space, space}
use Rattle.words.specs.Words.{feet_of}
use Rattle.steps.specs.Graph.{graph}
use Rattle.rooms.specs.declared.Feet.{Feet}
use Rattle.rooms.specs.declared.Label.{Label}
use Rattle.rooms.specs.declared.Counts.{Counts}
use Rattle.rooms.specs.Rooms.{Note, state_of}
use Rattle.visits.specs.Best.{best}
use Rattle.outcomes.specs.declared.Refusal.TheVariants.{Judged, BadProgress}
use Rattle.outcomes.specs.Ticks.{Ticked, nothing_written, ticked_by}
use Rattle.refusals.specs.Refusals.{call_judged}
use Rattle.progress.specs.Progress.{good_progress}

-- "Rooms or counts that another hand changed are answered by the step's definition on them": the search that the rooms and the counts hold, n expansions
-- further, and any rooms and counts hold some search. "An expansion is one node closed, its connector and its columns", the theory's `advance`; "the lower node
-- first where push orders tie" is its choice; "lookups scan": its `seek` goes over the nodes in their order.
unfoldable pub expanded : Space → Request → Body → List ℕ → List ℕ → Counts → ℕ → State Feet Label Note ℕ
expanded sp r body nodes front c n = run (graph sp r body) (best (feet_of r.goal)) r.node_budget n (state_of nodes front c)

-- what a state has come to: "finds the goal or leaves nothing waiting", or it goes on
unfoldable pub came_to : Space → Request → Body → State Feet Label Note ℕ → explore.Outcome (Feet × Label)
came_to sp r body s = outcome (graph sp r body) (best (feet_of r.goal)) s

module _ (w : Window) (cells perms shapes boxes : List ℕ) (r : Request) (body : Body) (nodes front out : List ℕ) (c : Counts) (n : ℕ) where
  abbrev pub expanded_in : State Feet Label Note ℕ
  expanded_in = expanded (space w cells perms shapes boxes) r body nodes front c n

  -- where expansions are made: the state that they reach, and what it has come to
  unfoldable pub gone_on : Ticked
  gone_on = ticked_by (came_to (space w cells perms shapes boxes) r body expanded_in) expanded_in nodes front out

  -- "continue judges 3, `valid_request` (1), 4, 5, then 12 BadProgress, nothing written"; then it goes on
  unfoldable pub continued_search : Ticked
  continued_search =
      call_judged w cells shapes boxes r body (length nodes) (length front) (length out) false (λ o. nothing_written (Err (Judged o)) nodes front out)
      (cond (not (good_progress r nodes front c n)) (nothing_written (Err BadProgress) nodes front out)
      gone_on)

-- ---- the same of a query

module _ (q : Query) where
  abbrev pub expanded_for : (nodes front out : List ℕ) → Counts → ℕ → State Feet Label Note ℕ
  expanded_for = expanded_in q.world.window q.world.cells.now q.world.perms.now q.world.shapes.now q.world.boxes.now q.request q.body

  abbrev pub continued_for : (nodes front out : List ℕ) → Counts → ℕ → Ticked
  continued_for = continued_search q.world.window q.world.cells.now q.world.perms.now q.world.shapes.now q.world.boxes.now q.request q.body
