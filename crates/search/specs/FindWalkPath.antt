-- What `find_walk_path` answers and what it leaves in the four rooms (01, "Numbers given back"; 02, No. 7). Definitions only.
use Rattle.std.specs.Prelude.{ℕ, ◌*◌, List, ◌++◌, length, drop, replicate}
use Rattle.std.proofs.Math.Option.{Option, none, some}
use Rattle.exploration.specs.Explore as explore
use Rattle.exploration.specs.Explore.{State, final, outcome}
use Rattle.world.specs.declared.Body.{Body}
use Rattle.world.specs.declared.Query.{Query}
use Rattle.world.specs.declared.Request.{Request}
use Rattle.world.specs.declared.Window.{Window}
use Rattle.world.specs.Space.{Space, space}
use Rattle.words.specs.Words.{feet_of}
use Rattle.steps.specs.Graph.{graph}
use Rattle.rooms.specs.declared.Feet.{Feet}
use Rattle.rooms.specs.declared.Label.{Label}
use Rattle.rooms.specs.Lists.{list_bytes}
use Rattle.rooms.specs.Rooms.{Note, node_room}
use Rattle.visits.specs.Best.{best}
use Rattle.outcomes.specs.declared.Outcome.{Outcome}
use Rattle.outcomes.specs.declared.Answer.{Answer}
use Rattle.outcomes.specs.Outcomes.{told_by, list_in, unsearched}
use Rattle.refusals.specs.Refusals.{without_search}
use Rattle.index.specs.Size.{wrong_size}

-- ---- the search

-- the state that the search ends in: the theory's run of 01's graph under 01's policy, with the request's budget
unfoldable pub ended : Space → Request → Body → State Feet Label Note ℕ
ended sp r body = final (graph sp r body) (best (feet_of r.goal)) r.node_budget

-- what it came to
unfoldable pub end_of : Space → Request → Body → explore.Outcome (Feet × Label)
end_of sp r body = outcome (graph sp r body) (best (feet_of r.goal)) (ended sp r body)

module _ (w : Window) (cells perms shapes boxes : List ℕ) (r : Request) (body : Body) where
  abbrev pub here : Space
  here = space w cells perms shapes boxes

  -- ---- the answer: the search's, or that without one

  abbrev pub answer_by : Option Outcome → Answer
  answer_by (some o) = unsearched o
  answer_by none = record {
    outcome = told_by (end_of here r body);
    count = length (list_in (end_of here r body));
    retained = length (ended here r body).nodes;
    closed = (ended here r body).closings;
  }

  -- what is answered before a search, for rooms of so many bytes
  abbrev pub before_search : (nodes front index out : ℕ) → Option Outcome
  before_search nodes front index out = without_search w cells perms shapes boxes r body nodes front out (wrong_size index r.node_budget)

  unfoldable pub found : (nodes front index out : ℕ) → Answer
  found nodes front index out = answer_by (before_search nodes front index out)

  -- ---- the rooms, of their old bytes: "Node and frontier rooms are untouched unless the search began."

  -- "After it the node room holds the retained nodes in discovery order, then its old bytes"
  abbrev pub nodes_by : Option Outcome → List ℕ → List ℕ
  nodes_by (some o) old = old
  nodes_by none old = node_room old (ended here r body).nodes

  -- "the frontier room is all zero", and so is the index room
  abbrev pub zero_by : Option Outcome → List ℕ → List ℕ
  zero_by (some o) old = old
  zero_by none old = replicate (length old) 0

  -- "On 1 to 5 the output is untouched", "Output past the list stays."
  abbrev pub out_by : Option Outcome → List ℕ → List ℕ
  out_by (some o) old = old
  out_by none old = list_bytes (list_in (end_of here r body)) ++ drop (48 * length (list_in (end_of here r body))) old

  -- for the four rooms that are lent
  abbrev before_search_in : (nodes front index out : List ℕ) → Option Outcome
  before_search_in nodes front index out = before_search (length nodes) (length front) (length index) (length out)

  unfoldable pub nodes_after : (nodes front index out : List ℕ) → List ℕ
  nodes_after nodes front index out = nodes_by (before_search_in nodes front index out) nodes

  unfoldable pub front_after : (nodes front index out : List ℕ) → List ℕ
  front_after nodes front index out = zero_by (before_search_in nodes front index out) front

  -- 02, No. 7: "The index room is zero after a search and untouched by one that never began."
  unfoldable pub index_after : (nodes front index out : List ℕ) → List ℕ
  index_after nodes front index out = zero_by (before_search_in nodes front index out) index

  unfoldable pub out_after : (nodes front index out : List ℕ) → List ℕ
  out_after nodes front index out = out_by (before_search_in nodes front index out) out

-- ---- the same of a query

module _ (q : Query) where
  abbrev pub found_for : (nodes front index out : ℕ) → Answer
  found_for = found q.world.window q.world.cells.now q.world.perms.now q.world.shapes.now q.world.boxes.now q.request q.body

  abbrev pub nodes_for : (nodes front index out : List ℕ) → List ℕ
  nodes_for = nodes_after q.world.window q.world.cells.now q.world.perms.now q.world.shapes.now q.world.boxes.now q.request q.body

  abbrev pub front_for : (nodes front index out : List ℕ) → List ℕ
  front_for = front_after q.world.window q.world.cells.now q.world.perms.now q.world.shapes.now q.world.boxes.now q.request q.body

  abbrev pub index_for : (nodes front index out : List ℕ) → List ℕ
  index_for = index_after q.world.window q.world.cells.now q.world.perms.now q.world.shapes.now q.world.boxes.now q.request q.body

  abbrev pub out_for : (nodes front index out : List ℕ) → List ℕ
  out_for = out_after q.world.window q.world.cells.now q.world.perms.now q.world.shapes.now q.world.boxes.now q.request q.body
