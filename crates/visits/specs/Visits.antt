-- What one step, one closing and the start make of the rooms: the theory's visit, close and begin, of the state that the rooms are. Definitions only.
use Rattle.std.specs.Prelude.{◌≡◌, Option, Some, None, Bool, true, false, not, ◌&&◌, cond, List, ◌≢◌, ℕ, ◌+◌, ◌*◌, ◌/◌, ◌^◌, ◌≤◌, ◌<◌, ltb, leb, eqb, length, drop}
use Rattle.std.proofs.Math.Option.{Option as Maybe, none, some}
use Rattle.exploration.specs.Graph.{Graph}
use Rattle.exploration.specs.Policy.{Node}
use Rattle.exploration.specs.Explore.{apply, effect_known, effect_at, close, begin}
use Rattle.rooms.specs.declared.Feet.{Feet}
use Rattle.rooms.specs.declared.Label.{Label}
use Rattle.rooms.specs.declared.NodeRecord.{NodeRecord}
use Rattle.rooms.specs.declared.Counts.{Counts}
use Rattle.rooms.specs.Waypoints.{standing}
use Rattle.rooms.specs.Records.{node_at, entry_at}
use Rattle.rooms.specs.Scans.{waits}
use Rattle.rooms.specs.Rooms.{Note, nobody, node_in, state_of}
use Rattle.rooms.specs.Writes.{PutNode, PutEntry}
use Rattle.visits.specs.declared.Aim.{Aim}
use Rattle.visits.specs.declared.Closing.{Closing}
use Rattle.costs.specs.Costs.{pushed_as}
use Rattle.visits.specs.Best.{relaxed, best}

-- rooms large enough for a budget whose nodes have numbers below none's, and counts that can grow by d
pub record Ready (a f : List ℕ) (budget d : ℕ) (c : Counts) : Type 0 where
  pub node_room_lem : 64 * budget ≤ length a
  pub front_room_lem : 24 * budget ≤ length f
  pub numbered : budget ≤ nobody
  pub few : c.retained ≤ budget
  pub pushes : c.pushed + d ≤ 2 ^ 63
  pub drops : c.dropped + d ≤ 2 ^ 63
  pub closes : c.closed + d ≤ 2 ^ 63

-- the same as a test, for d = 1, with a node k that is there
unfoldable pub ready : ℕ → ℕ → ℕ → ℕ → Counts → Bool
ready nodes front budget k c =
    (((leb budget (nodes / 64) && leb budget (front / 24)) && leb budget nobody)
    && (leb c.retained budget && ltb k c.retained))
    && ((ltb c.pushed (2 ^ 63) && ltb c.dropped (2 ^ 63)) && ltb c.closed (2 ^ 63))

-- past m records nothing is changed
pub record Kept (m : ℕ) (a f b g : List ℕ) : Type 0 where
  pub nodes : (j : ℕ) → m ≤ j → drop (64 * j) b ≡ drop (64 * j) a
  pub front : (j : ℕ) → m ≤ j → drop (24 * j) g ≡ drop (24 * j) f

-- the first n nodes are where they were
pub record Still (n : ℕ) (a b : List ℕ) : Type 0 where
  pub feet : (j : ℕ) → j < n → (node_at b j).feet ≡ (node_at a j).feet

-- node j is closed and waits no more
pub record Rested (a f : List ℕ) (j : ℕ) : Type 0 where
  pub closed : (node_at a j).closed ≢ 0
  pub idle : waits (entry_at f j) ≡ false

-- and so stay those of the first n nodes that are
pub record Rests (n : ℕ) (a f b g : List ℕ) : Type 0 where
  pub rests : (j : ℕ) → j < n → Rested a f j → Rested b g j

-- nothing at all is changed
pub record Untouched (c r : Counts) (a f b g : List ℕ) : Type 0 where
  pub counts : r ≡ c
  pub nodes : b ≡ a
  pub front : g ≡ f

-- the counts have grown by d at most
pub record Near (budget d : ℕ) (c r : Counts) : Type 0 where
  pub more : c.retained ≤ r.retained
  pub few : r.retained ≤ budget
  pub pushes : r.pushed ≤ c.pushed + d
  pub drops : r.dropped ≤ c.dropped + d
  pub closes : r.closed ≤ c.closed + d

-- a step from node k at a cost to the point of node j
pub record Seen (aim : Aim) (k : ℕ) (c : Counts) (j cost : ℕ) (to : Feet) (label : Label) (r : Counts) (a f b g : List ℕ) : Type 0 where
  pub state : state_of b g r ≡ apply aim.budget (state_of a f c) (effect_known k (to, label) (j, node_in a f j) (node_in a f j).closed (relaxed aim.goal cost to (node_in a f j).note c.pushed))
  pub kept : Kept r.retained a f b g
  pub still : Still c.retained a b
  pub rest : Rests c.retained a f b g
  pub near : Near aim.budget 1 c r

-- the counts that a visit answers: at a closed node those from before
abbrev pub counts_by : Counts → Option Counts → Counts
counts_by c None = c
counts_by c (Some r) = r

abbrev pub says_closed : Option Counts → Bool
says_closed None = true
says_closed (Some r) = false

abbrev pub is_shut : NodeRecord → Bool
is_shut r = not (eqb r.closed 0)

-- what a lookup found among n nodes: node j, or none
unfoldable pub found_at : List ℕ → List ℕ → ℕ → ℕ → Maybe (ℕ × Node Feet Label Note)
found_at a f n j = cond (ltb j n) (some (j, node_in a f j)) none

-- whether it is a closed node
unfoldable pub shut_at : List ℕ → ℕ → ℕ → Bool
shut_at a n j = ltb j n && is_shut (node_at a j)

-- a step from node k to a point where a lookup found j: what the theory makes of that. Where j is the first node at the point, it is the theory's visit
-- (`visit_sought`).
pub record Visited (aim : Aim) (k : ℕ) (from : NodeRecord) (c : Counts) (j : ℕ) (to : Feet) (label : Label) (r : Counts) (a f b g : List ℕ) : Type 0 where
  pub state : (𝓖 : Graph Feet Label) → (n : Node Feet Label Note) → n.point ≡ from.feet → n.note.cost ≡ from.cost →
      state_of b g r ≡ apply aim.budget (state_of a f c) (effect_at 𝓖 (best aim.goal) k n c.pushed (to, label) (found_at a f c.retained j))
  pub kept : Kept r.retained a f b g
  pub still : Still c.retained a b
  pub rest : Rests c.retained a f b g
  pub near : Near aim.budget 1 c r

-- and what it answers, on every input
pub record VisitedIf (aim : Aim) (k : ℕ) (from : NodeRecord) (c : Counts) (j : ℕ) (to : Feet) (label : Label) (v : Option Counts) (a f b g : List ℕ) : Type 0 where
  pub done : ready (length a) (length f) aim.budget k c ≡ true → Visited aim k from c j to label (counts_by c v) a f b g
  pub left : ready (length a) (length f) aim.budget k c ≡ false → Untouched c (counts_by c v) a f b g
  pub closed : says_closed v ≡ (ready (length a) (length f) aim.budget k c && shut_at a c.retained j)

-- node k closed: the theory's close
pub record Closed (aim : Aim) (k : ℕ) (c r : Counts) (a f b g : List ℕ) : Type 0 where
  pub state : (𝓖 : Graph Feet Label) → state_of b g r ≡ close 𝓖 (best aim.goal) (state_of a f c) k (node_in a f k)
  pub kept : Kept r.retained a f b g
  pub still : Still c.retained a b
  pub rest : Rests c.retained a f b g
  pub near : Near aim.budget 1 c r

pub record ClosedIf (aim : Aim) (k : ℕ) (c : Counts) (r : Closing) (a f b g : List ℕ) : Type 0 where
  pub node : r.node ≡ node_at a k
  pub done : ready (length a) (length f) aim.budget k c ≡ true → Closed aim k c r.counts a f b g
  pub left : ready (length a) (length f) aim.budget k c ≡ false → Untouched c r.counts a f b g

-- the node that a step from node k retains or re-parents
abbrev pub child_record : ℕ → Feet → Label → ℕ → NodeRecord
child_record k p l cost = record { feet = p; label = l; cost = cost; parent = k; closed = 0 }

abbrev pub start_record : Feet → NodeRecord
start_record p = record { feet = p; label = standing; cost = 0; parent = nobody; closed = 0 }

abbrev pub counted : ℕ → ℕ → Counts
counted n d = record { retained = n; closed = 0; pushed = 1; dropped = d }

-- the start retained as node 0, or dropped under budget 0
pub record Started (budget : ℕ) (start : Feet) (r : Counts) (a f b g : List ℕ) : Type 0 where
  pub none : budget ≡ 0 → Untouched (counted 0 1) r a f b g
  pub some : budget ≢ 0 → (r ≡ counted 1 0) × PutNode a 0 (start_record start) b × PutEntry f 0 (pushed_as 0 0) g

-- the theory's begin, where the rooms are large enough
pub record Begun (budget : ℕ) (start : Feet) (r : Counts) (a f b g : List ℕ) : Type 0 where
  pub state : (𝓖 : Graph Feet Label) → 𝓖.start ≡ start → 𝓖.start_label ≡ standing → (goal : Feet) → state_of b g r ≡ begin 𝓖 (best goal) budget
  pub kept : Kept r.retained a f b g
  pub near : Near budget 1 (counted 0 0) r
