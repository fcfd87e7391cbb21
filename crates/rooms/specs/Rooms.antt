-- The two rooms as a state of the search: record k of the node room with record k of the frontier room is node k. The state keeps every word of both, so
-- that any rooms are some state, and its nodes, written back, are the node room's bytes (`Laws.Rooms`). Definitions only.
use Rattle.std.specs.Prelude.{◌≡◌, ℕ, ◌*◌, Bool, not, cond, List, ◌++◌, eqb, length, drop}
use Rattle.std.proofs.Math.Option.{Option, none, some}
use Rattle.std.specs.Float.Ieee.{lt, eq}
use Rattle.exploration.specs.Graph.{Graph}
use Rattle.exploration.specs.Policy.{Node}
use Rattle.exploration.specs.Explore.{State}
use Rattle.exploration.specs.Estimates as estimates
use Rattle.fields.specs.Records.{firsts, record_bytes, records_bytes}
use Rattle.rooms.specs.declared.Feet.{Feet}
use Rattle.rooms.specs.declared.Label.{Label}
use Rattle.rooms.specs.declared.NodeRecord.{NodeRecord}
use Rattle.rooms.specs.declared.Entry.{Entry}
use Rattle.rooms.specs.declared.Counts.{Counts}
use Rattle.rooms.specs.Records.{node_layout, node_words, node_at, entry_layout, entry_words, entry_at}
use Rattle.rooms.specs.Waypoints.{same_point}
use Rattle.rooms.specs.Scans.{waits, estimate_of}

-- what the search notes of a node: the pattern of its cost, its closed mark, and its frontier record
pub record Note : Type 0 where
  pub cost : ℕ
  pub mark : ℕ
  pub entry : Entry

-- "parent u32 (4294967295 for none)"
abbrev pub nobody : ℕ
nobody = 4294967295

unfoldable pub parent_of : ℕ → Option ℕ
parent_of p = cond (eqb p nobody) none (some p)

unfoldable pub node_of : NodeRecord → Entry → Node Feet Label Note
node_of r e = record { point = r.feet; label = r.label; parent = parent_of r.parent; closed = not (eqb r.closed 0); note = record { cost = r.cost; mark = r.closed; entry = e } }

abbrev pub node_in : List ℕ → List ℕ → ℕ → Node Feet Label Note
node_in a f k = node_of (node_at a k) (entry_at f k)

-- the first n nodes of the rooms
abbrev pub nodes_of : ℕ → List ℕ → List ℕ → List (Node Feet Label Note)
nodes_of n a f = firsts n (node_in a f)

-- the state of a search that goes on: its book is the number of pushes
unfoldable pub state_of : List ℕ → List ℕ → Counts → State Feet Label Note ℕ
state_of a f c = record { nodes = nodes_of c.retained a f; book = c.pushed; closings = c.closed; dropped = c.dropped; found = none }

-- a graph whose points compare as 01 says
abbrev pub BySamePoint : Graph Feet Label → Type 0
BySamePoint 𝓖 = (p q : Feet) → 𝓖.same p q ≡ same_point p q

-- ---- the frontier, of nodes

abbrev pub node_waits : Node Feet Label Note → Bool
node_waits n = waits n.note.entry

abbrev pub node_sooner : Node Feet Label Note → Node Feet Label Note → Bool
node_sooner = estimates.sooner lt eq (λ n. estimate_of n.note.entry) (λ n. n.note.entry.order)

-- ---- a state in bytes

abbrev pub parent_word : Option ℕ → ℕ
parent_word none = nobody
parent_word (some k) = k

abbrev pub record_of : Node Feet Label Note → NodeRecord
record_of n = record { feet = n.point; label = n.label; cost = n.note.cost; parent = parent_word n.parent; closed = n.note.mark }

abbrev pub node_bytes : Node Feet Label Note → List ℕ
node_bytes n = record_bytes node_layout (node_words (record_of n))

-- "the node room holds the retained nodes in discovery order, then its old bytes"
abbrev pub node_room : List ℕ → List (Node Feet Label Note) → List ℕ
node_room old ns = records_bytes node_bytes ns ++ drop (64 * length ns) old

abbrev pub entry_bytes : Node Feet Label Note → List ℕ
entry_bytes n = record_bytes entry_layout (entry_words n.note.entry)

-- the frontier records of the retained nodes, then the room's old bytes
abbrev pub front_room : List ℕ → List (Node Feet Label Note) → List ℕ
front_room old ns = records_bytes entry_bytes ns ++ drop (24 * length ns) old

-- 02, No. 10: "the counts (retained, closed, pushed, dropped)"
abbrev pub counts_in : State Feet Label Note ℕ → Counts
counts_in s = record { retained = length s.nodes; closed = s.closings; pushed = s.book; dropped = s.dropped }
