-- The list that a search found, on the node room and in bytes (01, "Tables", "Waypoint record"; 02, No. 5: 48 bytes). Definitions only.
use Rattle.std.specs.Prelude.{◌≡◌, Bool, true, false, cond, ℕ, zero, suc, ◌*◌, ◌/◌, ltb, leb, length, drop}
use mathlib.Core.List.{List, [], ◌∷◌, ◌++◌, reverse_aux}
use Rattle.fields.specs.Records.{record_bytes, records_bytes}
use Rattle.rooms.specs.declared.Feet.{Feet}
use Rattle.rooms.specs.declared.Label.{Label}
use Rattle.rooms.specs.Records.{waypoint_layout, waypoint_words, node_at}

-- the waypoint of node k
abbrev pub node_waypoint : List ℕ → ℕ → Feet × Label
node_waypoint a k = ((node_at a k).feet, (node_at a k).label)

abbrev pub walk_by : Bool → Feet × Label → List (Feet × Label) → List (Feet × Label)
walk_by true w ws = w ∷ ws
walk_by false w ws = []

-- at most f points back from one of n nodes, over the parents
abbrev pub walk : ℕ → List ℕ → ℕ → ℕ → List (Feet × Label)
walk zero a n k = []
walk (suc f) a n k = walk_by (ltb k n) (node_waypoint a k) (walk f a n (node_at a k).parent)

-- the list of n nodes that ends at node k, and then t; none where the room has fewer nodes
unfoldable pub list_of : List ℕ → ℕ → ℕ → List (Feet × Label) → List (Feet × Label)
list_of a n k t = cond (leb n (length a / 64)) (reverse_aux (walk n a n k) t) []

-- waypoint records of 48 bytes, one behind another
abbrev pub waypoint_bytes : Feet × Label → List ℕ
waypoint_bytes w = record_bytes waypoint_layout (waypoint_words w.0 w.1)

abbrev pub list_bytes : List (Feet × Label) → List ℕ
list_bytes ws = records_bytes waypoint_bytes ws

-- "Output past the list stays"; where the output has no room for the list, all of it
unfoldable pub written : List (Feet × Label) → List ℕ → List ℕ
written ws old = cond (leb (length ws) (length old / 48)) (list_bytes ws ++ drop (48 * length ws) old) old

-- a list written, and how many points it has
pub record Listed (a : List ℕ) (n k : ℕ) (t : List (Feet × Label)) (r : ℕ) (old out : List ℕ) : Type 0 where
  pub count : r ≡ length (list_of a n k t)
  pub bytes : out ≡ written (list_of a n k t) old
