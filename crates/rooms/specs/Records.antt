-- The records of the rooms (01, "Tables, little-endian records"), read and written as words. Definitions only.
use Rattle.std.specs.Prelude.{ℕ, ◌*◌, List, [], ◌∷◌, get_or}
use Rattle.fields.specs.Records.{record_at, with_record}
use Rattle.rooms.specs.declared.Feet.{Feet}
use Rattle.rooms.specs.declared.Label.{Label}
use Rattle.rooms.specs.declared.WaypointRecord.{WaypointRecord}
use Rattle.rooms.specs.declared.NodeRecord.{NodeRecord}
use Rattle.rooms.specs.declared.Entry.{Entry}

-- "Waypoint record 40 bytes: feet x, y, z, lift, movement as u64", and by 02, No. 5, "Each waypoint record gains 8 bytes: the state number, as u64"
abbrev pub waypoint_layout : List ℕ
waypoint_layout = 8 ∷ 8 ∷ 8 ∷ 8 ∷ 8 ∷ 8 ∷ []

abbrev pub waypoint_words : Feet → Label → List ℕ
waypoint_words p l = p.x ∷ p.y ∷ p.z ∷ l.lift ∷ l.movement ∷ l.door ∷ []

abbrev pub feet_from : List ℕ → Feet
feet_from vs = record { x = get_or vs 0 0; y = get_or vs 1 0; z = get_or vs 2 0 }

abbrev pub label_from : List ℕ → Label
label_from vs = record { lift = get_or vs 3 0; movement = get_or vs 4 0; door = get_or vs 5 0 }

abbrev pub waypoint_from : List ℕ → WaypointRecord
waypoint_from vs = record { feet = feet_from vs; label = label_from vs }

-- waypoint k of a list, and the list with waypoint k written
unfoldable pub waypoint_at : List ℕ → ℕ → WaypointRecord
waypoint_at s k = waypoint_from (record_at waypoint_layout s (48 * k))

unfoldable pub with_waypoint : List ℕ → ℕ → Feet → Label → List ℕ
with_waypoint out k p l = with_record waypoint_layout out (48 * k) (waypoint_words p l)

-- "Node record 56 bytes: waypoint, cost, parent u32 (4294967295 for none), closed u32.", and by 02, No. 5, "Node records grow alike, to 64 bytes"
abbrev pub node_layout : List ℕ
node_layout = 8 ∷ 8 ∷ 8 ∷ 8 ∷ 8 ∷ 8 ∷ 8 ∷ 4 ∷ 4 ∷ []

abbrev pub node_words : NodeRecord → List ℕ
node_words r = r.feet.x ∷ r.feet.y ∷ r.feet.z ∷ r.label.lift ∷ r.label.movement ∷ r.label.door ∷ r.cost ∷ r.parent ∷ r.closed ∷ []

abbrev pub node_from : List ℕ → NodeRecord
node_from vs = record { feet = feet_from vs; label = label_from vs; cost = get_or vs 6 0; parent = get_or vs 7 0; closed = get_or vs 8 0 }

-- node k, and the node room with node k written
unfoldable pub node_at : List ℕ → ℕ → NodeRecord
node_at a k = node_from (record_at node_layout a (64 * k))

unfoldable pub with_node : List ℕ → ℕ → NodeRecord → List ℕ
with_node a k r = with_record node_layout a (64 * k) (node_words r)

-- "Frontier record 24 bytes, record k for node k: estimate, push order u64, waiting u64 (1; all zero when node k doesn't wait)."
abbrev pub entry_layout : List ℕ
entry_layout = 8 ∷ 8 ∷ 8 ∷ []

abbrev pub entry_words : Entry → List ℕ
entry_words e = e.estimate ∷ e.order ∷ e.waiting ∷ []

abbrev pub entry_from : List ℕ → Entry
entry_from vs = record { estimate = get_or vs 0 0; order = get_or vs 1 0; waiting = get_or vs 2 0 }

unfoldable pub entry_at : List ℕ → ℕ → Entry
entry_at f k = entry_from (record_at entry_layout f (24 * k))

unfoldable pub with_entry : List ℕ → ℕ → Entry → List ℕ
with_entry f k e = with_record entry_layout f (24 * k) (entry_words e)
