-- The list that is walked back (01, Tables, "Waypoint record"; 02, No. 5: 48 bytes), as points and labels of the graph. Definitions only.
use Rattle.std.specs.Prelude.{ℕ, zero, suc, ◌/◌, ◌%◌, Bool, not, ◌||◌, List, [], ◌∷◌, eqb, ltb, length}
use Rattle.exploration.specs.Lists.{has}
use Rattle.rooms.specs.declared.Feet.{Feet}
use Rattle.rooms.specs.declared.Label.{Label}
use Rattle.rooms.specs.declared.WaypointRecord.{WaypointRecord}
use Rattle.rooms.specs.Records.{waypoint_at}

-- a record's point and its label
abbrev pub entry : WaypointRecord → Feet × Label
entry v = (v.feet, v.label)

-- n records from record k on
unfoldable pub entries_from : List ℕ → ℕ → ℕ → List (Feet × Label)
entries_from s k zero = []
entries_from s k (suc n) = entry (waypoint_at s k) ∷ entries_from s (suc k) n

-- the whole records of a list
unfoldable pub waypoints : List ℕ → List (Feet × Label)
waypoints s = entries_from s 0 (length s / 48)

-- "An empty list, a partial record or a movement above 3 is no": such a list is bad (02, No. 3)
abbrev pub above3 : Feet × Label → Bool
above3 v = ltb 3 v.1.movement

unfoldable pub bad_list : List ℕ → Bool
bad_list s = not (eqb (length s % 48) 0) || eqb (length s) 0 || has above3 (waypoints s)
