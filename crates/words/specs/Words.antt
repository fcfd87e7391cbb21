-- Points and edges as words of records (01, Tables, "Waypoint record"): a point is three 64-bit patterns, a label a movement's number, a lift's pattern
-- and a door (02, No. 5). Definitions only.
use Rattle.std.specs.Prelude.{ℕ, Float, Option, Some, None}
use Rattle.std.proofs.Math.Option.{Option as Maybe, none, some}
use Rattle.std.specs.Float.{binary64}
use Rattle.std.specs.Float.Ieee.{of_bits, to_bits}
use Rattle.world.specs.declared.Point.{Point}
use Rattle.moves.specs.declared.answer.Waypoint.{Waypoint}
use Rattle.moves.specs.Moves.{movement_number}
use Rattle.rooms.specs.declared.Feet.{Feet}
use Rattle.rooms.specs.declared.Label.{Label}
use Rattle.rooms.specs.Waypoints.{canonical_word}

-- a point is read with -0.0 as 0, which changes neither its steps nor its connector (`steps_by_bits`, `connector_by_bits` of arrival)
unfoldable pub coordinate : ℕ → Float
coordinate n = of_bits binary64 (canonical_word n)

unfoldable pub point_of : Feet → Point
point_of p = record { x = coordinate p.x; y = coordinate p.y; z = coordinate p.z }

unfoldable pub feet_of : Point → Feet
feet_of p = record { x = to_bits binary64 p.x; y = to_bits binary64 p.y; z = to_bits binary64 p.z }

unfoldable pub label_of : Waypoint → Label
label_of w = record { movement = movement_number w.movement; lift = to_bits binary64 w.lift; door = w.door }

unfoldable pub step_of : Waypoint → Feet × Label
step_of w = (feet_of w.feet, label_of w)

abbrev pub label_if : Option Waypoint → Maybe Label
label_if None = none
label_if (Some w) = some (label_of w)
