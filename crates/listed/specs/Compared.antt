-- How a record of the list compares with an edge and with the start (01, The graph, "Same point"). Definitions only.
use Rattle.std.specs.Prelude.{Bool, false, ◌&&◌, Option, Some, None}
use Rattle.world.specs.declared.Point.{Point}
use Rattle.moves.specs.declared.answer.Waypoint.{Waypoint}
use Rattle.rooms.specs.declared.Label.{Label}
use Rattle.rooms.specs.declared.WaypointRecord.{WaypointRecord}
use Rattle.rooms.specs.Waypoints.{same_point, alike, standing}
use Rattle.words.specs.Words.{feet_of, label_of}

-- an edge leads to a record: its point, its movement, its lift and its door (02, No. 5)
unfoldable pub leads_to : WaypointRecord → Waypoint → Bool
leads_to v step = same_point (feet_of step.feet) v.feet && alike (label_of step) v.label

-- an answer is an edge with a label
abbrev pub labelled_by : Option Waypoint → Label → Bool
labelled_by None l = false
labelled_by (Some step) l = alike (label_of step) l

-- a record is the start's: its point, Walk, lift 0, and no door
abbrev pub starts : Point → WaypointRecord → Bool
starts start v = same_point (feet_of start) v.feet && alike standing v.label
