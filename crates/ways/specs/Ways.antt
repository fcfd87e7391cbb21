-- The way of an edge (01, The graph, "Edge"), its checks, the first that fails told (02, No. 3), and its door (02, No. 5), over a space, a request and a body.
-- Definitions only.
use Rattle.std.specs.Prelude.{ℕ, cond, Float, Result, Ok, Err}
use Rattle.std.specs.Float.{binary64}
use Rattle.std.specs.Float.Ieee.{add}
use Rattle.floats.specs.Floats.{nought}
use Rattle.world.specs.declared.Point.{Point}
use Rattle.world.specs.declared.Aabb.{Aabb}
use Rattle.world.specs.declared.Body.{Body}
use Rattle.world.specs.declared.Request.{Request}
use Rattle.world.specs.Boxes.{from_feet, expand_towards, minus}
use Rattle.world.specs.Space.{Space}
use Rattle.clear.specs.Clear.{clear}
use Rattle.clear.specs.Corridors.{or_else, door_in}
use Rattle.support.specs.Support.{supported}
use Rattle.places.specs.Places.{in_range, standable}
use Rattle.moves.specs.declared.answer.Movement.{Movement}
use Rattle.moves.specs.declared.answer.Waypoint.{Waypoint}
use Rattle.moves.specs.declared.answer.Reason.{Reason}
use Rattle.moves.specs.declared.answer.Reason.TheVariants.{TargetOutOfRange, RaisedOutOfRange, TargetNotStandable, LiftBlocked, CrossingBlocked, SettleBlocked, Unsupported}

-- the corners of the way: up by the lift, across, and down or up to the target
abbrev pub raised : Point → Float → Point
raised from lift = record { x = from.x; y = add binary64 from.y lift; z = from.z }

abbrev pub across : Point → Float → Point → Point
across from lift to = record { x = to.x; y = add binary64 from.y lift; z = to.z }

abbrev pub up : Float → Point
up lift = record { x = nought; y = lift; z = nought }

-- the area that a body sweeps from a point on
unfoldable pub swept : Body → Point → Point → Aabb
swept body feet by = expand_towards (from_feet feet body.width body.height) by

-- "the lift, crossing and settle areas"
abbrev pub lift_area : Body → Point → Float → Aabb
lift_area body from lift = swept body from (up lift)

abbrev pub crossing_area : Body → Point → Point → Float → Aabb
crossing_area body from to lift = swept body (raised from lift) (minus (across from lift to) (raised from lift))

abbrev pub settle_area : Body → Point → Point → Float → Aabb
settle_area body from to lift = swept body (across from lift to) (minus to (across from lift to))

-- 02, No. 5: "the first crossed cell .. whose voxel intersects a corridor area, taken in lift, crossing, settle order"
unfoldable pub way_door : Space → Body → Point → Point → Float → ℕ
way_door sp body from to lift =
    or_else (door_in sp (lift_area body from lift)) (or_else (door_in sp (crossing_area body from to lift)) (door_in sp (settle_area body from to lift)))

-- the waypoint at the end of a way
abbrev pub waypoint_by : Space → Body → Point → Point → Float → Movement → Waypoint
waypoint_by sp body from to lift movement = record { feet = to; lift = lift; movement = movement; door = way_door sp body from to lift }

-- "Then target and raised point in range, target standable, the lift, crossing and settle areas clear, the segment supported.": 02, No. 3, tells the first of
-- these that is not so, "target out of range, raised point out of range, target not standable, lift blocked, crossing blocked, settle blocked, segment
-- unsupported, in 01's order"; and where all are so, the way leads to its waypoint.
unfoldable pub way_check : Space → Request → Body → Point → Point → Float → Movement → Result Waypoint Reason
way_check sp r body from to lift movement =
    cond (in_range r to)
    (cond (in_range r (raised from lift))
    (cond (standable sp body to)
    (cond (clear sp (lift_area body from lift))
    (cond (clear sp (crossing_area body from to lift))
    (cond (clear sp (settle_area body from to lift))
    (cond (supported sp body.width from to)
    (Ok (waypoint_by sp body from to lift movement))
    (Err Unsupported))
    (Err SettleBlocked))
    (Err CrossingBlocked))
    (Err LiftBlocked))
    (Err TargetNotStandable))
    (Err RaisedOutOfRange))
    (Err TargetOutOfRange)
