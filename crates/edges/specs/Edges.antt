-- 01, The graph, "Edge" and "Connector", over a space, a request and a body. Definitions only.
use Rattle.std.specs.Prelude.{Bool, ◌&&◌, cond, Float, Option, Some, None}
use Rattle.std.specs.Float.{binary64}
use Rattle.std.specs.Float.Ieee.{sub, of_bits}
use Rattle.world.specs.declared.Point.{Point}
use Rattle.world.specs.declared.Body.{Body}
use Rattle.world.specs.declared.Request.{Request}
use Rattle.world.specs.Boxes.{minus}
use Rattle.world.specs.Space.{Space}
use Rattle.clear.specs.Clear.{clear}
use Rattle.support.specs.Support.{supported}
use Rattle.places.specs.Places.{near, in_range, standable}
use Rattle.moves.specs.declared.answer.Movement.{Movement}
use Rattle.moves.specs.declared.answer.Waypoint.{Waypoint}
use Rattle.moves.specs.Moves.{moving}
-- the corners of the way, and the area that a body sweeps from a point on
pub use Rattle.ways.specs.Ways.{raised, across, up}
unfoldable pub use Rattle.ways.specs.Ways.{swept, way_door}
pub use Rattle.ways.specs.Ways.{waypoint_by}

-- "the lift, crossing and settle areas clear"
unfoldable pub way_clear : Space → Body → Point → Point → Float → Bool
way_clear sp body from to lift =
    clear sp (swept body from (up lift))
    && clear sp (swept body (raised from lift) (minus (across from lift to) (raised from lift)))
    && clear sp (swept body (across from lift to) (minus to (across from lift to)))

-- "Then target and raised point in range, target standable, the lift, crossing and settle areas clear, the segment supported."
unfoldable pub passable : Space → Request → Body → Point → Point → Float → Bool
passable sp r body from to lift =
    in_range r to && in_range r (raised from lift) && standable sp body to && way_clear sp body from to lift && supported sp body.width from to

-- the waypoint that a movement leads to, where there is one and the way is passable; it carries the way's door (02, No. 5)
abbrev pub edge_by : Space → Request → Body → Point → Point → Option (Movement × Float) → Option Waypoint
edge_by sp r body from to None = None
edge_by sp r body from to (Some (movement, lift)) =
    cond (passable sp r body from to lift) (Some (waypoint_by sp body from to lift movement)) None

-- 01, The graph, "Edge": the movement by dy, and then the checks
unfoldable pub edge : Space → Request → Body → Point → Point → Option Waypoint
edge sp r body from to = edge_by sp r body from to (moving r body (sub binary64 to.y from.y))

-- "Connector: an edge to the goal with both horizontal differences at most 1.5."
abbrev pub near_goal : Request → Point → Bool
near_goal r from =
    let most = of_bits binary64 0x3ff8_0000_0000_0000 in
    near most from.x r.goal.x && near most from.z r.goal.z

-- 01, The graph: "Connector: an edge to the goal with both horizontal differences at most 1.5."
unfoldable pub connector : Space → Request → Body → Point → Option Waypoint
connector sp r body from = cond (near_goal r from) (edge sp r body from r.goal) None
