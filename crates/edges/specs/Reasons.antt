-- 02, No. 3: "The edge check should answer its first reason: too high, too deep, target out of range, raised point out of range, target not standable, lift
-- blocked, crossing blocked, settle blocked, segment unsupported, in 01's order." Definitions only. That the edge of 01 is what passes the check is `check_is` of
-- Laws.
use Rattle.std.specs.Prelude.{cond, Float, Option, Some, None, Result, Err}
use Rattle.std.specs.Result.{result_ok}
use Rattle.std.specs.Float.{binary64}
use Rattle.std.specs.Float.Ieee.{lt, sub}
use Rattle.floats.specs.Floats.{E}
use Rattle.world.specs.declared.Point.{Point}
use Rattle.world.specs.declared.Body.{Body}
use Rattle.world.specs.declared.Request.{Request}
use Rattle.world.specs.Space.{Space}
use Rattle.moves.specs.declared.answer.Movement.{Movement}
use Rattle.moves.specs.declared.answer.Waypoint.{Waypoint}
use Rattle.moves.specs.declared.answer.Reason.{Reason}
use Rattle.moves.specs.declared.answer.Reason.TheVariants.{TooHigh, TooDeep}
use Rattle.moves.specs.Moves.{moving}
use Rattle.ways.specs.Ways.{way_check}

-- "too high, too deep": of a difference in height that no movement takes. A rise above E is too high, and what else no movement takes is a fall beyond E.
abbrev pub height_reason : Float → Reason
height_reason dy = cond (lt E dy) TooHigh TooDeep

-- the movement first, then the way
abbrev pub check_by : Space → Request → Body → Point → Point → Option (Movement × Float) → Result Waypoint Reason
check_by sp r body from to None = Err (height_reason (sub binary64 to.y from.y))
check_by sp r body from to (Some (movement, lift)) = way_check sp r body from to lift movement

unfoldable pub edge_check : Space → Request → Body → Point → Point → Result Waypoint Reason
edge_check sp r body from to = check_by sp r body from to (moving r body (sub binary64 to.y from.y))

-- an edge is what its check lets pass
abbrev pub edge_of : Result Waypoint Reason → Option Waypoint
edge_of = result_ok
