-- 01, The graph, "Edge": the movement and the lift by a difference in height; what an edge's answer gives, and what an edge check's (02, No. 3). Definitions only.
use Rattle.std.specs.Prelude.{ℕ, ◌+◌, cond, List, [], ◌∷◌, Float, Option, Some, None, Result, Ok, Err}
use Rattle.std.specs.Float.{binary64}
use Rattle.std.specs.Float.Ieee.{lt, le, add, neg}
use Rattle.floats.specs.Floats.{E, nought, smaller, larger}
use Rattle.world.specs.declared.Body.{Body}
use Rattle.world.specs.declared.Request.{Request}
use Rattle.moves.specs.declared.answer.Movement.{Movement}
use Rattle.moves.specs.declared.answer.Movement.TheVariants.{Walk, Step, Jump, Drop}
use Rattle.moves.specs.declared.answer.Waypoint.{Waypoint}
use Rattle.moves.specs.declared.answer.Reason.{Reason}
use Rattle.moves.specs.declared.answer.Reason.TheVariants.{TooHigh, TooDeep, TargetOutOfRange, RaisedOutOfRange, TargetNotStandable, LiftBlocked, CrossingBlocked, SettleBlocked, Unsupported}

-- 01, Tables: "movement as u64 (0 Walk, 1 Step, 2 Jump, 3 Drop)"
abbrev pub movement_number : Movement → ℕ
movement_number Walk = 0
movement_number Step = 1
movement_number Jump = 2
movement_number Drop = 3

-- 01 has no number for an edge. Ours are from 100 on, so that none is one of 01's: 130 Walk, 131 Step, 132 Jump, 133 Drop, and 110 where there is no edge and no
-- reason is asked for.
abbrev pub moved_number : Movement → ℕ
moved_number m = 130 + movement_number m

abbrev pub none_number : ℕ
none_number = 110

-- "Each enum answer has a definition that gives this paper's number and values for each of its cases." Of a movement the value is its lift,
unfoldable pub moving_given : Option (Movement × Float) → ℕ × List Float
moving_given (Some (m, lift)) = (moved_number m, lift ∷ [])
moving_given None = (none_number, [])

-- and of an edge the values are those of its waypoint, in the order of 01's record: "feet x, y, z, lift", then the movement, which the number says, and behind it the
-- door (02, No. 5).
abbrev pub Values : Type 0
Values = List Float × List ℕ

abbrev pub waypoint_given : Waypoint → Values
waypoint_given w = (w.feet.x ∷ w.feet.y ∷ w.feet.z ∷ w.lift ∷ [], w.door ∷ [])

abbrev pub no_values : Values
no_values = ([], [])

unfoldable pub edge_given : Option Waypoint → ℕ × Values
edge_given (Some w) = (moved_number w.movement, waypoint_given w)
edge_given None = (none_number, no_values)

-- 02, No. 3: "too high, too deep, target out of range, raised point out of range, target not standable, lift blocked, crossing blocked, settle blocked, segment
-- unsupported", in this order from 101 on
abbrev pub reason_number : Reason → ℕ
reason_number TooHigh = 101
reason_number TooDeep = 102
reason_number TargetOutOfRange = 103
reason_number RaisedOutOfRange = 104
reason_number TargetNotStandable = 105
reason_number LiftBlocked = 106
reason_number CrossingBlocked = 107
reason_number SettleBlocked = 108
reason_number Unsupported = 109

-- an edge check gives the edge's number and waypoint, or its reason's number
abbrev pub check_number : Result Waypoint Reason → ℕ
check_number (Ok w) = moved_number w.movement
check_number (Err why) = reason_number why

abbrev pub check_values : Result Waypoint Reason → Values
check_values (Ok w) = waypoint_given w
check_values (Err why) = no_values

unfoldable pub check_given : Result Waypoint Reason → ℕ × Values
check_given a = (check_number a, check_values a)

-- "step = the smaller step height"
unfoldable pub step_height : Request → Body → Float
step_height r body = smaller r.step_height body.step_height

-- "Rise above E: Step with lift dy if dy ≤ step + E, else Jump with lift jump_height if dy ≤ jump_height + E, else none."
unfoldable pub rising : Request → Body → Float → Option (Movement × Float)
rising r body dy =
    cond (le dy (add binary64 (step_height r body) E)) (Some (Step, dy))
    (cond (le dy (add binary64 r.jump_height E)) (Some (Jump, r.jump_height)) None)

-- "Fall beyond E: Drop, lift 0, if at most max_drop + E, else none."
unfoldable pub falling : Request → Float → Option (Movement × Float)
falling r dy = cond (le (neg dy) (add binary64 r.max_drop E)) (Some (Drop, nought)) None

-- "Otherwise Walk, lift the larger of dy and 0.": of a zero +0.0
unfoldable pub moving : Request → Body → Float → Option (Movement × Float)
moving r body dy =
    cond (lt E dy) (rising r body dy)
    (cond (lt dy (neg E)) (falling r dy)
    (Some (Walk, larger dy nought)))
