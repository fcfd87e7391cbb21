-- `segments::far::keep_run` meets its contract. Assumes nothing.
use Rattle.std.proofs.Common.{true, List}
use Rattle.world.specs.Run.{boxes_left}
use Rattle.support.specs.declared.Interval.{Interval}
use Rattle.support.specs.Pass.{run_shapes}
use Rattle.support.specs.PassLaws.{found}
use Rattle.support.specs.Joints.{Gathers}
use Rattle.segments.proofs.far.keep_run.Given as goal

-- what the boxes left make of the parts, all boxes make of the parts at the start
abbrev pub invariant-loop-b : goal.invariant-loop-b
invariant-loop-b l =
    (d : List Interval) → Gathers (found l.way (run_shapes true l.by (boxes_left l.b-iterator))) l.parts d → Gathers (found l.way (run_shapes true l.by (boxes_left l.fn.run))) l.initial.parts d
