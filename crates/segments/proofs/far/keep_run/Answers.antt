-- `segments::far::keep_run` meets its contract. Assumes nothing.
use Rattle.std.proofs.Common.{true}
use Rattle.world.specs.Boxes.{moved}
use Rattle.support.specs.Joints.{gathers_on}
use Rattle.segments.proofs.far.keep_run.Goals as goal

pub loop-b-preserved : goal.loop-b-preserved
loop-b-preserved c = λ d x.
    let a = c.args in
    let one = rw c.offset.ensures at c.keep_box.ensures in
    c.loop-b.invariant d (rw c.in-Some.ensures.steps (gathers_on a.way (record { support = true; box = moved c.in-Some.b a.by }) _ one x))
