-- `segments::far::keep_all` meets its contract. Assumes nothing.
use Rattle.world.specs.Space.{space_of}
use Rattle.support.specs.Joints.{gathers_cell}
use Rattle.segments.proofs.far.keep_all.Goals as goal

pub loop-at-preserved : goal.loop-at-preserved
loop-at-preserved c = λ d x.
    c.loop-at.invariant d (gathers_cell c.args.way (space_of c.args.world) _ _ c.in-Some.at c.in-Some.ensures.steps c.keep_cell.ensures x)
