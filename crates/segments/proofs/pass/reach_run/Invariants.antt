-- `segments::pass::reach_run` meets its contract. Assumes nothing.
use Rattle.std.proofs.Common.{◌≡◌, Some}
use Rattle.world.specs.Run.{boxes_left}
use Rattle.support.specs.Pass.{pass, run_shapes}
use Rattle.segments.proofs.pass.reach_run.Given as goal

-- the boxes that are left make of the pass what all of them make of it
abbrev pub invariant-loop-b : goal.invariant-loop-b
invariant-loop-b l = pass l.way (Some l.covered) (run_shapes l.support l.by (boxes_left l.fn.run)) ≡ pass l.way (Some l.to) (run_shapes l.support l.by (boxes_left l.b-iterator))
