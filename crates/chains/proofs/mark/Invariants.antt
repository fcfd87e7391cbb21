-- `chains::mark` meets its contract. The loop's invariant: `at` is a node that reaches node 0, as each marked node does. Assumes nothing.
use Rattle.std.proofs.Common.{◌<◌}
use Rattle.chains.specs.Marks.{MarksSound, Reaches}
use Rattle.chains.proofs.mark.Given as goal

abbrev pub invariant-loop-i : goal.invariant-loop-i
invariant-loop-i l = (l.at < l.n) × Reaches l.nodes l.at × MarksSound l.nodes l.done
