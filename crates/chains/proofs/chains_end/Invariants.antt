-- `chains::chains_end` meets its contract. The loop's invariant: the chains of the nodes passed end, and each marked node reaches node 0. Assumes nothing.
use Rattle.std.proofs.Common.{◌≡◌, true}
use Rattle.chains.specs.Chains.{each_below, ends_at_start}
use Rattle.chains.specs.Marks.{MarksSound}
use Rattle.chains.proofs.chains_end.Given as goal

abbrev pub invariant-loop-k : goal.invariant-loop-k
invariant-loop-k l = MarksSound l.nodes l.done × (each_below (ends_at_start l.nodes l.n) l.k ≡ true)
