-- `progress::waits_good` meets its contract. The loop's invariant: the records before `k` are good. Assumes nothing.
use Rattle.std.proofs.Common.{◌≤◌, ◌-◌, ◌/◌, length, ◌≡◌, true}
use Rattle.chains.specs.Chains.{each_below}
use Rattle.progress.specs.Progress.{good_wait}
use Rattle.progress.proofs.waits_good.Given as goal

abbrev pub invariant-loop-k : goal.invariant-loop-k
invariant-loop-k l = (l.k ≤ length l.front / 24) × (each_below (good_wait l.nodes l.front l.n) l.k ≡ true)

abbrev pub decreases-loop-k : goal.decreases-loop-k
decreases-loop-k l = length l.front / 24 - l.k
