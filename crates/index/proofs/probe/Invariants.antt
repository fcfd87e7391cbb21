-- `index::probe` meets its contract. The loop's invariant: what is left to probe answers as the whole. Assumes nothing.
use Rattle.std.proofs.Common.{◌≡◌, ◌<◌, ◌≤◌}
use Rattle.index.specs.Index.{probe_from, probed}
use Rattle.index.proofs.probe.Given as goal

abbrev pub invariant-loop-left : goal.invariant-loop-left
invariant-loop-left l = (l.s < l.n) × (l.left ≤ l.n) × (probed l.index l.nodes l.m l.q ≡ probe_from l.index l.nodes l.m l.q l.left l.s)

abbrev pub decreases-loop-left : goal.decreases-loop-left
decreases-loop-left l = l.left
