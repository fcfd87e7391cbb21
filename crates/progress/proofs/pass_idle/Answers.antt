-- `progress::pass_idle` meets its contract. The loop's invariant: the records passed do not wait. Assumes nothing.
use Rattle.std.proofs.Common.{arith}
use Rattle.scans.specs.Laws.{idle_none}
use Rattle.progress.specs.Laws.{idle_join}
use Rattle.progress.proofs.pass_idle.Goals as goal

pub returns-then-border-from : goal.returns-then-border-from
returns-then-border-from c = (idle_none _ _, c.requires)

pub loop-i-init : goal.loop-i-init
loop-i-init c = (idle_none _ _, omega arith, omega arith, omega arith)

pub loop-i-preserved : goal.loop-i-preserved
loop-i-preserved c = (idle_join _ _ _ _ c.loop-i.invariant.0 (c.four_idle.ensures c.if-four_idle.true), omega arith, omega arith, omega arith)

pub returns-else-four_idle : goal.returns-else-four_idle
returns-else-four_idle c = (c.loop-i.invariant.0, omega arith)

pub returns-after-loop-i : goal.returns-after-loop-i
returns-after-loop-i c = (c.loop-i.invariant.0, omega arith)

pub returns-else-border-front : goal.returns-else-border-front
returns-else-border-front c = (idle_none _ _, omega arith)
