-- `progress::pass_idle` meets its contract. The loop's invariant: the records passed do not wait. Assumes nothing.
use Rattle.std.proofs.Common.{◌≤◌, ◌<◌, ◌-◌}
use Rattle.rooms.specs.Records.{entry_at}
use Rattle.scans.specs.Laws.{Idle}
use Rattle.progress.proofs.pass_idle.Given as goal

abbrev pub invariant-loop-i : goal.invariant-loop-i
invariant-loop-i l = Idle (entry_at l.front) l.from l.i × (l.i ≤ l.border) × (l.border ≤ l.n) × (l.border < 4294967296)

abbrev pub decreases-loop-i : goal.decreases-loop-i
decreases-loop-i l = l.n - l.i
