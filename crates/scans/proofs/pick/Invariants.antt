-- `scans::pick` meets its contract. Assumes nothing.
use Rattle.std.proofs.Common.{◌≤◌, ◌-◌}
use Rattle.scans.specs.Laws.{Holds}
use Rattle.rooms.specs.Scans.{entry_from}
use Rattle.scans.proofs.pick.Given as goal

abbrev pub invariant-loop-i : goal.invariant-loop-i
invariant-loop-i l = (l.i ≤ l.n) × (l.initial.i ≤ l.i) × Holds l.n (entry_from l.initial.i l.front) l.i l.at l.least

abbrev pub decreases-loop-i : goal.decreases-loop-i
decreases-loop-i l = l.n - l.i
