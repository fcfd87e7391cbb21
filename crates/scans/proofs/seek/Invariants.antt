-- `scans::seek` meets its contract. Assumes nothing.
use Rattle.std.proofs.Common.{◌-◌, ◌≡◌}
use Rattle.rooms.specs.Scans.{first_of, is_at}
use Rattle.scans.proofs.seek.Given as goal

abbrev pub invariant-loop-i : goal.invariant-loop-i
invariant-loop-i l = (first_of (is_at l.nodes l.q) l.from (l.n - l.from) ≡ first_of (is_at l.nodes l.q) l.i (l.n - l.i))

abbrev pub decreases-loop-i : goal.decreases-loop-i
decreases-loop-i l = l.n - l.i
