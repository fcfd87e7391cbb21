-- `heights::batches::first_beyond` meets its contract. Assumes nothing.
use Rattle.std.proofs.Common.{◌≡◌, ◌≤◌, ◌-◌, max}
use Rattle.heights.specs.Lowest.{first_from}
use Rattle.heights.proofs.batches.first_beyond.Given as goal

abbrev pub invariant-loop-at : goal.invariant-loop-at
invariant-loop-at l = (l.at ≤ max l.from l.count) × (first_from l.after l.room l.from (l.count - l.from) ≡ first_from l.after l.room l.at (l.count - l.at))
