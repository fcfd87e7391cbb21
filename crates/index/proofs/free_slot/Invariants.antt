-- `index::free_slot` meets its contract. The loop's invariant: what is left to look at answers as the whole. Assumes nothing.
use Rattle.std.proofs.Common.{◌≡◌, ◌<◌, ◌-◌}
use Rattle.index.specs.Index.{free_from, free_for}
use Rattle.index.proofs.free_slot.Given as goal

abbrev pub invariant-loop-turn : goal.invariant-loop-turn
invariant-loop-turn l = (l.s < l.n) × (free_for l.index l.fn.q ≡ free_from l.index (l.n - l.turn) l.s)
