-- `index::enter` meets its contract. The loop's invariant: what is left to enter makes of the room at hand what the whole makes of the first one. Assumes
use Rattle.std.proofs.Common.{◌≡◌, ◌-◌, length}
use Rattle.index.specs.Index.{extend_by, extended}
use Rattle.index.proofs.enter.Given as goal

-- nothing.
abbrev pub invariant-loop-k : goal.invariant-loop-k
invariant-loop-k l = (length l.index ≡ length l.initial.index) × (extended l.initial.index l.nodes l.from l.n ≡ extend_by (l.n - l.k) l.index l.nodes l.k)
