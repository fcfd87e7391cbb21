-- `index::extend` meets its contract. The loop's invariant: what is left to enter makes of the room at hand what it makes of the one that `enter` left. Assumes
use Rattle.std.proofs.Common.{◌≡◌, ◌-◌, length}
use Rattle.index.specs.Index.{extend_by}
use Rattle.index.proofs.extend.Given as goal

-- nothing.
abbrev pub invariant-loop-k : goal.invariant-loop-k
invariant-loop-k l = (length l.index ≡ length l.initial.index) × (extend_by (l.n - l.initial.k) l.initial.index l.nodes l.initial.k ≡ extend_by (l.n - l.k) l.index l.nodes l.k)
