-- `lists::span` meets its contract. Assumes nothing.
use Rattle.std.proofs.Common.{◌≡◌, ◌+◌, ◌-◌, length}
use Rattle.rooms.specs.Lists.{walk}
use Rattle.lists.proofs.span.Given as goal

abbrev pub invariant-loop-m : goal.invariant-loop-m
invariant-loop-m l = length (walk l.n l.nodes l.n l.k) ≡ l.m + length (walk (l.n - l.m) l.nodes l.n l.at)
