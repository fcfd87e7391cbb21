-- `lists::back` meets its contract. Assumes nothing.
use Rattle.lists.specs.Laws.{Backed}
use Rattle.lists.proofs.back.Given as goal

abbrev pub invariant-loop-j : goal.invariant-loop-j
invariant-loop-j l = Backed l.nodes l.n l.k l.m l.initial.out l.j l.at l.out
