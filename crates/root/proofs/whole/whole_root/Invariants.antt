-- `root::whole::whole_root` meets its contract: each turn takes two digits of the number and finds one of the root (`Turns`). Assumes nothing.
use Rattle.root.proofs.Turns.{AfterTurns}
use Rattle.root.proofs.whole.whole_root.Given as goal

abbrev pub invariant-loop : goal.invariant-loop
invariant-loop l = AfterTurns l.m l.counter l.number l.rest l.root
