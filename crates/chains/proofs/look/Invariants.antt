-- `chains::look` meets its contract. The loop's invariant: the nodes before `k` have good parents, and if `all` is true they reach node 0. Assumes nothing.
use Rattle.std.proofs.Common.{ℕ, ◌<◌, ◌≡◌, true}
use Rattle.chains.specs.Chains.{good_parent}
use Rattle.chains.specs.Marks.{MarksSound, Reaches}
use Rattle.chains.proofs.look.Given as goal

abbrev pub invariant-loop-k : goal.invariant-loop-k
invariant-loop-k l = record {
  sound : MarksSound l.nodes l.done;
  linked : (j : ℕ) → j < l.k → good_parent l.nodes l.n j ≡ true;
  ended : l.all ≡ true → (j : ℕ) → j < l.k → Reaches l.nodes j;
}
