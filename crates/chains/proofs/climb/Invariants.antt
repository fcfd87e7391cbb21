-- `chains::climb` meets its contract. The loop's invariant: `at` is m parents back, and no node before it is node 0. Assumes nothing.
use Rattle.std.proofs.Common.{ℕ, ◌<◌, ◌≡◌, ◌≢◌}
use Rattle.chains.specs.Chains.{parents_back}
use Rattle.chains.proofs.climb.Given as goal

abbrev pub invariant-loop-m : goal.invariant-loop-m
invariant-loop-m l = (l.at ≡ parents_back l.nodes l.m l.k) × ((i : ℕ) → i < l.m → parents_back l.nodes i l.k ≢ 0)
