-- How much a range of numbers gathers at most.
use Prim.Native.Nat.{ℕ, zero, suc, ◌+◌, ◌*◌, ◌≤◌}
use native.Mathlib.Omega.{arith}
use Rattle.std.specs.Prelude.{List, length}
use Rattle.std.proofs.Math.ListN.{length-append}
use Rattle.regions.specs.Ranges.{gather}

module _ {A : Type 0} (f : ℕ → List A) where
  -- where each number takes what it holds out of the room that is left for it and those after it, they all stay within that room
  pub gather_within : (room : ℕ → ℕ) → ((k : ℕ) → length (f k) + room (suc k) ≤ room k) → (k n : ℕ) → length (gather f k n) ≤ room k
  unfolding gather
  gather_within room h k zero = omega arith
  gather_within room h k (suc n) = omega (arith, length-append (f k) (gather f (suc k) n), h k, gather_within room h (suc k) n)

  -- where each holds at most c, n of them hold at most c * n
  pub gather_each : (c : ℕ) → ((k : ℕ) → length (f k) ≤ c) → (k n : ℕ) → length (gather f k n) ≤ c * n
  unfolding gather
  gather_each c h k zero = omega arith
  gather_each c h k (suc n) = omega (arith, length-append (f k) (gather f (suc k) n), h k, gather_each c h (suc k) n)
