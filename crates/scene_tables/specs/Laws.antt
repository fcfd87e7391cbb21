-- What the loops go by: one turn after the other.
use Prim.Native.Nat.{ℕ, suc, ◌+◌, ◌-◌, ◌≤◌, ◌<◌}
use native.Mathlib.Omega.{arith}
use Rattle.std.proofs.Common.{add-one}
use Rattle.std.specs.Prelude.{◌≡◌, List}
use Rattle.scene_tables.specs.Made.{in_turn}

module _ (f : ℕ → List ℕ → List ℕ) (k end : ℕ) (t : List ℕ) where
  pub turn_done : end ≤ k → in_turn f k (end - k) t ≡ t
  unfolding in_turn
  turn_done h = let e : end - k ≡ 0 = omega arith in rw e

  pub turn_more : k < end → in_turn f k (end - k) t ≡ in_turn f (k + 1) (end - (k + 1)) (f k t)
  unfolding in_turn
  turn_more h = let e : end - k ≡ suc (end - (k + 1)) = omega arith in rw (e, add-one)
