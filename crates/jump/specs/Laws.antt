-- What a jump comes to, tick by tick. Assumes nothing.
use Rattle.std.specs.Prelude.{◌≡◌, ℕ, zero, suc, ◌+◌, ◌-◌, ◌<◌, true, false, [], ◌∷◌, Float}
use Rattle.std.proofs.Math.Path.{refl}
use Rattle.std.proofs.Common.{arith}
use Rattle.std.specs.Float.{binary64}
use Rattle.std.specs.Float.Ieee.{of_bits, round}
use Rattle.jump.specs.Jump.{Jump, rises, tick, after, apex_of, drag}

-- 0.98 as the code holds it
pub drag_bits : drag ≡ of_bits binary64 0x3fef_5c28_f5c2_8f5c
unfolding drag round of_bits
drag_bits = refl

module _ (g : Float) (j : Jump) where
  -- a jump at rest stays as it is
  rests : (n : ℕ) → rises g j ≡ false → after n g j ≡ j
  unfolding after
  rests zero h = refl
  rests (suc n) h = rw h

  pub at_rest : (n : ℕ) → rises g j ≡ false → apex_of g (after n g j) ≡ (0, j.height ∷ [])
  unfolding apex_of
  at_rest n h = rw (rests n h, h)

  -- no tick is left, and it isn't at rest
  pub endless : (n : ℕ) → n ≡ 0 → rises g j ≡ true → apex_of g (after n g j) ≡ (6, [])
  unfolding apex_of after
  endless n e h = rw (e, h)

  -- a tick is left
  pub goes : (n m : ℕ) → n ≡ suc m → rises g j ≡ true → after n g j ≡ after m g (tick g j)
  unfolding after
  goes n m e h = rw (e, h)

  pub ticked : (n k : ℕ) → k < n → rises g j ≡ true → after (n - k) g j ≡ after (n - (k + 1)) g (tick g j)
  ticked n k l h = goes (n - k) (n - (k + 1)) (omega arith) h
