-- What the first that passes a test is.
use Rattle.std.specs.Prelude.{◌≡◌, refl, Bool, true, false, ℕ, zero, suc, ◌+◌, ◌≤◌, ◌<◌}
use Rattle.std.proofs.Common.{⊎_elim, arith}
use Rattle.std.proofs.Math.Nat.{eq-or-lt_of_le}
use Rattle.rooms.specs.Scans.{first_of}

module _ (p : ℕ → Bool) where
  pub record First (k n r : ℕ) : Type 0 where
    pub within : r ≤ k + n
    pub missed : (j : ℕ) → k ≤ j → j < r → p j ≡ false
    pub passes : r < k + n → p r ≡ true

  pub first_is : (k n : ℕ) → First k n (first_of p k n)
  first_is k zero = record { within = omega arith; missed = λ j l h. absurd (omega arith); passes = λ h. absurd (omega arith) }
  first_is k (suc n) = go (p k) refl (first_is (suc k) n)
    where
      go : (b : Bool) → p k ≡ b → First (suc k) n (first_of p (suc k) n) → First k (suc n) (first_of p k (suc n))
      go true e f = rw e (record { within = omega arith; missed = λ j l h. absurd (omega arith); passes = λ h. e })
      go false e f = rw e (record { within = omega (arith, f.within); missed = λ j l h. ⊎_elim (λ i. rw (← i) e) (λ i. f.missed j i h) (eq-or-lt_of_le l); passes = λ h. f.passes (omega arith) })
