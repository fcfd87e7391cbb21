-- What `find` over a range of numbers says of a scan.
use Rattle.std.specs.Prelude.{◌≡◌, Bool, true, false, Option, Some, None, MatchOption, unwrap_or, ℕ, ◌+◌, ◌-◌, ◌≤◌, ◌<◌, max}
use Rattle.std.proofs.Common.{sym, ap, ◌∙◌, ⊎_elim, arith}
use Rattle.rooms.proofs.Laws.Lists.{in_or_out}
use Rattle.rooms.specs.Scans.{first_of}
use Rattle.scans.specs.Laws.{first_here, first_end, first_past}

module _ (p : ℕ → Bool) where
  -- of `find`'s answer among the numbers from k on and below n: the number itself, or the end where there is none
  pub record Found (k n i : ℕ) : Type 0 where
    pub from : k ≤ i
    pub within : i ≤ max k n
    pub missed : (j : ℕ) → k ≤ j → j < i → p j ≡ false
    pub taken : i < n → p i ≡ true

  pub found : (k n d : ℕ) (r : Option ℕ) → d ≡ max k n
      → MatchOption r ((j : ℕ) → k ≤ j → j < n → p j ≡ false) (λ i. (k ≤ i) × (i < n) × (p i ≡ true) × ((j : ℕ) → k ≤ j → j < i → p j ≡ false))
      → Found k n (unwrap_or r d)
  found k n d None e m = record { from = omega arith; within = omega arith; missed = λ j a b. m j a (omega arith); taken = λ l. absurd (omega arith) }
  found k n d (Some i) e m = record { from = m.0; within = omega (arith, m.1); missed = m.3; taken = λ l. m.2 }

  -- the scan of the numbers below m goes on behind those that do not pass
  pub missed_on : (k i m : ℕ) → k ≤ i → i ≤ m → ((j : ℕ) → k ≤ j → j < i → p j ≡ false) → first_of p k (m - k) ≡ first_of p i (m - i)
  missed_on k i m h l f =
      let e : k + (i - k) ≡ i = omega arith in
      first_past p (i - k) k m (omega arith) (λ j a b. f j a (omega arith)) ∙ ap (λ (x : ℕ). first_of p x (m - x)) e

  -- so `find` answers as the scan does
  pub found_first : (k i n : ℕ) → Found k n i → i ≡ first_of p k (n - k)
  found_first k i n f =
      ⊎_elim
      (λ l. sym (missed_on k i n f.from (omega arith) f.missed ∙ first_here p i (n - i) (f.taken l) (omega arith)))
      (λ l. ⊎_elim
      (λ h. sym (missed_on k i n f.from (omega (arith, f.within)) f.missed ∙ first_end p i (n - i) (omega arith)))
      (λ h. (let e : i ≡ k = omega (arith, f.from, f.within) in e ∙ sym (first_end p k (n - k) (omega arith))))
      (in_or_out k n))
      (in_or_out i n)
