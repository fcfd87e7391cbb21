-- What `all` over a range of numbers says of a test of each.
use Rattle.std.specs.Prelude.{◌≡◌, refl, Bool, true, false, MatchBool, ℕ, ◌+◌, ◌-◌, ◌<◌, ◌≤◌, length}
use Rattle.std.proofs.Common.{sym, ap, ◌∙◌, ⊎_elim, arith}
use Rattle.std.specs.List.{range_with_len, AllWithin, HoldsAt}
use Rattle.std.proofs.lemmas.List.FromFn.{length-range_with_len, get_or-range_with_len}
use Rattle.rooms.proofs.Laws.Lists.{in_or_out}
use Rattle.chains.specs.Chains.{each_below}
use Rattle.chains.specs.Laws.{each_all, each_at, each_not}

-- of the numbers from k on and below n, where those below k pass
pub each_from : (p : ℕ → Bool) (k n : ℕ) (r : Bool) → k ≤ n → each_below p k ≡ true
    → MatchBool r (AllWithin (λ j. p j ≡ true) (range_with_len k (n - k)) 0 (length (range_with_len k (n - k))))
    ((i : ℕ) × (i < length (range_with_len k (n - k))) × HoldsAt (λ j. p j ≡ false) (range_with_len k (n - k)) i)
    → r ≡ each_below p n
each_from p k n true l e h = sym (each_all p n (λ j m. ⊎_elim (λ b. each_at p k j b e) (λ b. here j b m) (in_or_out j k)))
  where
    here : (j : ℕ) → k ≤ j → j < n → p j ≡ true
    here j b m =
        let z : j ≡ k + (j - k) = omega arith in
        ap p (z ∙ sym (get_or-range_with_len k (n - k) (j - k) 0 (omega arith))) ∙ h (j - k) 0 (omega arith) (omega (arith, length-range_with_len k (n - k)))
each_from p k n false l e h =
    let i : h.0 < n - k = omega (arith, h.1, length-range_with_len k (n - k)) in
    sym (each_not p n (k + h.0) (omega (arith, i)) (ap p (sym (get_or-range_with_len k (n - k) h.0 0 i)) ∙ h.2 0))

pub each_by : (p : ℕ → Bool) (n : ℕ) (r : Bool)
    → MatchBool r (AllWithin (λ j. p j ≡ true) (range_with_len 0 (n - 0)) 0 (length (range_with_len 0 (n - 0))))
    ((i : ℕ) × (i < length (range_with_len 0 (n - 0))) × HoldsAt (λ j. p j ≡ false) (range_with_len 0 (n - 0)) i)
    → r ≡ each_below p n
each_by p n r h = each_from p 0 n r (omega arith) refl h
