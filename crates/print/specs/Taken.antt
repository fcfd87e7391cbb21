-- A list's front, of so many elements.
use Rattle.std.specs.Prelude.{◌≡◌, ℕ, ◌<◌, ◌^◌, ◌-◌, Bool, true, false, List, length, take, min, leb, refl}
use Rattle.std.proofs.Common.{ap, ◌∙◌, sym, arith, take_all, leb-true, leb-false}

-- more elements than a slice can have are all of them, and so are as many as a number of 64 bits can say
pub take_at_most : (s : List ℕ) (n k : ℕ) → length s < 2 ^ 64 → k ≡ min n (2 ^ 64 - 1) → take k s ≡ take n s
take_at_most s n k h e = go (leb n (2 ^ 64 - 1)) refl
  where
    go : (t : Bool) → leb n (2 ^ 64 - 1) ≡ t → take k s ≡ take n s
    go true p = ap (λ (i : ℕ). take i s) (omega (arith, leb-true n (2 ^ 64 - 1) p))
    go false p = take_all k s (omega (arith, leb-false n (2 ^ 64 - 1) p)) ∙ sym (take_all n s (omega (arith, leb-false n (2 ^ 64 - 1) p)))
