-- Lists by place and by test, as the definitions of this crate and the claims of others speak of them.
use Rattle.std.specs.Prelude.{Bool, true, false, ◌||◌, List, [], ◌∷◌, ℕ, zero, suc, ◌+◌}
-- the element at a place, counted from 0
pub use Rattle.std.proofs.Math.ListN.{get_elem? as nth}

-- the sum of lots (for No. 10 of 02)
abbrev pub total : List ℕ → ℕ
total [] = zero
total (n ∷ ns) = n + total ns

abbrev pub tally : Bool → ℕ → ℕ
tally true n = suc n
tally false n = n

-- the place of the first test that fails, counted from 0; where none does, how many they are
abbrev pub first_failing : List Bool → ℕ
first_failing [] = zero
first_failing (true ∷ fails) = zero
first_failing (false ∷ fails) = suc (first_failing fails)

module _ {A : Type 0} where
  -- whether some element passes a test
  abbrev pub has : (A → Bool) → List A → Bool
  has p [] = false
  has p (x ∷ xs) = p x || has p xs

  -- how many elements pass a test
  abbrev pub count : (A → Bool) → List A → ℕ
  count p [] = zero
  count p (x ∷ xs) = tally (p x) (count p xs)
