-- What a call tells of an answer, its number and the bytes that it leaves, is told of an equal answer too; and a movement's number is small.
use Rattle.std.specs.Prelude.{ℕ, ◌<◌, ◌≡◌, List}
use Rattle.std.proofs.Common.{ap, ◌∙◌, lit<}
use Rattle.moves.specs.declared.answer.Movement.{Movement}
use Rattle.moves.specs.declared.answer.Movement.TheVariants.{Walk, Step, Jump, Drop}
use Rattle.moves.specs.Moves.{movement_number}

module _ {A : Type 0} {a b : A} {n : ℕ} {new : List ℕ} (number : A → ℕ) (written : A → List ℕ → List ℕ) (old : List ℕ) where
  pub told : a ≡ b → (n ≡ number a) × (new ≡ written a old) → (n ≡ number b) × (new ≡ written b old)
  told e (m, w) = (m ∙ ap number e, w ∙ ap (λ (x : A). written x old) e)

  -- the same, with what else is known of the answer
  pub told_and : {R : Type 0} → (a ≡ b) × R → (n ≡ number a) × (new ≡ written a old) → (n ≡ number b) × ((new ≡ written b old) × R)
  told_and (e, rest) (m, w) = (m ∙ ap number e, (w ∙ ap (λ (x : A). written x old) e, rest))

pub few_movements : (m : Movement) → movement_number m < 4
few_movements Walk = lit< tt
few_movements Step = lit< tt
few_movements Jump = lit< tt
few_movements Drop = lit< tt
