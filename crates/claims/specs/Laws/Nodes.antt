-- A fact of every node: it holds of none, of one more, and of a list with a node in another one's place.
use Rattle.std.specs.Prelude.{ℕ, ◌≡◌, List, [], ◌∷◌, ◌++◌, set}
use Rattle.std.proofs.Math.Option.{some}
use Rattle.std.proofs.Common.{⊎_elim}
use Rattle.exploration.specs.Lists.{nth}
use Rattle.exploration.proofs.Laws.Lists.{none_some, nth_snoc, nth_set}

module _ {A : Type 0} (Q : A → Type 0) where
  abbrev pub AllOf : List A → Type 0
  AllOf ns = (k : ℕ) (x : A) → nth ns k ≡ some x → Q x

  pub none_there : AllOf []
  none_there k x e = absurd (none_some e)

  pub one_more : (ns : List A) (n : A) → AllOf ns → Q n → AllOf (ns ++ (n ∷ []))
  one_more ns n i q k x e = ⊎_elim (λ p. i k x p) (λ p. rw p.1 q) (nth_snoc ns n k x e)

  pub in_place : (ns : List A) (j : ℕ) (n : A) → AllOf ns → Q n → AllOf (set ns j n)
  in_place ns j n i q k x e = ⊎_elim (λ p. rw p.1 q) (λ p. i k x p.1) (nth_set ns j n k x e)
