-- Points that are pairwise not the same, and how many of them a list that covers them must have.
use Rattle.std.specs.Prelude.{◌≡◌, refl, Bool, true, false, ◌||◌, List, [], ◌∷◌, ◌++◌, ◌⊎◌, suc, ◌≤◌, length}
use Rattle.std.proofs.Common.{ap, inl, inr, arith}
use Rattle.exploration.specs.Lists.{has}
use Rattle.exploration.proofs.Laws.Lists.{or-false, true_false, or_left, or_right, or_cases}

has_snoc_false : {A : Type 0} (p : A → Bool) (xs : List A) (x : A) → has p xs ≡ false → p x ≡ false → has p (xs ++ (x ∷ [])) ≡ false
has_snoc_false p [] x e h = rw h refl
has_snoc_false p (y ∷ xs) x e h = let r = or-false (p y) (has p xs) e in rw r.0 (has_snoc_false p xs x r.1 h)

module _ {P : Type 0} (same : P → P → Bool) where
  abbrev pub Apart : List P → Type 0
  Apart [] = Unit {0}
  Apart (p ∷ ps) = (has (λ q. same p q) ps ≡ false) × Apart ps

  pub apart_snoc : (ps : List P) (q : P) → Apart ps → has (λ p. same p q) ps ≡ false → Apart (ps ++ (q ∷ []))
  apart_snoc [] q a h = (refl, tt)
  apart_snoc (p ∷ ps) q a h = let r = or-false (same p q) _ h in (has_snoc_false _ ps q a.0 r.0, apart_snoc ps q a.1 r.1)

  abbrev pub Covered : List P → List P → Type 0
  Covered L [] = Unit {0}
  Covered L (p ∷ ps) = (has (λ x. same x p) L ≡ true) × Covered L ps

  -- the list without its first element at p
  abbrev drop_if : Bool → P → List P → List P → List P
  drop_if true x L r = L
  drop_if false x L r = x ∷ r

  abbrev without : P → List P → List P
  without p [] = []
  without p (x ∷ L) = drop_if (same x p) x L (without p L)

  without_length : (p : P) (L : List P) → has (λ x. same x p) L ≡ true → length L ≡ suc (length (without p L))
  without_length p [] h = absurd (true_false h refl)
  without_length p (x ∷ L) h = go (same x p) h (without_length p L)
    where
      go : (b : Bool) → (b || has (λ x. same x p) L) ≡ true → (has (λ x. same x p) L ≡ true → length L ≡ suc (length (without p L))) → suc (length L) ≡ suc (length (drop_if b x L (without p L)))
      go true h f = refl
      go false h f = ap suc (f h)

  module _ (same_sym : (p q : P) → same p q ≡ true → same q p ≡ true) (same_trans : (p q r : P) → same p q ≡ true → same q r ≡ true → same p r ≡ true) where
    still_has : (p q : P) (L : List P) → same p q ≡ false → has (λ x. same x q) L ≡ true → has (λ x. same x q) (without p L) ≡ true
    still_has p q [] e h = h
    still_has p q (x ∷ L) e h = go (same x p) refl (or_cases (same x q) _ h) (still_has p q L e)
      where
        go : (b : Bool) → same x p ≡ b → (same x q ≡ true) ⊎ (has (λ x. same x q) L ≡ true) → (has (λ x. same x q) L ≡ true → has (λ x. same x q) (without p L) ≡ true)
            → has (λ x. same x q) (drop_if b x L (without p L)) ≡ true
        go true c (inl u) f = absurd (true_false (same_trans p x q (same_sym x p c) u) e)
        go true c (inr u) f = u
        go false c (inl u) f = or_left _ _ u
        go false c (inr u) f = or_right (same x q) _ (f u)

    still_covered : (p : P) (L ps : List P) → has (λ q. same p q) ps ≡ false → Covered L ps → Covered (without p L) ps
    still_covered p L [] e c = tt
    still_covered p L (q ∷ ps) e c = let r = or-false (same p q) _ e in (still_has p q L r.0 c.0, still_covered p L ps r.1 c.1)

    pub pigeon : (ps L : List P) → Apart ps → Covered L ps → length ps ≤ length L
    pigeon [] L a c = omega arith
    pigeon (p ∷ ps) L a c = omega (arith, without_length p L c.0, pigeon ps (without p L) a.1 (still_covered p L ps a.0 c.1))
