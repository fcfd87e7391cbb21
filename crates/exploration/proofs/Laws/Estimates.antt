-- The order by estimate and push is total and transitive where the estimates compare like numbers; so what the scan keeps comes first by it.
use Rattle.std.specs.Prelude.{◌≡◌, refl, Bool, true, not, ◌&&◌, ◌||◌, List, ◌⊎◌, ◌≢◌, ℕ, ◌≤◌, ◌<◌, eqb}
use Rattle.std.proofs.Common.{sym, ap, ◌∙◌, ⊎_elim, arith}
use Rattle.std.proofs.Math.Bool.{false}
use Rattle.std.proofs.Math.Option.{some}
use Rattle.std.proofs.Math.Logic.{inl, inr}
use Rattle.std.proofs.Math.Dec.{ltb}
use borrow.Author.Tests.{ltb-true, ltb-false, lt-ltb, le-ltb, eqb-true, eqb-false}
use Rattle.exploration.specs.Choose.{choose, WaitsAt, Least, Ordered}
use Rattle.exploration.specs.Estimates.{at_most, Comparison, sooner, Before, First}
use Rattle.exploration.proofs.Laws.Choices.{chosen_least, least_chosen}
use Rattle.exploration.proofs.Laws.Lists.{true_false, true_or_false, nth_one, and_second, or_left, or_right}

module _ {E : Type 0} (below level : E → E → Bool) (Number : E → Type 0) (laws : Comparison below level Number) where
  -- two numbers: one is lower, or they are level
  pub data Compared (a b : E) : Type 0 where
    lower : below a b ≡ true → below b a ≡ false → level b a ≡ false → Compared a b
    same : below a b ≡ false → below b a ≡ false → level a b ≡ true → level b a ≡ true → Compared a b
    higher : below b a ≡ true → below a b ≡ false → level a b ≡ false → Compared a b

  pub compared : (a b : E) → Number a → Number b → Compared a b
  compared a b m n = go (at_most below level a b) (at_most below level b a) refl refl
    where
      go : (x y : Bool) → at_most below level a b ≡ x → at_most below level b a ≡ y → Compared a b
      go true true p q = same (laws.below_is a b m n ∙ ap not q) (laws.below_is b a n m ∙ ap not p) (laws.level_is a b m n ∙ rw (p, q)) (laws.level_is b a n m ∙ rw (q, p))
      go true false p q = lower (laws.below_is a b m n ∙ ap not q) (laws.below_is b a n m ∙ ap not p) (laws.level_is b a n m ∙ rw q)
      go false true p q = higher (laws.below_is b a n m ∙ ap not p) (laws.below_is a b m n ∙ ap not q) (laws.level_is a b m n ∙ rw p)
      go false false p q = absurd (⊎_elim (λ h. true_false h p) (λ h. true_false h q) (laws.total a b m n))

  module _ (a b c : E) (m : Number a) (n : Number b) (o : Number c) where
    -- lower than one that is at most another: lower than that
    below_at_most : below a b ≡ true → at_most below level b c ≡ true → below a c ≡ true
    below_at_most p q = laws.below_is a c m o ∙ go (true_or_false (at_most below level c a))
      where
        go : (at_most below level c a ≡ true) ⊎ (at_most below level c a ≡ false) → not (at_most below level c a) ≡ true
        go (inl h) = absurd (true_false (sym (ap not (laws.transitive b c a n o m q h)) ∙ sym (laws.below_is a b m n) ∙ p) refl)
        go (inr h) = ap not h

    at_most_below : at_most below level a b ≡ true → below b c ≡ true → below a c ≡ true
    at_most_below p q = laws.below_is a c m o ∙ go (true_or_false (at_most below level c a))
      where
        go : (at_most below level c a ≡ true) ⊎ (at_most below level c a ≡ false) → not (at_most below level c a) ≡ true
        go (inl h) = absurd (true_false (sym (ap not (laws.transitive c a b o m n h p)) ∙ sym (laws.below_is b c n o) ∙ q) refl)
        go (inr h) = ap not h

    level_level : level a b ≡ true → level b c ≡ true → level a c ≡ true
    level_level p q = laws.level_is a c m o ∙ rw (laws.transitive a b c m n o (or_right (below a b) _ p) (or_right (below b c) _ q), laws.transitive c b a o n m (back b c n o q) (back a b m n p))
      where
        back : (x y : E) → Number x → Number y → level x y ≡ true → at_most below level y x ≡ true
        back x y i j e = and_second (at_most below level x y) _ (sym (laws.level_is x y i j) ∙ e)

  module _ {A : Type 0} (estimate : A → E) (order : A → ℕ) where
    abbrev soon : A → A → Bool
    soon a b = sooner below level estimate order a b

    -- not later: a lower estimate, or a level one and a push that is not later
    abbrev NotLater : A → A → Type 0
    NotLater a b = (below (estimate a) (estimate b) ≡ true) ⊎ ((level (estimate a) (estimate b) ≡ true) × (order a ≤ order b))

    module _ (a b : A) (m : Number (estimate a)) (n : Number (estimate b)) where
      not_later : soon b a ≡ false → NotLater a b
      unfolding sooner
      not_later e = go (compared (estimate a) (estimate b) m n)
        where
          go : Compared (estimate a) (estimate b) → NotLater a b
          go (lower p q r) = inl p
          go (same p q r s) = inr (r, ltb-false (order b) (order a) (rw (q, s) at e))
          go (higher p q r) = absurd (true_false (or_left _ _ p) e)

      not_sooner : NotLater a b → soon b a ≡ false
      unfolding sooner
      not_sooner h = go (compared (estimate a) (estimate b) m n) h
        where
          go : Compared (estimate a) (estimate b) → NotLater a b → (below (estimate b) (estimate a) || (level (estimate b) (estimate a) && ltb (order b) (order a))) ≡ false
          go (lower p q r) h = rw (q, r)
          go (same p q r s) (inl h) = absurd (true_false h p)
          go (same p q r s) (inr h) = rw (q, s) (le-ltb (order b) (order a) h.1)
          go (higher p q r) (inl h) = absurd (true_false h q)
          go (higher p q r) (inr h) = absurd (true_false h.0 r)

      -- of two, one is not later than the other
      either : NotLater a b ⊎ NotLater b a
      either = go (compared (estimate a) (estimate b) m n) (true_or_false (ltb (order b) (order a)))
        where
          go : Compared (estimate a) (estimate b) → (ltb (order b) (order a) ≡ true) ⊎ (ltb (order b) (order a) ≡ false) → NotLater a b ⊎ NotLater b a
          go (lower p q r) t = inl (inl p)
          go (same p q r s) (inl t) = inr (inr (s, omega (arith, ltb-true (order b) (order a) t)))
          go (same p q r s) (inr t) = inl (inr (r, ltb-false (order b) (order a) t))
          go (higher p q r) t = inr (inl p)

    not_later_trans : (a b c : A) → Number (estimate a) → Number (estimate b) → Number (estimate c) → NotLater a b → NotLater b c → NotLater a c
    not_later_trans a b c m n o (inl p) (inl q) = inl (below_at_most (estimate a) (estimate b) (estimate c) m n o p (or_left _ _ q))
    not_later_trans a b c m n o (inl p) (inr q) = inl (below_at_most (estimate a) (estimate b) (estimate c) m n o p (or_right (below (estimate b) (estimate c)) _ q.0))
    not_later_trans a b c m n o (inr p) (inl q) = inl (at_most_below (estimate a) (estimate b) (estimate c) m n o (or_right (below (estimate a) (estimate b)) _ p.0) q)
    not_later_trans a b c m n o (inr p) (inr q) = inr (level_level (estimate a) (estimate b) (estimate c) m n o p.0 q.0, omega (arith, p.1, q.1))

    module _ (waits : A → Bool) (xs : List A) (numbers : (k : ℕ) (x : A) → WaitsAt waits soon xs k x → Number (estimate x)) where
      pub sooner_ordered : Ordered waits soon xs
      sooner_ordered = record {
        total = λ i j x y v w. ⊎_elim (λ h. inl (not_sooner x y (numbers i x v) (numbers j y w) h)) (λ h. inr (not_sooner y x (numbers j y w) (numbers i x v) h)) (either x y (numbers i x v) (numbers j y w));
        transitive = λ i j k x y z u v w p q. not_sooner x z (numbers i x u) (numbers k z w) (not_later_trans x y z (numbers i x u) (numbers j y v) (numbers k z w) (not_later x y (numbers i x u) (numbers j y v) p) (not_later y z (numbers j y v) (numbers k z w) q));
      }

      least_first : (r : ℕ × A) → Least waits soon xs r → First below level estimate order waits xs r
      unfolding sooner
      least_first r l = (l.waiting, λ k x w d. go k x w d (compared (estimate r.1) (estimate x) (numbers r.0 r.1 l.waiting) (numbers k x w)) (true_or_false (ltb (order r.1) (order x))))
        where
          go : (k : ℕ) (x : A) → WaitsAt waits soon xs k x → k ≢ r.0 → Compared (estimate r.1) (estimate x) → (ltb (order r.1) (order x) ≡ true) ⊎ (ltb (order r.1) (order x) ≡ false) → Before below level estimate order r.0 r.1 k x
          go k x w d (lower p q s) t = inl p
          go k x w d (same p q s u) (inl t) = inr (s, inl (ltb-true _ _ t))
          go k x w d (same p q s u) (inr t) = inr (s, inr (omega (arith, ltb-false (order r.1) (order x) t, tie), behind (true_or_false (ltb k r.0))))
            where
              tie : order r.1 ≤ order x
              tie = ltb-false (order x) (order r.1) (rw (q, u) at (l.unbeaten k x w))

              behind : (ltb k r.0 ≡ true) ⊎ (ltb k r.0 ≡ false) → r.0 < k
              behind (inl h) = let z : (below (estimate r.1) (estimate x) || (level (estimate r.1) (estimate x) && ltb (order r.1) (order x))) ≡ true = l.foremost k x w (ltb-true _ _ h) in absurd (true_false z (rw (p, s) t))
              behind (inr h) = let z = ltb-false k r.0 h in ⊎_elim (λ i. i) (λ i. absurd (d (sym i))) (apart r.0 k z)
                where
                  apart : (i j : ℕ) → i ≤ j → (i < j) ⊎ (i ≡ j)
                  apart i j h = ⊎_elim (λ e. inl (ltb-true i j e)) (λ e. inr (omega (arith, ltb-false i j e))) (true_or_false (ltb i j))
          go k x w d (higher p q s) t = absurd (true_false (or_left _ _ p) (l.unbeaten k x w))

      first_least : (r : ℕ × A) → First below level estimate order waits xs r → Least waits soon xs r
      unfolding sooner
      first_least r f = record { waiting = f.0; unbeaten = λ k x w. unbeaten k x w (true_or_false (eqb k r.0)); foremost = λ k x w h. foremost k x h (f.1 k x w (λ e. omega arith)) }
        where
          n : Number (estimate r.1)
          n = numbers r.0 r.1 f.0

          before_later : (k : ℕ) (x : A) → Before below level estimate order r.0 r.1 k x → NotLater r.1 x
          before_later k x (inl h) = inl h
          before_later k x (inr (h, inl i)) = inr (h, omega (arith, i))
          before_later k x (inr (h, inr i)) = inr (h, omega (arith, i.0))

          unbeaten : (k : ℕ) (x : A) → WaitsAt waits soon xs k x → (eqb k r.0 ≡ true) ⊎ (eqb k r.0 ≡ false) → soon x r.1 ≡ false
          unbeaten k x w (inl e) = let z : x ≡ r.1 = nth_one xs k x r.1 w.0 (rw (eqb-true k r.0 e) f.0.0) in rw z (⊎_elim (not_sooner r.1 r.1 n n) (not_sooner r.1 r.1 n n) (either r.1 r.1 n n))
          unbeaten k x w (inr e) = not_sooner r.1 x n (numbers k x w) (before_later k x (f.1 k x w (eqb-false k r.0 e)))

          foremost : (k : ℕ) (x : A) → k < r.0 → Before below level estimate order r.0 r.1 k x → soon r.1 x ≡ true
          foremost k x h (inl p) = or_left _ _ p
          foremost k x h (inr (p, inl q)) = or_right (below (estimate r.1) (estimate x)) _ (rw p (lt-ltb _ _ q))
          foremost k x h (inr (p, inr q)) = absurd (omega (arith, q.1))

      pub chosen_first : (r : ℕ × A) → choose waits soon xs ≡ some r → First below level estimate order waits xs r
      chosen_first r e = least_first r (chosen_least waits soon xs sooner_ordered r e)

      pub first_chosen : (r : ℕ × A) → First below level estimate order waits xs r → choose waits soon xs ≡ some r
      first_chosen r f = least_chosen waits soon xs sooner_ordered r (first_least r f)
