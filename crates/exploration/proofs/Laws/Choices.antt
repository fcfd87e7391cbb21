-- What a scan of waiting elements keeps: an element that waits, none only where none waits, and under a total and transitive order the least.
use Rattle.std.specs.Prelude.{◌≡◌, refl, Bool, true, false, List, [], ◌∷◌, ◌⊎◌, ℕ, zero, suc, ◌+◌, ◌<◌, ltb, length}
use Rattle.std.proofs.Common.{sym, ap, subst, ◌∙◌, inl, inr, ⊎_elim, add-zero, add-suc, suc-add, zero-add, arith, ltb-true, ltb-false}
use Rattle.std.proofs.Math.Option.{Option, none, some}
use Rattle.exploration.specs.Lists.{nth}
use Rattle.exploration.specs.Choose.{swap, keep, scan, choose, WaitsAt, Least, Ordered}
use Rattle.exploration.proofs.Laws.Lists.{none_some, true_false, true_or_false, nth_lt, nth_one}

module _ {A : Type 0} (waits : A → Bool) (beats : A → A → Bool) where
  -- what is kept is an element that waits
  abbrev Held : List A → Option (ℕ × A) → Type 0
  Held zs none = Unit {0}
  Held zs (some r) = WaitsAt waits beats zs r.0 r.1

  held_keep : (zs : List A) (b : Bool) (i : ℕ) (x : A) (o : Option (ℕ × A)) → waits x ≡ b → nth zs i ≡ some x → Held zs o → Held zs (keep waits beats b i x o)
  held_keep zs false i x o w e h = h
  held_keep zs true i x none w e h = (e, w)
  held_keep zs true i x (some r) w e h = go (beats x r.1)
    where
      go : (b : Bool) → Held zs (swap waits beats b i x r)
      go true = (e, w)
      go false = h

  -- the rest of a list is its elements from place i on
  abbrev From : List A → ℕ → List A → Type 0
  From zs i xs = (k : ℕ) (x : A) → nth xs k ≡ some x → nth zs (i + k) ≡ some x

  from_next : (zs : List A) (i : ℕ) (x : A) (xs : List A) → From zs i (x ∷ xs) → From zs (suc i) xs
  from_next zs i x xs f k y e = rw suc-add (rw add-suc at (f (suc k) y e))

  from_here : (zs : List A) (i : ℕ) (x : A) (xs : List A) → From zs i (x ∷ xs) → nth zs i ≡ some x
  from_here zs i x xs f = rw add-zero at (f 0 x refl)

  from_start : (zs : List A) → From zs 0 zs
  from_start zs k x e = rw zero-add e

  held_scan : (zs : List A) (i : ℕ) (o : Option (ℕ × A)) (xs : List A) → From zs i xs → Held zs o → Held zs (scan waits beats i o xs)
  held_scan zs i o [] f h = h
  held_scan zs i o (x ∷ xs) f h = held_scan zs (suc i) _ xs (from_next zs i x xs f) (held_keep zs (waits x) i x o refl (from_here zs i x xs f) h)

  pub choose_some : (xs : List A) (r : ℕ × A) → choose waits beats xs ≡ some r → (nth xs r.0 ≡ some r.1) × (waits r.1 ≡ true)
  choose_some xs r e = subst (Held xs) e (held_scan xs 0 none xs (from_start xs) tt)

  -- and where nothing is kept nothing waits
  some_swap : (b : Bool) (i : ℕ) (x : A) (r : ℕ × A) → swap waits beats b i x r ≡ none → ⊥
  some_swap true i x r e = none_some (sym e)
  some_swap false i x r e = none_some (sym e)

  none_keep : (b : Bool) (i : ℕ) (x : A) (o : Option (ℕ × A)) → keep waits beats b i x o ≡ none → (b ≡ false) × (o ≡ none)
  none_keep false i x o e = (refl, e)
  none_keep true i x none e = absurd (none_some (sym e))
  none_keep true i x (some r) e = absurd (some_swap (beats x r.1) i x r e)

  none_scan : (i : ℕ) (o : Option (ℕ × A)) (xs : List A) → scan waits beats i o xs ≡ none → (o ≡ none) × ((k : ℕ) (x : A) → nth xs k ≡ some x → waits x ≡ false)
  none_scan i o [] e = (e, λ k x h. absurd (none_some h))
  none_scan i o (x ∷ xs) e = let z = none_scan (suc i) (keep waits beats (waits x) i x o) xs e in let y = none_keep (waits x) i x o z.0 in (y.1, at y.0 z.1)
    where
      at : waits x ≡ false → ((k : ℕ) (y : A) → nth xs k ≡ some y → waits y ≡ false) → (k : ℕ) (y : A) → nth (x ∷ xs) k ≡ some y → waits y ≡ false
      at w f zero y h = cc
      at w f (suc k) y h = f k y h

  pub choose_none : (xs : List A) → choose waits beats xs ≡ none → (k : ℕ) (x : A) → nth xs k ≡ some x → waits x ≡ false
  choose_none xs e = (none_scan 0 none xs e).1

  -- two least elements are one: the one at the higher place would beat the other
  one_least : (xs : List A) (r q : ℕ × A) → Least waits beats xs r → Least waits beats xs q → r.0 < q.0 → ⊥
  one_least xs r q l m h = true_false (m.foremost r.0 r.1 l.waiting h) (l.unbeaten q.0 q.1 m.waiting)

  same_least : (xs : List A) (r q : ℕ × A) → Least waits beats xs r → Least waits beats xs q → r ≡ q
  same_least xs r q l m = go (ltb r.0 q.0) (ltb q.0 r.0) refl refl
    where
      go : (b c : Bool) → ltb r.0 q.0 ≡ b → ltb q.0 r.0 ≡ c → r ≡ q
      go true c e f = absurd (one_least xs r q l m (ltb-true _ _ e))
      go false true e f = absurd (one_least xs q r m l (ltb-true _ _ f))
      go false false e f = let i : r.0 ≡ q.0 = omega (arith, ltb-false r.0 q.0 e, ltb-false q.0 r.0 f) in
          let x : r.1 ≡ q.1 = nth_one xs r.0 r.1 q.1 l.waiting.0 (rw i m.waiting.0) in λ j. (i j, x j)

  module _ (xs : List A) (ordered : Ordered waits beats xs) where
    abbrev At : ℕ → A → Type 0
    At k x = WaitsAt waits beats xs k x

    -- the least of the first i elements, or none of them waits
    abbrev Best : ℕ → Option (ℕ × A) → Type 0
    Best i none = (k : ℕ) (x : A) → At k x → k < i → ⊥
    Best i (some r) = (r.0 < i) × At r.0 r.1 × ((k : ℕ) (x : A) → At k x → k < i → (beats x r.1 ≡ false) × (k < r.0 → beats r.1 x ≡ true))

    -- an element does not beat itself, and of two one does not beat the other
    not_itself : (k : ℕ) (x : A) → At k x → beats x x ≡ false
    not_itself k x w = ⊎_elim (λ e. e) (λ e. e) (ordered.total k k x x w w)

    not_both : (i j : ℕ) (x y : A) → At i x → At j y → beats x y ≡ true → beats y x ≡ false
    not_both i j x y v w e = ⊎_elim (λ f. f) (λ f. absurd (true_false e f)) (ordered.total i j x y v w)

    -- below suc i: below i, or at i
    split : (k i : ℕ) → k < suc i → (k < i) ⊎ (k ≡ i)
    split k i h = go (ltb k i) refl
      where
        go : (b : Bool) → ltb k i ≡ b → (k < i) ⊎ (k ≡ i)
        go true e = inl (ltb-true _ _ e)
        go false e = inr (omega (arith, ltb-false k i e))

    here_is : (i k : ℕ) (x y : A) → nth xs i ≡ some x → At k y → k ≡ i → y ≡ x
    here_is i k x y e w q = nth_one xs k y x w.0 (rw q e)

    best_swap : (i : ℕ) (x : A) (r : ℕ × A) (b : Bool) → beats x r.1 ≡ b → At i x → Best i (some r) → Best (suc i) (swap waits beats b i x r)
    best_swap i x r true e w s = (omega arith, w, λ k y v h. ⊎_elim (below_i k y v) (at_i k y v) (split k i h))
      where
        below_i : (k : ℕ) (y : A) → At k y → k < i → (beats y x ≡ false) × (k < i → beats x y ≡ true)
        below_i k y v h = (ordered.transitive i r.0 k x r.1 y w s.1 v (not_both i r.0 x r.1 w s.1 e) (s.2 k y v h).0, λ z. ahead (true_or_false (beats x y)))
          where
            ahead : (beats x y ≡ true) ⊎ (beats x y ≡ false) → beats x y ≡ true
            ahead (inl f) = f
            ahead (inr f) = absurd (true_false e (ordered.transitive r.0 k i r.1 y x s.1 v w (s.2 k y v h).0 f))

        at_i : (k : ℕ) (y : A) → At k y → k ≡ i → (beats y x ≡ false) × (k < i → beats x y ≡ true)
        at_i k y v q = (rw (here_is i k x y w.0 v q) (not_itself i x w), λ z. absurd (omega arith))
    best_swap i x r false e w s = (omega (arith, s.0), s.1, λ k y v h. ⊎_elim (λ z. s.2 k y v z) (at_i k y v) (split k i h))
      where
        at_i : (k : ℕ) (y : A) → At k y → k ≡ i → (beats y r.1 ≡ false) × (k < r.0 → beats r.1 y ≡ true)
        at_i k y v q = (rw (here_is i k x y w.0 v q) e, λ z. absurd (omega (arith, s.0)))

    best_keep : (i : ℕ) (x : A) (b : Bool) (o : Option (ℕ × A)) → nth xs i ≡ some x → waits x ≡ b → Best i o → Best (suc i) (keep waits beats b i x o)
    best_keep i x false none e w s = λ k y v h. ⊎_elim (s k y v) (λ q. let z : y ≡ x = here_is i k x y e v q in true_false v.1 (rw z w)) (split k i h)
    best_keep i x false (some r) e w s = (omega (arith, s.0), s.1, λ k y v h. ⊎_elim (s.2 k y v) (λ q. let z : y ≡ x = here_is i k x y e v q in absurd (true_false v.1 (rw z w))) (split k i h))
    best_keep i x true none e w s = (omega arith, (e, w), λ k y v h. ⊎_elim (λ z. absurd (s k y v z)) (λ q. (rw (here_is i k x y e v q) (not_itself i x (e, w)), λ z. absurd (omega arith))) (split k i h))
    best_keep i x true (some r) e w s = best_swap i x r (beats x r.1) refl (e, w) s

    best_scan : (i : ℕ) (o : Option (ℕ × A)) (ys : List A) → From xs i ys → i + length ys ≡ length xs → Best i o → Best (length xs) (scan waits beats i o ys)
    best_scan i o [] f e s = subst (λ (n : ℕ). Best n o) (sym (add-zero i) ∙ e) s
    best_scan i o (x ∷ ys) f e s = best_scan (suc i) _ ys (from_next xs i x ys f) (suc-add i (length ys) ∙ sym (add-suc i (length ys)) ∙ e) (best_keep i x (waits x) o (from_here xs i x ys f) refl s)

    best : Best (length xs) (choose waits beats xs)
    best = best_scan 0 none xs (from_start xs) (zero-add (length xs)) (λ k x v h. omega arith)

    pub chosen_least : (r : ℕ × A) → choose waits beats xs ≡ some r → Least waits beats xs r
    chosen_least r e = go (subst (Best (length xs)) e best)
      where
        go : Best (length xs) (some r) → Least waits beats xs r
        go s = record { waiting = s.1; unbeaten = λ k x v. (s.2 k x v (nth_lt xs k x v.0)).0; foremost = λ k x v h. (s.2 k x v (nth_lt xs k x v.0)).1 h }

    pub least_chosen : (r : ℕ × A) → Least waits beats xs r → choose waits beats xs ≡ some r
    least_chosen r l = go (choose waits beats xs) refl
      where
        go : (o : Option (ℕ × A)) → choose waits beats xs ≡ o → o ≡ some r
        go none e = absurd (true_false l.waiting.1 (choose_none xs e r.0 r.1 l.waiting.0))
        go (some q) e = ap some (same_least xs q r (chosen_least q e) l)
