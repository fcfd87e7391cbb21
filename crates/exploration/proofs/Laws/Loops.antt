-- What the proofs of a code's loops cite: each definition that recurs over a list or a count, cut in two or with one turn more at its end.
use Rattle.std.specs.Prelude.{◌≡◌, refl, Bool, List, [], ◌∷◌, ◌++◌, ℕ, zero, suc, ◌+◌, length}
use Rattle.std.proofs.Common.{sym, ap, ◌∙◌, add-zero, add-suc, suc-add, zero-add}
use Rattle.std.proofs.Math.Option.{Option}
use Rattle.exploration.specs.Lists.{total}
use Rattle.exploration.specs.Graph.{Graph}
use Rattle.exploration.specs.Policy.{Node, Policy}
use Rattle.exploration.specs.Explore.{State, visit, visits, advance, run, runs}
use Rattle.exploration.specs.Choose.{keep, scan}

-- a scan of waiting elements: one element more
module _ {A : Type 0} (waits : A → Bool) (beats : A → A → Bool) where
  pub scan_snoc : (i : ℕ) (o : Option (ℕ × A)) (xs : List A) (x : A) → scan waits beats i o (xs ++ (x ∷ [])) ≡ keep waits beats (waits x) (i + length xs) x (scan waits beats i o xs)
  scan_snoc i o [] x = rw add-zero
  scan_snoc i o (y ∷ xs) x = scan_snoc (suc i) (keep waits beats (waits y) i y o) xs x ∙ rw (suc-add, add-suc)

module _ {P L A B : Type 0} (𝓖 : Graph P L) (𝓟 : Policy P L A B) where
  -- the steps of one expansion, in two lots
  pub visits_append : (b k : ℕ) (f : Node P L A) (s : State P L A B) (ws vs : List (P × L)) → visits 𝓖 𝓟 b k f s (ws ++ vs) ≡ visits 𝓖 𝓟 b k f (visits 𝓖 𝓟 b k f s ws) vs
  visits_append b k f s [] vs = refl
  visits_append b k f s (w ∷ ws) vs = visits_append b k f (visit 𝓖 𝓟 b k f s w) ws vs

  -- expansions: in two lots, in any lots
  pub run_add : (b n m : ℕ) (s : State P L A B) → run 𝓖 𝓟 b (n + m) s ≡ run 𝓖 𝓟 b m (run 𝓖 𝓟 b n s)
  run_add b zero m s = ap (λ (i : ℕ). run 𝓖 𝓟 b i s) (zero-add m)
  run_add b (suc n) m s = ap (λ (i : ℕ). run 𝓖 𝓟 b i s) (suc-add n m) ∙ run_add b n m (advance 𝓖 𝓟 b s)

  pub runs_run : (b : ℕ) (lots : List ℕ) (s : State P L A B) → runs 𝓖 𝓟 b lots s ≡ run 𝓖 𝓟 b (total lots) s
  runs_run b [] s = refl
  runs_run b (n ∷ lots) s = runs_run b lots (run 𝓖 𝓟 b n s) ∙ sym (run_add b n (total lots) s)
