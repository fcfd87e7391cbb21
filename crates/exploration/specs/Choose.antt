-- Which of the waiting elements comes next: what one scan from the first place to the last keeps, and what it means to be the least of them. That the scan
-- keeps the least, and only the least, is `picks_the_least` of Claims.
use Rattle.std.specs.Prelude.{◌≡◌, Bool, true, false, List, [], ◌∷◌, ◌⊎◌, ℕ, suc, ◌<◌}
use Rattle.std.proofs.Math.Option.{Option, none, some}
use Rattle.exploration.specs.Lists.{nth}

module _ {A : Type 0} (waits : A → Bool) (beats : A → A → Bool) where
  abbrev pub swap : Bool → ℕ → A → ℕ × A → Option (ℕ × A)
  swap true i x r = some (i, x)
  swap false i x r = some r

  -- the element x at place i takes over where it waits and beats what was kept before
  abbrev pub keep : Bool → ℕ → A → Option (ℕ × A) → Option (ℕ × A)
  keep false i x o = o
  keep true i x none = some (i, x)
  keep true i x (some r) = swap (beats x r.1) i x r

  abbrev pub scan : ℕ → Option (ℕ × A) → List A → Option (ℕ × A)
  scan i o [] = o
  scan i o (x ∷ xs) = scan (suc i) (keep (waits x) i x o) xs

  abbrev pub choose : List A → Option (ℕ × A)
  choose xs = scan 0 none xs

  abbrev pub WaitsAt : List A → ℕ → A → Type 0
  WaitsAt xs k x = (nth xs k ≡ some x) × (waits x ≡ true)

  -- it waits, no waiting element beats it, and it beats those that wait at lower places
  pub record Least (xs : List A) (r : ℕ × A) : Type 0 where
    pub waiting : WaitsAt xs r.0 r.1
    pub unbeaten : (k : ℕ) (x : A) → WaitsAt xs k x → beats x r.1 ≡ false
    pub foremost : (k : ℕ) (x : A) → WaitsAt xs k x → k < r.0 → beats r.1 x ≡ true

  -- among the elements that wait, "is not beaten by" is total and transitive
  pub record Ordered (xs : List A) : Type 0 where
    pub total : (i j : ℕ) (x y : A) → WaitsAt xs i x → WaitsAt xs j y → (beats y x ≡ false) ⊎ (beats x y ≡ false)
    pub transitive : (i j k : ℕ) (x y z : A) → WaitsAt xs i x → WaitsAt xs j y → WaitsAt xs k z → beats y x ≡ false → beats z y ≡ false → beats z x ≡ false
