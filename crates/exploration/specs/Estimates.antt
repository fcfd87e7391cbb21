-- Document 01's order of a frontier, "lowest estimate first, then earliest push", over any kind of estimate that compares like numbers, and what it means to
-- come first by it.
use Rattle.std.specs.Prelude.{◌≡◌, Bool, true, not, ◌&&◌, ◌||◌, List, ◌⊎◌, ◌≢◌, ℕ, ◌<◌, ltb}
use Rattle.exploration.specs.Choose.{WaitsAt}

-- below is <, level is =
module _ {E : Type 0} (below level : E → E → Bool) where
  abbrev pub at_most : E → E → Bool
  at_most a b = below a b || level a b

  -- Among the numbers, ≤ is total and transitive, a < b is that b ≤ a fails, and a = b is that each is at most the other. (f64 has NaN besides its numbers.)
  pub record Comparison (Number : E → Type 0) : Type 0 where
    pub total : (a b : E) → Number a → Number b → (at_most a b ≡ true) ⊎ (at_most b a ≡ true)
    pub transitive : (a b c : E) → Number a → Number b → Number c → at_most a b ≡ true → at_most b c ≡ true → at_most a c ≡ true
    pub below_is : (a b : E) → Number a → Number b → below a b ≡ not (at_most b a)
    pub level_is : (a b : E) → Number a → Number b → level a b ≡ (at_most a b && at_most b a)

module _ {A E : Type 0} (below level : E → E → Bool) (estimate : A → E) (order : A → ℕ) where
  -- a lower estimate, or an equal one and an earlier push
  unfoldable pub sooner : A → A → Bool
  sooner a b = below (estimate a) (estimate b) || (level (estimate a) (estimate b) && ltb (order a) (order b))

  -- a at place j comes before b at place k: by its estimate, then by its push, and where pushes tie by its place
  abbrev pub Before : ℕ → A → ℕ → A → Type 0
  Before j a k b = (below (estimate a) (estimate b) ≡ true) ⊎ ((level (estimate a) (estimate b) ≡ true) × ((order a < order b) ⊎ ((order a ≡ order b) × (j < k))))

  -- it waits, and comes before every other that waits
  abbrev pub First : (A → Bool) → List A → ℕ × A → Type 0
  First waits xs r = WaitsAt waits sooner xs r.0 r.1 × ((k : ℕ) (x : A) → WaitsAt waits sooner xs k x → k ≢ r.0 → Before r.0 r.1 k x)
