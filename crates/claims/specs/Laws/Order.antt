-- The order of the answers, taken apart: which tests passed where an outcome is answered.
use Rattle.std.specs.Prelude.{ℕ, ◌<◌, ◌≡◌, refl, Bool, true, false, not, cond, ◌⊎◌}
use Rattle.std.proofs.Common.{arith, ◌∙◌, inl, inr}
use Rattle.std.proofs.Math.Option.{Option, none, some}
use Rattle.outcomes.specs.declared.Outcome.{Outcome}
use Rattle.outcomes.specs.declared.Outcome.TheVariants.{Found, Unreachable, BudgetExceeded, BadWorld, TooLarge, NoRoom}
use Rattle.outcomes.specs.Outcomes.{outcome_number}

-- "Search order: 3; `valid_request` (else 1); 4; 5; goal in range, start standable, goal standable (else 1); budget 0 (2); search", of the tests' answers
abbrev pub order : (bad valid large full ends nought : Bool) → Option Outcome
order bad valid large full ends nought =
    cond bad (some BadWorld)
    (cond (not valid) (some Unreachable)
    (cond large (some TooLarge)
    (cond full (some NoRoom)
    (cond (not ends) (some Unreachable)
    (cond nought (some BudgetExceeded)
    none)))))

-- what is told where a search comes to x
abbrev pub told : Outcome → Option Outcome → Outcome
told x (some o) = o
told x none = x

-- the tests where a search began
pub record Began (b v l e n : Bool) (o : Option Outcome) : Type 0 where
  pub good : b ≡ false
  pub valid : v ≡ true
  pub small : l ≡ false
  pub ends : e ≡ true
  pub budgeted : n ≡ false
  pub begun : o ≡ none

module _ (x : Outcome) where
  pub on_found : (b v l f e n : Bool) → told x (order b v l f e n) ≡ Found → Began b v l e n (order b v l f e n) × (x ≡ Found)
  on_found true v l f e n p = absurd (let q : ◌≡◌ {A = ℕ} 0 1 = cc in omega arith)
  on_found false false l f e n p = absurd (let q : ◌≡◌ {A = ℕ} 0 1 = cc in omega arith)
  on_found false true true f e n p = absurd (let q : ◌≡◌ {A = ℕ} 0 1 = cc in omega arith)
  on_found false true false true e n p = absurd (let q : ◌≡◌ {A = ℕ} 0 1 = cc in omega arith)
  on_found false true false false false n p = absurd (let q : ◌≡◌ {A = ℕ} 0 1 = cc in omega arith)
  on_found false true false false true true p = absurd (let q : ◌≡◌ {A = ℕ} 0 1 = cc in omega arith)
  on_found false true false false true false p = (record { good = refl; valid = refl; small = refl; ends = refl; budgeted = refl; begun = refl }, p)

  -- with a valid request and good ends, only the search itself says Unreachable
  pub on_unreachable : (b l f n : Bool) → told x (order b true l f true n) ≡ Unreachable → (x ≡ Unreachable) × (order b true l f true n ≡ none)
  on_unreachable true l f n p = absurd (let q : ◌≡◌ {A = ℕ} 0 1 = cc in omega arith)
  on_unreachable false true f n p = absurd (let q : ◌≡◌ {A = ℕ} 0 1 = cc in omega arith)
  on_unreachable false false true n p = absurd (let q : ◌≡◌ {A = ℕ} 0 1 = cc in omega arith)
  on_unreachable false false false true p = absurd (let q : ◌≡◌ {A = ℕ} 0 1 = cc in omega arith)
  on_unreachable false false false false p = (p, refl)

  -- BudgetExceeded is said of a valid request and good ends alone, for a budget of 0 or by the search itself
  pub on_exceeded : (b v l f e n : Bool) → told x (order b v l f e n) ≡ BudgetExceeded → (v ≡ true) × (e ≡ true) × ((n ≡ true) ⊎ (x ≡ BudgetExceeded))
  on_exceeded true v l f e n p = absurd (let q : ◌≡◌ {A = ℕ} 0 1 = cc in omega arith)
  on_exceeded false false l f e n p = absurd (let q : ◌≡◌ {A = ℕ} 0 1 = cc in omega arith)
  on_exceeded false true true f e n p = absurd (let q : ◌≡◌ {A = ℕ} 0 1 = cc in omega arith)
  on_exceeded false true false true e n p = absurd (let q : ◌≡◌ {A = ℕ} 0 1 = cc in omega arith)
  on_exceeded false true false false false n p = absurd (let q : ◌≡◌ {A = ℕ} 0 1 = cc in omega arith)
  on_exceeded false true false false true true p = (refl, refl, inl refl)
  on_exceeded false true false false true false p = (refl, refl, inr p)

-- ---- under another budget, where it draws no refusal

module _ (y : Outcome) where
  -- with good ends and a budget above 0, the search's own answer
  goes_on : (l f n : Bool) → n ≡ false → outcome_number (told y (order false true l f true n)) < 3 → told y (order false true l f true n) ≡ y
  goes_on true f n z h = absurd (omega arith)
  goes_on false true n z h = absurd (omega arith)
  goes_on false false true z h = absurd (let q : ◌≡◌ {A = ℕ} 0 1 = cc in omega arith)
  goes_on false false false z h = refl

  ends_there : (l f n : Bool) → outcome_number (told y (order false true l f false n)) < 3 → told y (order false true l f false n) ≡ Unreachable
  ends_there true f n h = absurd (omega arith)
  ends_there false true n h = absurd (omega arith)
  ends_there false false n h = refl

module _ (x y : Outcome) (b v e l f n l' f' n' : Bool) (above : n ≡ false → n' ≡ false) where
  pub found_stays : (x ≡ Found → y ≡ Found) → told x (order b v l f e n) ≡ Found → outcome_number (told y (order b v l' f' e n')) < 3 →
      told y (order b v l' f' e n') ≡ Found
  found_stays k p h =
      let o = on_found x b v l f e n p in
      let s = o.0 in
      rw (s.good, s.valid, s.ends) (goes_on y l' f' n' (above s.budgeted) (rw (s.good, s.valid, s.ends) at h) ∙ k o.1)

  pub unreachable_stays : (x ≡ Unreachable → y ≡ Unreachable) → told x (order b v l f e n) ≡ Unreachable → outcome_number (told y (order b v l' f' e n')) < 3 →
      told y (order b v l' f' e n') ≡ Unreachable
  unreachable_stays k p h = go b v l f e n p h above
    where
      go : (b v l f e n : Bool) → told x (order b v l f e n) ≡ Unreachable → outcome_number (told y (order b v l' f' e n')) < 3 → (n ≡ false → n' ≡ false) →
          told y (order b v l' f' e n') ≡ Unreachable
      go true v l f e n p h a = absurd (omega arith)
      go false false l f e n p h a = refl
      go false true true f e n p h a = absurd (let q : ◌≡◌ {A = ℕ} 0 1 = cc in omega arith)
      go false true false true e n p h a = absurd (let q : ◌≡◌ {A = ℕ} 0 1 = cc in omega arith)
      go false true false false false n p h a = ends_there y l' f' n' h
      go false true false false true true p h a = absurd (let q : ◌≡◌ {A = ℕ} 0 1 = cc in omega arith)
      go false true false false true false p h a = let g = goes_on y l' f' n' (a refl) h in let z = k p in cc
