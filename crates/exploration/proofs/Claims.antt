-- What holds of every bounded exploration, of every graph and under every policy: one theorem a claim, stated in the words of Graph, Explore, WalkBack, Guides,
-- Choose and Estimates. The letters: 𝓖 a graph and 𝓛 its laws, 𝓟 a policy and 𝓠 its laws, b and c budgets. `answer` is the outcome of a whole search under a
-- budget, `final` the state that it ends in.
use Rattle.std.specs.Prelude.{◌≡◌, refl, Bool, true, false, ◌⊎◌, ◌↔◌, ◌≢◌, ℕ, suc, ◌+◌, ◌≤◌, ◌<◌, Float, length}
use Rattle.std.proofs.Common.{sym, ap, ◌∙◌, inl, inr, arith}
use Rattle.std.proofs.Math.Option.{some}
use mathlib.Core.List.{List, [], IsPrefix, append-nil}
use Rattle.std.specs.Float.Ieee.{is_nan, lt, eq}
use Rattle.std.proofs.lemmas.List.{length-map}
use Rattle.exploration.specs.Lists.{nth, has, count, total}
use Rattle.exploration.specs.Graph.{Graph, GraphLaws, Route, Reach}
use Rattle.exploration.specs.Policy.{Policy, PolicyLaws}
use Rattle.exploration.specs.Explore.{Outcome, Found, Unreachable, BudgetExceeded, Searching, points, runs, begin, final, outcome, answer}
use Rattle.exploration.specs.Guides.{play, turns, begin_both, Fair, one}
use Rattle.exploration.specs.WalkBack.{is_route, Broken, going, FirstBreak}
use Rattle.exploration.specs.Choose.{choose, WaitsAt, Least, Ordered}
use Rattle.exploration.specs.Estimates.{Comparison, sooner, Before, First}
use Rattle.exploration.proofs.Laws.Budgets.{Compared, equal, parted, compare_final}
use Rattle.exploration.proofs.Laws.Choices.{chosen_least, least_chosen}
use Rattle.exploration.proofs.Laws.Endings.{found_of, found_outcome, found_route, unreachable_route, unreachable_cover, exceeded_cover, found_again}
use Rattle.exploration.proofs.Laws.Endings.{end_of, done_ended, ended_done, done_final, enough_done}
use Rattle.exploration.proofs.Laws.Estimates.{chosen_first, first_chosen}
use Rattle.exploration.proofs.Laws.Expansions.{sound_room, sound_counted, final_sound, final_done}
use Rattle.exploration.proofs.Laws.FloatOrder.{float_comparison}
use Rattle.exploration.proofs.Laws.Guides.{as_alone, movers_fair}
use Rattle.exploration.proofs.Laws.Lists.{count_le}
use Rattle.exploration.proofs.Laws.Loops.{runs_run}
use Rattle.exploration.proofs.Laws.WalkBack.{is_route_lem, route_is, first_break}

-- ---- one search, and the same search under another budget

module _ {P L A B : Type 0} (𝓖 : Graph P L) (𝓟 : Policy P L A B) (𝓛 : GraphLaws 𝓖) (𝓠 : PolicyLaws 𝓟) where
  -- A list that is found is a route, of at most one point more than the budget.
  pub found_is_route : (b : ℕ) (t : List (P × L)) → answer 𝓖 𝓟 b ≡ Found t → Route 𝓖 t × (length t ≤ suc b)
  found_is_route b t e = found_route 𝓖 𝓟 (final_sound 𝓖 𝓟 𝓛 𝓠 b) (found_of 𝓖 𝓟 (final 𝓖 𝓟 b) t e)

  -- Unreachable means that no list is a route.
  pub unreachable_has_no_route : (b : ℕ) → answer 𝓖 𝓟 b ≡ Unreachable → (t : List (P × L)) → Route 𝓖 t → ⊥
  unreachable_has_no_route b = unreachable_route 𝓖 𝓟 𝓛 𝓠 b (final 𝓖 𝓟 b) (final_sound 𝓖 𝓟 𝓛 𝓠 b)

  -- And the points that it kept are all that graph steps reach: each reached point is the same as one of them.
  pub unreachable_kept_all : (b : ℕ) → answer 𝓖 𝓟 b ≡ Unreachable → (p : P) → Reach 𝓖 p → has (λ x. 𝓖.same x p) (points (final 𝓖 𝓟 b)) ≡ true
  unreachable_kept_all b = unreachable_cover 𝓖 𝓟 𝓛 𝓠 b (final 𝓖 𝓟 b) (final_sound 𝓖 𝓟 𝓛 𝓠 b)

  -- A list K that covers every reached point and is no longer than the budget rules out BudgetExceeded.
  pub covering_budget_suffices : (b : ℕ) (K : List P) → ((p : P) → Reach 𝓖 p → has (λ x. 𝓖.same x p) K ≡ true) → length K ≤ b → answer 𝓖 𝓟 b ≢ BudgetExceeded
  covering_budget_suffices b K c h e = omega (arith, exceeded_cover 𝓖 𝓟 𝓛 𝓠 b (final 𝓖 𝓟 b) (final_sound 𝓖 𝓟 𝓛 𝓠 b) e K c)

  -- The points kept under a smaller budget are the first of those kept under a larger one, and never more than the budget.
  pub smaller_budget_keeps_the_first : (b c : ℕ) → b ≤ c → IsPrefix (points (final 𝓖 𝓟 b)) (points (final 𝓖 𝓟 c)) × (length (points (final 𝓖 𝓟 b)) ≤ b)
  smaller_budget_keeps_the_first b c h = (go (compare_final 𝓖 𝓟 𝓛 𝓠 b c h), rw length-map (sound_room 𝓖 𝓟 (final_sound 𝓖 𝓟 𝓛 𝓠 b)))
    where
      go : Compared 𝓖 𝓟 b (final 𝓖 𝓟 b) (final 𝓖 𝓟 c) → IsPrefix (points (final 𝓖 𝓟 b)) (points (final 𝓖 𝓟 c))
      go (equal e) = ([], append-nil _ ∙ ap points e)
      go (parted o) = (o.rest.0, sym o.rest.1)

  -- Found stays Found under a larger budget.
  pub found_stays_found : (b c : ℕ) → b ≤ c → (t : List (P × L)) → answer 𝓖 𝓟 b ≡ Found t → (u : List (P × L)) × (answer 𝓖 𝓟 c ≡ Found u)
  found_stays_found b c h t e = let p = (smaller_budget_keeps_the_first b c h).0 in
      let u = found_again 𝓖 𝓟 𝓛 𝓠 b c (final 𝓖 𝓟 b) (final 𝓖 𝓟 c) (p.0, sym p.1)
      (final_sound 𝓖 𝓟 𝓛 𝓠 b) (final_sound 𝓖 𝓟 𝓛 𝓠 c) (final_done 𝓖 𝓟 𝓛 𝓠 c) t (found_of 𝓖 𝓟 (final 𝓖 𝓟 b) t e) in
      (u.0, found_outcome 𝓖 𝓟 (final 𝓖 𝓟 c) u.0 u.1)

  -- Unreachable stays Unreachable under a larger budget: the search ends in the same state.
  pub unreachable_ends_alike : (b c : ℕ) → b ≤ c → answer 𝓖 𝓟 b ≡ Unreachable → final 𝓖 𝓟 b ≡ final 𝓖 𝓟 c
  unreachable_ends_alike b c h e = go (compare_final 𝓖 𝓟 𝓛 𝓠 b c h)
    where
      go : Compared 𝓖 𝓟 b (final 𝓖 𝓟 b) (final 𝓖 𝓟 c) → final 𝓖 𝓟 b ≡ final 𝓖 𝓟 c
      go (equal q) = q
      go (parted o) = absurd (omega (arith, o.lost, (end_of 𝓖 𝓟 (final 𝓖 𝓟 b) e).2))

  pub unreachable_stays_unreachable : (b c : ℕ) → b ≤ c → answer 𝓖 𝓟 b ≡ Unreachable → answer 𝓖 𝓟 c ≡ Unreachable
  unreachable_stays_unreachable b c h e = rw (← unreachable_ends_alike b c h e) e

  -- A search ends after at most budget closings, and its count of closings is the number of closed nodes.
  pub ends_within_budget : (b : ℕ) →
      (answer 𝓖 𝓟 b ≢ Searching) × ((final 𝓖 𝓟 b).closings ≤ b) × ((final 𝓖 𝓟 b).closings ≡ count (λ n. n.closed) (final 𝓖 𝓟 b).nodes)
  ends_within_budget b = (
    done_ended 𝓖 𝓟 (final 𝓖 𝓟 b) (final_done 𝓖 𝓟 𝓛 𝓠 b),
    omega (arith, k, sound_room 𝓖 𝓟 (final_sound 𝓖 𝓟 𝓛 𝓠 b), count_le (λ n. n.closed) (final 𝓖 𝓟 b).nodes),
    k,
  )
    where
      k : (final 𝓖 𝓟 b).closings ≡ count (λ n. n.closed) (final 𝓖 𝓟 b).nodes
      k = sound_counted 𝓖 𝓟 (final_sound 𝓖 𝓟 𝓛 𝓠 b)

  -- However the expansions are divided into lots: lots that together are as many as the budget end the search, and whenever lots end it, it is in the state
  -- in which the whole search ends. (For No. 10 of 02.)
  pub every_division_ends_alike : (b : ℕ) (lots : List ℕ) → (b ≤ total lots → outcome 𝓖 𝓟 (runs 𝓖 𝓟 b lots (begin 𝓖 𝓟 b)) ≢ Searching)
      × (outcome 𝓖 𝓟 (runs 𝓖 𝓟 b lots (begin 𝓖 𝓟 b)) ≢ Searching → runs 𝓖 𝓟 b lots (begin 𝓖 𝓟 b) ≡ final 𝓖 𝓟 b)
  every_division_ends_alike b lots = rw (runs_run 𝓖 𝓟 b lots (begin 𝓖 𝓟 b)) (
    λ h. done_ended 𝓖 𝓟 _ (enough_done 𝓖 𝓟 𝓛 𝓠 b (total lots) h),
    λ n. done_final 𝓖 𝓟 𝓛 𝓠 b (total lots) (ended_done 𝓖 𝓟 _ n),
  )

-- ---- two policies over one graph (for No. 12 of 02)

-- both found a list, or both are unreachable
pub data Agree {W : Type 0} : Outcome W → Outcome W → Type 0 where
  both_found : (t u : List W) → Agree (Found t) (Found u)
  both_unreachable : Agree Unreachable Unreachable

module _ {P L A B C D : Type 0} (𝓖 : Graph P L) (𝓛 : GraphLaws 𝓖) (𝓟 : Policy P L A B) (𝓡 : Policy P L C D) (𝓠 : PolicyLaws 𝓟) (𝓢 : PolicyLaws 𝓡) where
  -- Two policies over one graph agree, where neither exceeds its budget.
  pub policies_agree : (b c : ℕ) → answer 𝓖 𝓟 b ≢ BudgetExceeded → answer 𝓖 𝓡 c ≢ BudgetExceeded → Agree (answer 𝓖 𝓟 b) (answer 𝓖 𝓡 c)
  policies_agree b c p q = go _ _ refl refl p q
    where
      go : (x y : Outcome (P × L)) → answer 𝓖 𝓟 b ≡ x → answer 𝓖 𝓡 c ≡ y → x ≢ BudgetExceeded → y ≢ BudgetExceeded → Agree x y
      go (Found t) (Found u) e f p q = both_found t u
      go (Found t) Unreachable e f p q = absurd (unreachable_has_no_route 𝓖 𝓡 𝓛 𝓢 c f t (found_is_route 𝓖 𝓟 𝓛 𝓠 b t e).0)
      go (Found t) BudgetExceeded e f p q = absurd (q refl)
      go (Found t) Searching e f p q = absurd ((ends_within_budget 𝓖 𝓡 𝓛 𝓢 c).0 f)
      go Unreachable (Found u) e f p q = absurd (unreachable_has_no_route 𝓖 𝓟 𝓛 𝓠 b e u (found_is_route 𝓖 𝓡 𝓛 𝓢 c u f).0)
      go Unreachable Unreachable e f p q = both_unreachable
      go Unreachable BudgetExceeded e f p q = absurd (q refl)
      go Unreachable Searching e f p q = absurd ((ends_within_budget 𝓖 𝓡 𝓛 𝓢 c).0 f)
      go BudgetExceeded y e f p q = absurd (p refl)
      go Searching y e f p q = absurd ((ends_within_budget 𝓖 𝓟 𝓛 𝓠 b).0 e)

-- ---- two guides by turns (for No. 11 of 02)

module _ {P L A B Q M C D : Type 0} (𝓖 : Graph P L) (𝓗 : Graph Q M) (𝓟 : Policy P L A B) (𝓡 : Policy Q M C D)
    (𝓛 : GraphLaws 𝓖) (𝓜 : GraphLaws 𝓗) (𝓠 : PolicyLaws 𝓟) (𝓢 : PolicyLaws 𝓡) where
  -- Each guide ends in the state in which it would end alone, and while it is searching it waits for at most one expansion of the other.
  pub guides_by_turns : (b c : ℕ) → (play 𝓖 𝓗 𝓟 𝓡 b c (turns 𝓖 𝓗 𝓟 𝓡 b c) (begin_both 𝓖 𝓗 𝓟 𝓡 b c) ≡ (final 𝓖 𝓟 b, final 𝓗 𝓡 c))
      × Fair 𝓖 𝓗 𝓟 𝓡 b c (turns 𝓖 𝓗 𝓟 𝓡 b c) (begin_both 𝓖 𝓗 𝓟 𝓡 b c)
  guides_by_turns b c = (as_alone 𝓖 𝓗 𝓟 𝓡 b c 𝓛 𝓜 𝓠 𝓢, movers_fair 𝓖 𝓗 𝓟 𝓡 b c (b + c) one (begin_both 𝓖 𝓗 𝓟 𝓡 b c))

-- ---- the test of a list

-- The test of a list is true exactly for routes.
pub route_test_exact : {P L : Type 0} (𝓖 : Graph P L) (t : List (P × L)) → (is_route 𝓖 t ≡ true) ↔ Route 𝓖 t
route_test_exact 𝓖 t = (is_route_lem 𝓖 t, route_is 𝓖)

-- Where a list breaks off, it does so at its first pair that is none of the graph's, and tells that pair's place.
pub breaks_at_the_first_pair : {P L : Type 0} (𝓖 : Graph P L) (k : ℕ) (p : P) (ws : List (P × L)) {m : ℕ} {q : P} {w : P × L} {last : Bool} →
    going 𝓖 k p ws ≡ Broken m q w last → FirstBreak 𝓖 k p ws m q w last
breaks_at_the_first_pair 𝓖 k p ws e = first_break 𝓖 k p ws e

-- ---- the next of the frontier

-- Where the order is total and transitive on the waiting elements that are present, the scan keeps the least of them, and only the least.
pub picks_the_least : {A : Type 0} (waits : A → Bool) (beats : A → A → Bool) (xs : List A) → Ordered waits beats xs → (r : ℕ × A) →
    (choose waits beats xs ≡ some r) ↔ Least waits beats xs r
picks_the_least waits beats xs o r = (chosen_least waits beats xs o r, least_chosen waits beats xs o r)

module _ {A E : Type 0} (below level : E → E → Bool) (Number : E → Type 0) (laws : Comparison below level Number)
    (waits : A → Bool) (estimate : A → E) (order : A → ℕ) where
  -- By estimate and push order: where the waiting estimates are numbers, what is picked has the lowest estimate, of those the earliest push, and where pushes
  -- tie the lowest place; and only that one is picked.
  pub picks_lowest_estimate_then_earliest_push : (xs : List A) → ((k : ℕ) (x : A) → nth xs k ≡ some x → waits x ≡ true → Number (estimate x)) → (r : ℕ × A)
      → (choose waits (sooner below level estimate order) xs ≡ some r) ↔ First below level estimate order waits xs r
  picks_lowest_estimate_then_earliest_push xs n r = (
    chosen_first below level Number laws estimate order waits xs (λ k x w. n k x w.0 w.1) r,
    first_chosen below level Number laws estimate order waits xs (λ k x w. n k x w.0 w.1) r,
  )

  -- Where no two pushes of those that wait tie, the place decides nothing: every other waiting one has a higher estimate, or an equal one and a later push.
  pub distinct_pushes_decide : (xs : List A) → ((k : ℕ) (x : A) → nth xs k ≡ some x → waits x ≡ true → Number (estimate x))
      → ((j k : ℕ) (x y : A) → nth xs j ≡ some x → nth xs k ≡ some y → waits x ≡ true → waits y ≡ true → order x ≡ order y → j ≡ k)
      → (r : ℕ × A) → choose waits (sooner below level estimate order) xs ≡ some r
      → (k : ℕ) (x : A) → nth xs k ≡ some x → waits x ≡ true → k ≢ r.0
      → (below (estimate r.1) (estimate x) ≡ true) ⊎ ((level (estimate r.1) (estimate x) ≡ true) × (order r.1 < order x))
  distinct_pushes_decide xs n distinct r e k x i w h = let f = (picks_lowest_estimate_then_earliest_push xs n r).0 e in go f.0 (f.1 k x (i, w) h)
    where
      go : WaitsAt waits (sooner below level estimate order) xs r.0 r.1 → Before below level estimate order r.0 r.1 k x →
          (below (estimate r.1) (estimate x) ≡ true) ⊎ ((level (estimate r.1) (estimate x) ≡ true) × (order r.1 < order x))
      go j (inl p) = inl p
      go j (inr (p, inl q)) = inr (p, q)
      go j (inr (p, inr q)) = absurd (h (distinct k r.0 x r.1 i j.0 w j.1 (sym q.0)))

-- And so it is for f64 estimates that are no NaN.
pub picks_lowest_f64_then_earliest_push : {A : Type 0} (waits : A → Bool) (estimate : A → Float) (order : A → ℕ) (xs : List A)
    → ((k : ℕ) (x : A) → nth xs k ≡ some x → waits x ≡ true → is_nan (estimate x) ≡ false) → (r : ℕ × A)
    → (choose waits (sooner lt eq estimate order) xs ≡ some r) ↔ First lt eq estimate order waits xs r
picks_lowest_f64_then_earliest_push = picks_lowest_estimate_then_earliest_push lt eq (λ x. is_nan x ≡ false) float_comparison
