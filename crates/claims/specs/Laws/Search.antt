-- The search of the public call: the theory's claims on the outcome that it comes to.
use Rattle.std.specs.Prelude.{ℕ, suc, ◌≤◌, ◌≡◌, true, List, [], ◌∷◌, ◌≢◌, length}
use Rattle.std.proofs.Common.{arith, sym, ◌∙◌}
use Rattle.std.proofs.Math.Path.{refl, ap}
use Rattle.exploration.specs.Lists.{has, count}
use Rattle.exploration.specs.Graph.{Graph, GraphLaws, Route, Reach, at_start_lem}
use Rattle.exploration.specs.Policy.{Policy, PolicyLaws}
use Rattle.exploration.specs.Explore as explore
use Rattle.exploration.specs.Explore.{points, final, answer}
use Rattle.exploration.proofs.Claims as claims
use Rattle.exploration.proofs.Laws.Lists.{count_le}
use Rattle.exploration.proofs.Laws.Expansions.{sound_room, final_sound}
use Rattle.world.specs.declared.Body.{Body}
use Rattle.world.specs.declared.Request.{Request}
use Rattle.world.specs.Space.{Space}
use Rattle.words.specs.Words.{feet_of}
use Rattle.steps.specs.Graph.{graph}
use Rattle.steps.specs.GraphLaws.{graph_laws}
use Rattle.rooms.specs.declared.Feet.{Feet}
use Rattle.rooms.specs.declared.Label.{Label}
use Rattle.rooms.specs.Rooms.{Note}
use Rattle.rooms.specs.Waypoints.{same_point}
use Rattle.visits.specs.Best.{best}
use Rattle.visits.proofs.Laws.Policy.{best_laws}
use Rattle.outcomes.specs.declared.Outcome.TheVariants.{Found, Unreachable, BudgetExceeded}
use Rattle.outcomes.specs.Outcomes.{told_by, list_in}
use Rattle.search.specs.FindWalkPath.{ended, end_of}
use Rattle.claims.specs.Words.{with_budget}
use Rattle.claims.specs.Laws.Budget.{graph_budget}

-- ---- 01's words for an outcome, back to the theory's

pub told_found : (x : explore.Outcome (Feet × Label)) → told_by x ≡ Found → x ≡ explore.Found (list_in x)
told_found (explore.Found t) e = refl
told_found explore.Unreachable e = absurd (let q : ◌≡◌ {A = ℕ} 0 1 = cc in omega arith)
told_found explore.BudgetExceeded e = absurd (let q : ◌≡◌ {A = ℕ} 0 1 = cc in omega arith)
told_found explore.Searching e = absurd (let q : ◌≡◌ {A = ℕ} 0 1 = cc in omega arith)

told_unreachable : (x : explore.Outcome (Feet × Label)) → told_by x ≡ Unreachable → x ≡ explore.Unreachable
told_unreachable (explore.Found t) e = absurd (let q : ◌≡◌ {A = ℕ} 0 1 = cc in omega arith)
told_unreachable explore.Unreachable e = refl
told_unreachable explore.BudgetExceeded e = absurd (let q : ◌≡◌ {A = ℕ} 0 1 = cc in omega arith)
told_unreachable explore.Searching e = absurd (let q : ◌≡◌ {A = ℕ} 0 1 = cc in omega arith)

told_exceeded : (x : explore.Outcome (Feet × Label)) → x ≢ explore.Searching → told_by x ≡ BudgetExceeded → x ≡ explore.BudgetExceeded
told_exceeded (explore.Found t) n e = absurd (let q : ◌≡◌ {A = ℕ} 0 1 = cc in omega arith)
told_exceeded explore.Unreachable n e = absurd (let q : ◌≡◌ {A = ℕ} 0 1 = cc in omega arith)
told_exceeded explore.BudgetExceeded n e = refl
told_exceeded explore.Searching n e = absurd (n refl)

-- ---- one search

module _ (sp : Space) (r : Request) (body : Body) where
  abbrev 𝓖 : Graph Feet Label
  𝓖 = graph sp r body

  abbrev 𝓟 : Policy Feet Label Note ℕ
  𝓟 = best (feet_of r.goal)

  abbrev 𝓛 : GraphLaws 𝓖
  𝓛 = graph_laws sp r body

  abbrev 𝓠 : PolicyLaws 𝓟
  𝓠 = best_laws (feet_of r.goal)

  abbrev budget : ℕ
  budget = r.node_budget

  is_answer : end_of sp r body ≡ answer 𝓖 𝓟 r.node_budget
  unfolding end_of ended
  is_answer = refl

  is_final : ended sp r body ≡ final 𝓖 𝓟 r.node_budget
  unfolding ended
  is_final = refl

  pub found_route : told_by (end_of sp r body) ≡ Found → Route 𝓖 (list_in (end_of sp r body))
  found_route e = (claims.found_is_route 𝓖 𝓟 𝓛 𝓠 budget (list_in (end_of sp r body)) (sym is_answer ∙ told_found (end_of sp r body) e)).0

  pub unreachable_route : told_by (end_of sp r body) ≡ Unreachable → (t : List (Feet × Label)) → Route 𝓖 t → ⊥
  unreachable_route e = claims.unreachable_has_no_route 𝓖 𝓟 𝓛 𝓠 budget (sym is_answer ∙ told_unreachable (end_of sp r body) e)

  pub not_searching : end_of sp r body ≢ explore.Searching
  not_searching e = (claims.ends_within_budget 𝓖 𝓟 𝓛 𝓠 budget).0 (sym is_answer ∙ e)

  abbrev pub Covers : List Feet → Type 0
  Covers K = (p : Feet) → Reach 𝓖 p → has (λ x. same_point x p) K ≡ true

  pub covered : (K : List Feet) → Covers K → length K ≤ budget → told_by (end_of sp r body) ≢ BudgetExceeded
  unfolding graph
  covered K c h e =
      claims.covering_budget_suffices 𝓖 𝓟 𝓛 𝓠 budget K c h
      (sym is_answer ∙ told_exceeded (end_of sp r body) not_searching e)

  -- after Unreachable the points that are kept cover
  pub kept_all : told_by (end_of sp r body) ≡ Unreachable → Covers (points (ended sp r body))
  unfolding graph
  kept_all e p h = rw is_final (claims.unreachable_kept_all 𝓖 𝓟 𝓛 𝓠 budget (sym is_answer ∙ told_unreachable (end_of sp r body) e) p h)

  -- the start is reached, so that no empty list covers
  pub covers_some : (K : List Feet) → Covers K → length K ≢ 0
  covers_some [] c e =
      let q : has (λ x. same_point x 𝓖.start) [] ≡ true = c 𝓖.start (at_start_lem (𝓛.same_refl 𝓖.start)) in
      absurd (let z : ◌≡◌ {A = ℕ} 0 1 = cc in omega arith)
  covers_some (k ∷ K) c e = omega arith

  pub list_within : length (list_in (end_of sp r body)) ≤ suc r.node_budget
  list_within = go (end_of sp r body) refl
    where
      go : (x : explore.Outcome (Feet × Label)) → end_of sp r body ≡ x → length (list_in x) ≤ suc r.node_budget
      go (explore.Found t) e = (claims.found_is_route 𝓖 𝓟 𝓛 𝓠 budget t (sym is_answer ∙ e)).1
      go explore.Unreachable e = omega arith
      go explore.BudgetExceeded e = omega arith
      go explore.Searching e = omega arith

  pub nodes_within : length (ended sp r body).nodes ≤ r.node_budget
  nodes_within = rw is_final (sound_room 𝓖 𝓟 (final_sound 𝓖 𝓟 𝓛 𝓠 budget))

  pub closings_counted : (ended sp r body).closings ≡ count (λ n. n.closed) (ended sp r body).nodes
  closings_counted = rw is_final (claims.ends_within_budget 𝓖 𝓟 𝓛 𝓠 budget).2

  pub closings_within : (ended sp r body).closings ≤ length (ended sp r body).nodes
  closings_within = omega (arith, closings_counted, count_le (λ n. n.closed) (ended sp r body).nodes)

  -- ---- and under another budget

  pub covers_still : (b : ℕ) (K : List Feet) → Covers K → (p : Feet) → Reach (graph sp (with_budget b r) body) p → has (λ x. same_point x p) K ≡ true
  covers_still b K c p h = c p (rw (graph_budget b sp r body) at h)

  other : (b : ℕ) → end_of sp (with_budget b r) body ≡ answer 𝓖 𝓟 b
  unfolding end_of ended
  other b = ap (λ (𝓗 : Graph Feet Label). answer 𝓗 𝓟 b) (graph_budget b sp r body)

  -- a smaller one that is enough, is enough for all that this one keeps
  pub kept_within : (b : ℕ) → b ≤ r.node_budget → told_by (end_of sp (with_budget b r) body) ≡ Unreachable → length (ended sp r body).nodes ≤ b
  kept_within b h e =
      let alike = claims.unreachable_ends_alike 𝓖 𝓟 𝓛 𝓠 b budget h (sym (other b) ∙ told_unreachable (end_of sp (with_budget b r) body) e) in
      rw (is_final, ← alike) (sound_room 𝓖 𝓟 (final_sound 𝓖 𝓟 𝓛 𝓠 b))

  module _ (b : ℕ) (above : r.node_budget ≤ b) where
    pub found_again : told_by (end_of sp r body) ≡ Found → told_by (end_of sp (with_budget b r) body) ≡ Found
    found_again e =
        let u = claims.found_stays_found 𝓖 𝓟 𝓛 𝓠 budget b above (list_in (end_of sp r body)) (sym is_answer ∙ told_found (end_of sp r body) e) in
        ap told_by (other b ∙ u.1)

    pub unreachable_again : told_by (end_of sp r body) ≡ Unreachable → told_by (end_of sp (with_budget b r) body) ≡ Unreachable
    unreachable_again e =
        ap told_by (other b ∙ claims.unreachable_stays_unreachable 𝓖 𝓟 𝓛 𝓠 budget b above (sym is_answer ∙ told_unreachable (end_of sp r body) e))
