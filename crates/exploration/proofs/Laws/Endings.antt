-- What the outcome of a state says of the state, and what a state of a run says of routes, of reached points and of other budgets.
use Rattle.std.specs.Prelude.{◌≡◌, Bool, ◌≢◌, leb, length}
use Rattle.std.proofs.Math.Path.{refl}
use Rattle.std.proofs.Common.{sym, ap, subst, ◌∙◌, ⊎_elim, arith, length-append, leb-true, leb-false}
use Rattle.std.proofs.Math.Bool.{true, false}
use Rattle.std.proofs.Math.Option.{Option, none, some}
use mathlib.Core.List.{List, [], ◌∷◌, ◌++◌, map}
use Prim.Native.Nat.{ℕ, zero, suc, ◌+◌, ◌-◌, ◌≤◌, ◌<◌}
use Rattle.std.proofs.lemmas.List.{length-map}
use Rattle.exploration.specs.Lists.{nth, has}
use Rattle.exploration.specs.Graph.{Graph, GraphLaws, Way, arrived, connected, stepped, Route, route, Reach, at_start_lem, by_step, connects, labelled}
use Rattle.exploration.specs.Policy.{Node, Policy, PolicyLaws}
use Rattle.exploration.specs.Explore.{ending_by, ending, State, Outcome, Found, Unreachable, BudgetExceeded, Searching, points, run, begin, final, outcome_by, outcome}
use Rattle.exploration.proofs.Laws.Apart.{apart_snoc, Covered, pigeon}
use Rattle.exploration.proofs.Laws.Expansions.{Sound, going, struck, Done, at_found, at_end, closed_of, done_run, final_done}
use Rattle.exploration.proofs.Laws.Invariant.{trail_reach, Link, first_link, next_link, Expanded, Inv}
use Rattle.exploration.proofs.Laws.Lists.{none_some, true_false, true_or_false, nth_left, nth_map, nth_of_map, has_map}
use Rattle.exploration.proofs.Laws.Loops.{run_add}
use Rattle.exploration.proofs.Laws.Visits.{known, known_at}

module _ {P L : Type 0} (𝓖 : Graph P L) where
  open 𝓖 use {same, goal, connector}

  ending_here : (p : P) → same p goal ≡ true → ending 𝓖 p ≡ none → ⊥
  unfolding ending
  ending_here p e h = let z : ending 𝓖 p ≡ some [] = rw (e, ending_by) in none_some (sym h ∙ z)

  ending_connected : (p : P) (w : P × L) → connects 𝓖 p w ≡ true → ending 𝓖 p ≡ none → ⊥
  unfolding ending
  ending_connected p w e h = go (same p goal) (connector p) e h
    where
      go : (b : Bool) (o : Option L) → labelled 𝓖 o w.1 ≡ true → ending_by 𝓖 b o ≡ none → ⊥
      go true o e h = none_some (sym h)
      go false none e h = true_false e refl
      go false (some l) e h = none_some (sym h)

module _ {P L A B : Type 0} (𝓖 : Graph P L) (𝓟 : Policy P L A B) where
  open 𝓖 use {same, start, goal}
  open 𝓟 use {pick}

  -- ---- an outcome, read back

  pub data Ended (s : State P L A B) : Outcome (P × L) → Type 0 where
    by_found : (t : List (P × L)) → s.found ≡ some t → Ended s (Found t)
    by_wait : s.found ≡ none → (r : ℕ × Node P L A) → pick s.nodes s.book ≡ some r → Ended s Searching
    by_end : s.found ≡ none → pick s.nodes s.book ≡ none → s.dropped ≡ zero → Ended s Unreachable
    by_drop : s.found ≡ none → pick s.nodes s.book ≡ none → s.dropped ≢ zero → Ended s BudgetExceeded

  pub ended : (s : State P L A B) → Ended s (outcome 𝓖 𝓟 s)
  unfolding outcome
  ended s = go s.found (pick s.nodes s.book) s.dropped refl refl refl
    where
      go : (h : Option (List (P × L))) (o : Option (ℕ × Node P L A)) (d : ℕ) → s.found ≡ h → pick s.nodes s.book ≡ o → s.dropped ≡ d → Ended s (outcome_by 𝓖 𝓟 h o d)
      go (some t) o d p q r = by_found t p
      go none (some x) d p q r = by_wait p x q
      go none none zero p q r = by_end p q r
      go none none (suc d) p q r = by_drop p q (λ z. omega arith)

  pub found_outcome : (s : State P L A B) (t : List (P × L)) → s.found ≡ some t → outcome 𝓖 𝓟 s ≡ Found t
  unfolding outcome
  found_outcome s t e = rw (e, outcome_by)

  pub found_of : (s : State P L A B) (t : List (P × L)) → outcome 𝓖 𝓟 s ≡ Found t → s.found ≡ some t
  found_of s t e = go (subst (Ended s) e (ended s))
    where
      go : Ended s (Found t) → s.found ≡ some t
      go (by_found t e) = e

  pub end_of : (s : State P L A B) → outcome 𝓖 𝓟 s ≡ Unreachable → (s.found ≡ none) × (pick s.nodes s.book ≡ none) × (s.dropped ≡ zero)
  end_of s e = go (subst (Ended s) e (ended s))
    where
      go : Ended s Unreachable → (s.found ≡ none) × (pick s.nodes s.book ≡ none) × (s.dropped ≡ zero)
      go (by_end h p d) = (h, p, d)

  pub drop_of : (s : State P L A B) → outcome 𝓖 𝓟 s ≡ BudgetExceeded → (s.found ≡ none) × (s.dropped ≢ zero)
  drop_of s e = go (subst (Ended s) e (ended s))
    where
      go : Ended s BudgetExceeded → (s.found ≡ none) × (s.dropped ≢ zero)
      go (by_drop h p d) = (h, d)

  pub wait_of : (s : State P L A B) → outcome 𝓖 𝓟 s ≡ Searching → (s.found ≡ none) × ((r : ℕ × Node P L A) × (pick s.nodes s.book ≡ some r))
  wait_of s e = go (subst (Ended s) e (ended s))
    where
      go : Ended s Searching → (s.found ≡ none) × ((r : ℕ × Node P L A) × (pick s.nodes s.book ≡ some r))
      go (by_wait h r p) = (h, (r, p))

  -- a search is done exactly where its outcome is not Searching
  pub done_ended : (s : State P L A B) → Done 𝓖 𝓟 s → outcome 𝓖 𝓟 s ≢ Searching
  done_ended s d e = go d (subst (Ended s) e (ended s))
    where
      go : Done 𝓖 𝓟 s → Ended s Searching → ⊥
      go (at_found t h) (by_wait i r p) = none_some (sym i ∙ h)
      go (at_end h q) (by_wait i r p) = none_some (sym q ∙ p)

  pub ended_done : (s : State P L A B) → outcome 𝓖 𝓟 s ≢ Searching → Done 𝓖 𝓟 s
  ended_done s n = go (outcome 𝓖 𝓟 s) (ended s) n
    where
      go : (x : Outcome (P × L)) → Ended s x → x ≢ Searching → Done 𝓖 𝓟 s
      go x (by_found t h) n = at_found t h
      go x (by_wait h r p) n = absurd (n refl)
      go x (by_end h p d) n = at_end h p
      go x (by_drop h p d) n = at_end h p

  -- ---- routes

  pub inv_going : {b : ℕ} {s : State P L A B} → Sound 𝓖 𝓟 b s → s.found ≡ none → Inv 𝓖 𝓟 b none s
  inv_going (going h inv) e = inv
  inv_going (struck u k n rest h r l _ _ _) e = absurd (none_some (sym e ∙ h))

  pub found_route : {b : ℕ} {s : State P L A B} {t : List (P × L)} → Sound 𝓖 𝓟 b s → s.found ≡ some t → Route 𝓖 t × (length t ≤ suc b)
  found_route (going h inv) e = absurd (none_some (sym h ∙ e))
  found_route {t = t} (struck u k n rest h r l _ _ _) e = let z : u ≡ t = cc in rw (← z) (r, l)

  module _ (𝓛 : GraphLaws 𝓖) (𝓠 : PolicyLaws 𝓟) where
    -- nothing waits: every retained node is expanded
    all_expanded : {b : ℕ} {s : State P L A B} → Inv 𝓖 𝓟 b none s → pick s.nodes s.book ≡ none → (k : ℕ) (n : Node P L A) → nth s.nodes k ≡ some n → Expanded 𝓖 𝓟 s n
    all_expanded inv e k n at_k = inv.expanded k n at_k (closed_of 𝓖 𝓟 inv k n at_k (𝓠.pick_none _ _ e k n at_k)) (λ z. none_some (sym z))

    -- and nothing was dropped: a way would lead from retained point to retained point, and none of them has an ending
    module _ (b : ℕ) (s : State P L A B) (inv : Inv 𝓖 𝓟 b none s) (none_waits : pick s.nodes s.book ≡ none) (none_lost : s.dropped ≡ zero) where
      stands : (p : P) → known 𝓖 s.nodes p ≡ true → (n : Node P L A) × (same p n.point ≡ true) × Expanded 𝓖 𝓟 s n
      stands p h = let z = known_at 𝓖 s.nodes p h in (z.1, 𝓛.same_sym z.1.point p z.3, all_expanded inv none_waits z.0 z.1 z.2)

      no_way : {p : P} {ws : List (P × L)} → known 𝓖 s.nodes p ≡ true → Way 𝓖 p ws → ⊥
      no_way {p} h (arrived e) = let z = stands p h in ending_here 𝓖 z.0.point (𝓛.same_trans z.0.point p goal (𝓛.same_sym p z.0.point z.1) e) z.2.0
      no_way {p} h (connected {w = w} e g) = let z = stands p h in ending_connected 𝓖 z.0.point w (𝓛.connector_same p z.0.point w z.1 e) z.2.0
      no_way {p} h (stepped {w = w} e l) = let z = stands p h in no_way (z.2.1 none_lost w (𝓛.step_same p z.0.point w z.1 e)) l

      no_route : {t : List (P × L)} → Route 𝓖 t → ⊥
      no_route (route {w = w} e _ l) = no_way (has_map _ _ (λ p i. 𝓛.same_trans p start w.0 i e) (points s) (inv.rooted none_lost)) l

      -- and so the retained points are all that are reached
      reach_known : {p : P} → Reach 𝓖 p → known 𝓖 s.nodes p ≡ true
      reach_known (at_start_lem {p = p} e) = has_map _ _ (λ q i. 𝓛.same_trans q start p i e) (points s) (inv.rooted none_lost)
      reach_known (by_step {p = p} w r e) = let z = stands p (reach_known r) in z.2.1 none_lost w (𝓛.step_same p z.0.point w z.1 e)

    pub unreachable_route : (b : ℕ) (s : State P L A B) → Sound 𝓖 𝓟 b s → outcome 𝓖 𝓟 s ≡ Unreachable → (t : List (P × L)) → Route 𝓖 t → ⊥
    unreachable_route b s g e t r = let z = end_of s e in no_route b s (inv_going g z.0) z.1 z.2 r

    pub unreachable_cover : (b : ℕ) (s : State P L A B) → Sound 𝓖 𝓟 b s → outcome 𝓖 𝓟 s ≡ Unreachable → (p : P) → Reach 𝓖 p → known 𝓖 s.nodes p ≡ true
    unreachable_cover b s g e p r = let z = end_of s e in reach_known b s (inv_going g z.0) z.1 z.2 r

    -- ---- reached points

    reached : {b : ℕ} {s : State P L A B} → Inv 𝓖 𝓟 b none s → (k : ℕ) (n : Node P L A) → nth s.nodes k ≡ some n → Link 𝓖 𝓟 s.nodes n → Reach 𝓖 n.point
    reached inv k n e (first_link p q l) = at_start_lem q
    reached inv k n e (next_link j m p q c h) = by_step (n.point, n.label) (trail_reach 𝓖 𝓟 (inv.trails j m q c).1) h

    cover : (K : List P) (ns : List (Node P L A)) (q : P) → ((k : ℕ) (n : Node P L A) → nth ns k ≡ some n → has (λ x. same x n.point) K ≡ true) → has (λ x. same x q) K ≡ true → Covered same K (map (λ n. n.point) ns ++ (q ∷ []))
    cover K [] q h e = (e, tt)
    cover K (n ∷ ns) q h e = (h 0 n refl, cover K ns q (λ k m i. h (suc k) m i) e)

    -- a budget that was exceeded: it is full, and one more point is reached
    pub exceeded_cover : (b : ℕ) (s : State P L A B) → Sound 𝓖 𝓟 b s → outcome 𝓖 𝓟 s ≡ BudgetExceeded → (K : List P) → ((p : P) → Reach 𝓖 p → has (λ x. same x p) K ≡ true) → b < length K
    exceeded_cover b s g e K c = go (drop_of s e)
      where
        go : (s.found ≡ none) × (s.dropped ≢ zero) → b < length K
        go z =
            let inv = inv_going g z.0 in
            let o = inv.over z.1 in
            let most = pigeon same 𝓛.same_sym 𝓛.same_trans (points s ++ (o.0 ∷ [])) K (apart_snoc same (points s) o.0 inv.apart o.2) (cover K s.nodes o.0 (λ k n i. c n.point (reached inv k n i (inv.links k n i))) (c o.0 o.1)) in
            omega (arith, most, o.3, length-append (points s) (o.0 ∷ []), length-map s.nodes (λ n. n.point))

    -- ---- other budgets and other lots

    -- a node with an ending that one search retained, another that has ended retained too: so that one found a list as well
    pub found_again : (b c : ℕ) (s u : State P L A B) → (r : List P) × (points u ≡ points s ++ r) → Sound 𝓖 𝓟 b s → Sound 𝓖 𝓟 c u → Done 𝓖 𝓟 u → (t : List (P × L)) → s.found ≡ some t → (x : List (P × L)) × (u.found ≡ some x)
    found_again b c s u p g h (at_found x q) t e = (x, q)
    found_again b c s u p (going i _) h (at_end j q) t e = absurd (none_some (sym i ∙ e))
    found_again b c s u p (struck y k n rest i _ _ at_k last _) h (at_end j q) t e = absurd (none_some (sym (all_expanded (inv_going h j) q k m.0 m.1).0 ∙ ap (ending 𝓖) m.2 ∙ last))
      where
        m : (m : Node P L A) × (nth u.nodes k ≡ some m) × (m.point ≡ n.point)
        m = nth_of_map (λ x. x.point) u.nodes k n.point (rw p.1 (nth_left (points s) p.0 k n.point (nth_map (λ x. x.point) s.nodes k n at_k)))

    -- a search that is done, after however many expansions, is the whole search
    longer : (b n m : ℕ) → n ≤ m → Done 𝓖 𝓟 (run 𝓖 𝓟 b n (begin 𝓖 𝓟 b)) → run 𝓖 𝓟 b m (begin 𝓖 𝓟 b) ≡ run 𝓖 𝓟 b n (begin 𝓖 𝓟 b)
    longer b n m h r = ap (λ (i : ℕ). run 𝓖 𝓟 b i (begin 𝓖 𝓟 b)) (sum n m h) ∙ run_add 𝓖 𝓟 b n (m - n) _ ∙ done_run 𝓖 𝓟 b (m - n) _ r
      where
        sum : (n m : ℕ) → n ≤ m → m ≡ n + (m - n)
        sum n m h = omega arith

    pub done_final : (b n : ℕ) → Done 𝓖 𝓟 (run 𝓖 𝓟 b n (begin 𝓖 𝓟 b)) → run 𝓖 𝓟 b n (begin 𝓖 𝓟 b) ≡ final 𝓖 𝓟 b
    done_final b n r = ⊎_elim (λ e. sym (longer b n b (leb-true n b e) r)) (λ e. longer b b n (omega (arith, leb-false n b e)) (final_done 𝓖 𝓟 𝓛 𝓠 b)) (true_or_false (leb n b))

    pub enough_done : (b n : ℕ) → b ≤ n → Done 𝓖 𝓟 (run 𝓖 𝓟 b n (begin 𝓖 𝓟 b))
    enough_done b n h = rw (longer b b n h (final_done 𝓖 𝓟 𝓛 𝓠 b)) (final_done 𝓖 𝓟 𝓛 𝓠 b)
