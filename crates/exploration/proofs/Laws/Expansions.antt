-- The invariant through a whole expansion, and through any number of them; as many as the budget are enough.
use Rattle.std.specs.Prelude.{◌≡◌, Bool, not, ◌&&◌, ◌⊎◌, ◌≢◌, ℕ, zero, suc, ◌+◌, ◌≤◌, eqb, ltb, length, set}
use Rattle.std.proofs.Math.Path.{refl}
use Rattle.std.proofs.Common.{sym, ap, ◌∙◌, inl, inr, ⊎_elim, arith, length-set, eqb-true, ltb-true, ltb-false}
use Rattle.std.proofs.Math.Bool.{true, false}
use Rattle.std.proofs.Math.Option.{Option, none, some}
use mathlib.Core.List.{List, [], ◌∷◌, map, append-nil, reverse_aux}
use Rattle.std.proofs.Math.ListN.{length-reverse_aux}
use Rattle.std.proofs.lemmas.Bool.{eqb-false}
use Rattle.exploration.specs.Lists.{nth, has}
use Rattle.exploration.specs.Graph.{Graph, at_start_lem, Way, arrived, connected, stepped, Route, route, has_step, GraphLaws}
use Rattle.exploration.specs.Policy.{Node, Policy, PolicyLaws}
use Rattle.exploration.specs.Explore.{ending_by, ending, State, child, points, trace, visit, visits, closed_node, close, arrive, expand_by, advance_by, advance, run, begin, final, keep_or_drop, blank, start_node}
use Rattle.exploration.proofs.Laws.Invariant.{Link, first_link, next_link, Trail, first_trail, next_trail, Frozen, link_later, trail_later, Expanded, closed_count, Inv, Grow, grow_refl, grow_trans, grow_known, grow_of, inv_of}
use Rattle.exploration.proofs.Laws.Lists.{Each, none_some, true_false, true_or_false, or_left, or_right, or_cases, and_both, and_first, nth_snoc, nth_set, nth_set_same, nth_set_other, has_map, has_last, count_on, count_le, count_lt, map_set, map_snoc}
use Rattle.exploration.proofs.Laws.Visits.{known, Visited, kept, reparented, retained, lost, visited, at_known}

each_map : {A : Type 0} (Q R : A → Type 0) → ((x : A) → Q x → R x) → (xs : List A) → Each Q xs → Each R xs
each_map Q R f [] e = tt
each_map Q R f (x ∷ xs) e = (f x e.0, each_map Q R f xs e.1)

each_has : {A : Type 0} (r : A → A → Bool) → ((x : A) → r x x ≡ true) → (xs : List A) → Each (λ x. has (λ y. r y x) xs ≡ true) xs
each_has r h [] = tt
each_has r h (x ∷ xs) = (or_left _ _ (h x), each_map _ _ (λ y e. or_right (r x y) _ e) xs (each_has r h xs))

module _ {P L A B : Type 0} (𝓖 : Graph P L) (𝓟 : Policy P L A B) where
  open 𝓖 use {same, alike, start, start_label, goal, steps, connector}
  open 𝓟 use {waits, pick, opening, shut, admit, relax}

  trace_none : (f : ℕ) (ns : List (Node P L A)) → trace f ns none ≡ []
  trace_none zero ns = refl
  trace_none (suc f) ns = refl

  trace_is : {ns : List (Node P L A)} (f : ℕ) {k : ℕ} {n : Node P L A} {c : List (P × L)} → Trail 𝓖 𝓟 ns k n c → length c ≤ f → trace f ns (some k) ≡ c
  trace_is zero (first_trail e c p s a) h = absurd (omega arith)
  trace_is {ns} (suc f) (first_trail e c p s a) h = rw (e, p, trace_none f ns)
  trace_is zero (next_trail e c p s t) h = absurd (omega arith)
  trace_is (suc f) (next_trail e c p s t) h = rw (e, p, trace_is f t (omega arith))

  trail_is_route : {ns : List (Node P L A)} {k : ℕ} {n : Node P L A} {c t : List (P × L)} → Trail 𝓖 𝓟 ns k n c → Way 𝓖 n.point t → Route 𝓖 (reverse_aux c t)
  trail_is_route (first_trail e c p s a) l = route s a l
  trail_is_route (next_trail e c p s t) l = trail_is_route t (stepped s l)

  -- a state of a run: still searching, or found, with the node whose last edge it took
  pub data Sound (b : ℕ) (s : State P L A B) : Type 0 where
    going : s.found ≡ none → Inv 𝓖 𝓟 b none s → Sound b s
    struck : (t : List (P × L)) (k : ℕ) (n : Node P L A) (rest : List (P × L)) → s.found ≡ some t → Route 𝓖 t → length t ≤ suc b → nth s.nodes k ≡ some n → ending 𝓖 n.point ≡ some rest → Inv 𝓖 𝓟 b (some k) s → Sound b s

  pub sound_room : {b : ℕ} {s : State P L A B} → Sound b s → length s.nodes ≤ b
  sound_room (going h inv) = inv.room
  sound_room (struck t k n rest h r l e i inv) = inv.room

  pub sound_counted : {b : ℕ} {s : State P L A B} → Sound b s → s.closings ≡ closed_count 𝓖 𝓟 s.nodes
  sound_counted (going h inv) = inv.counted
  sound_counted (struck t k n rest h r l e i inv) = inv.counted

  -- nothing is left to do
  pub data Done (s : State P L A B) : Type 0 where
    at_found : (t : List (P × L)) → s.found ≡ some t → Done s
    at_end : s.found ≡ none → pick s.nodes s.book ≡ none → Done s

  abbrev pub Advanced : ℕ → State P L A B → State P L A B → Type 0
  Advanced b s t = Sound b t × Grow 𝓖 𝓟 s t × (Done s ⊎ (suc (closed_count 𝓖 𝓟 s.nodes) ≤ closed_count 𝓖 𝓟 t.nodes))

  abbrev pub Ran : ℕ → ℕ → State P L A B → State P L A B → Type 0
  Ran b n s t = Sound b t × Grow 𝓖 𝓟 s t × (Done t ⊎ (closed_count 𝓖 𝓟 s.nodes + n ≤ closed_count 𝓖 𝓟 t.nodes))

  -- a node that waits is open
  pub open_of : {b : ℕ} {s : State P L A B} {busy : Option ℕ} → Inv 𝓖 𝓟 b busy s → (k : ℕ) (n : Node P L A) → nth s.nodes k ≡ some n → waits n.note ≡ true → n.closed ≡ false
  open_of inv k n e w = go n.closed (sym w ∙ inv.waiting k n e)
    where
      go : (c : Bool) → true ≡ not c → c ≡ false
      go true q = q
      go false q = refl

  pub closed_of : {b : ℕ} {s : State P L A B} {busy : Option ℕ} → Inv 𝓖 𝓟 b busy s → (k : ℕ) (n : Node P L A) → nth s.nodes k ≡ some n → waits n.note ≡ false → n.closed ≡ true
  closed_of inv k n e w = go n.closed (sym w ∙ inv.waiting k n e)
    where
      go : (c : Bool) → false ≡ not c → c ≡ true
      go true q = refl
      go false q = q

  pub done_advance : (b : ℕ) (s : State P L A B) → Done s → advance 𝓖 𝓟 b s ≡ s
  unfolding advance
  done_advance b s (at_found t e) = ap (λ o. advance_by 𝓖 𝓟 b s o (pick s.nodes s.book)) e
  done_advance b s (at_end e p) = ap (λ o. advance_by 𝓖 𝓟 b s o (pick s.nodes s.book)) e ∙ ap (advance_by 𝓖 𝓟 b s none) p

  pub done_run : (b n : ℕ) (s : State P L A B) → Done s → run 𝓖 𝓟 b n s ≡ s
  done_run b zero s r = refl
  done_run b (suc n) s r = ap (run 𝓖 𝓟 b n) (done_advance b s r) ∙ done_run b n s r

  module _ (𝓛 : GraphLaws 𝓖) where
    ending_way : (p : P) (t : List (P × L)) → ending 𝓖 p ≡ some t → Way 𝓖 p t × (length t ≤ 1)
    unfolding ending
    ending_way p t e = go (same p goal) (connector p) refl refl e
      where
        go : (b : Bool) (o : Option L) → same p goal ≡ b → connector p ≡ o → ending_by 𝓖 b o ≡ some t → Way 𝓖 p t × (length t ≤ 1)
        go true o h i e = let z : [] ≡ t = cc in rw (← z) (arrived h, omega arith)
        go false none h i e = absurd (none_some e)
        go false (some l) h i e = let z : ((goal, l) ∷ []) ≡ t = cc in rw (← z) (connected {p = p} {w = (goal, l)} (rw i (𝓛.alike_refl l)) (𝓛.same_refl goal), omega arith)

    module _ (𝓠 : PolicyLaws 𝓟) where
      module _ (b k : ℕ) (s : State P L A B) (n : Node P L A) (inv : Inv 𝓖 𝓟 b none s) (at_k : nth s.nodes k ≡ some n) (open_k : n.closed ≡ false) where
        abbrev ms : List (Node P L A)
        ms = set s.nodes k (closed_node 𝓖 𝓟 n)

        now_k : nth ms k ≡ some (closed_node 𝓖 𝓟 n)
        now_k = nth_set_same s.nodes k _ n at_k

        close_frozen : Frozen 𝓖 𝓟 s.nodes ms
        close_frozen i m e c = nth_set_other s.nodes k _ i (λ q. let z : m.closed ≡ false = cc in true_false c z) ∙ e

        close_points : map (λ n. n.point) ms ≡ points s
        close_points = map_set _ s.nodes k _ n at_k refl

        close_count : closed_count 𝓖 𝓟 ms ≡ suc (closed_count 𝓖 𝓟 s.nodes)
        close_count = count_on _ s.nodes k _ n at_k open_k refl

        close_link : Link 𝓖 𝓟 s.nodes n → Link 𝓖 𝓟 ms (closed_node 𝓖 𝓟 n)
        close_link (first_link a b c) = first_link a b c
        close_link (next_link j m a b c d) = next_link j m a (close_frozen j m b c) c d

        close_trail : Link 𝓖 𝓟 s.nodes n → (c : List (P × L)) × Trail 𝓖 𝓟 ms k (closed_node 𝓖 𝓟 n) c × (length c ≤ closed_count 𝓖 𝓟 ms)
        close_trail (first_link a b c) = (_, first_trail now_k refl a b c, rw close_count (omega arith))
        close_trail (next_link j m a b c d) = let z = inv.trails j m b c in (_, next_trail now_k refl a d (trail_later 𝓖 𝓟 close_frozen z.1), rw close_count (omega (arith, z.2)))

        close_trails : (i : ℕ) (m : Node P L A) → ((i ≡ k) × (m ≡ closed_node 𝓖 𝓟 n)) ⊎ ((i ≢ k) × (nth s.nodes i ≡ some m)) → m.closed ≡ true → (c : List (P × L)) × Trail 𝓖 𝓟 ms i m c × (length c ≤ closed_count 𝓖 𝓟 ms)
        close_trails i m (inl h) c = rw (h.0, h.1) (close_trail (inv.links k n at_k))
        close_trails i m (inr h) c = let z = inv.trails i m h.1 c in (z.0, trail_later 𝓖 𝓟 close_frozen z.1, rw close_count (omega (arith, z.2)))

        inv_close : Inv 𝓖 𝓟 b (some k) (close 𝓖 𝓟 s k n)
        inv_close = record {
          links = λ i m e. ⊎_elim (λ h. rw h.1 (close_link (inv.links k n at_k))) (λ h. link_later 𝓖 𝓟 close_frozen (inv.links i m h.1)) (nth_set s.nodes k _ i m e);
          trails = λ i m e. close_trails i m (nth_set s.nodes k _ i m e);
          waiting = λ i m e. ⊎_elim (λ h. rw h.1 (𝓠.shut_waits n.note)) (λ h. inv.waiting i m h.1) (nth_set s.nodes k _ i m e);
          expanded = λ i m e c o. ⊎_elim (λ h. absurd (o (ap some h.0))) (λ h. let z = inv.expanded i m h.1 c (λ q. none_some (sym q)) in (z.0, λ d x y. rw close_points (z.1 d x y))) (nth_set s.nodes k _ i m e);
          counted = ap suc inv.counted ∙ sym close_count;
          apart = rw close_points inv.apart;
          rooted = λ d. rw close_points (inv.rooted d);
          room = rw length-set inv.room;
          over = λ d. let z = inv.over d in (z.0, z.1, rw close_points z.2, rw length-set z.3);
        }

        close_grow : Grow 𝓖 𝓟 s (close 𝓖 𝓟 s k n)
        close_grow = record { frozen = close_frozen; more = ([], close_points ∙ sym (append-nil _)); drops = omega arith; shuts = rw close_count (omega arith) }

      -- a step leads to a retained point, or a point was dropped; what was found stays
      visit_known : {b k : ℕ} {w : P × L} {s t : State P L A B} → Visited 𝓖 𝓟 b k s w t → t.dropped ≡ zero → known 𝓖 t.nodes w.0 ≡ true
      visit_known (kept h) d = h
      visit_known {k = k} {w = w} {s = s} (reparented j m a g e h o v) d = at_known 𝓖 (set s.nodes j (child k m.point w.1 a)) j (child k m.point w.1 a) w.0 (nth_set_same s.nodes j _ m e) h
      visit_known {k = k} {w = w} {s = s} (retained a g h r v) d = rw map_snoc (has_last (λ p. same p w.0) (points s) w.0 (𝓛.same_refl w.0))
      visit_known (lost h i) d = absurd (omega arith)

      visit_found : {b k : ℕ} {w : P × L} {s t : State P L A B} → Visited 𝓖 𝓟 b k s w t → t.found ≡ s.found
      visit_found (kept h) = refl
      visit_found (reparented j m a g e h o v) = refl
      visit_found (retained a g h r v) = refl
      visit_found (lost h i) = refl

      record After (b k : ℕ) (s : State P L A B) (ws : List (P × L)) (t : State P L A B) : Type 0 where
        grows : Grow 𝓖 𝓟 s t
        holds : Inv 𝓖 𝓟 b (some k) t
        knows : t.dropped ≡ zero → (x : P × L) → has (λ v. same v.0 x.0 && alike v.1 x.1) ws ≡ true → known 𝓖 t.nodes x.0 ≡ true
        found_same : t.found ≡ s.found

      known_same : (ns : List (Node P L A)) (p q : P) → same p q ≡ true → known 𝓖 ns p ≡ true → known 𝓖 ns q ≡ true
      known_same ns p q e h = has_map _ _ (λ x i. 𝓛.same_trans x p q i e) (map (λ n. n.point) ns) h

      module _ (b k : ℕ) (f : Node P L A) (shut_f : f.closed ≡ true) where
        after : (ws : List (P × L)) (s : State P L A B) → nth s.nodes k ≡ some f → Inv 𝓖 𝓟 b (some k) s → Each (λ w. has_step 𝓖 f.point w ≡ true) ws → After b k s ws (visits 𝓖 𝓟 b k f s ws)
        after [] s e inv h = record { grows = grow_refl 𝓖 𝓟 s; holds = inv; knows = λ d x y. absurd (true_false y refl); found_same = refl }
        after (w ∷ ws) s e inv h = go (after ws t (gr.frozen k f e shut_f) (inv_of 𝓖 𝓟 𝓛 b k f s w e shut_f h.0 (some k) inv v) h.1)
          where
            t : State P L A B
            t = visit 𝓖 𝓟 b k f s w

            v : Visited 𝓖 𝓟 b k s w t
            v = visited 𝓖 𝓟 𝓠 b k f s w

            gr : Grow 𝓖 𝓟 s t
            gr = grow_of 𝓖 𝓟 𝓛 b k f s w e shut_f h.0 v

            go : After b k t ws (visits 𝓖 𝓟 b k f t ws) → After b k s (w ∷ ws) (visits 𝓖 𝓟 b k f t ws)
            go a = record {
              grows = grow_trans 𝓖 𝓟 gr a.grows;
              holds = a.holds;
              knows = λ d x y. ⊎_elim (λ i. known_same (visits 𝓖 𝓟 b k f t ws).nodes w.0 x.0 (and_first (same w.0 x.0) (alike w.1 x.1) i) (grow_known 𝓖 𝓟 a.grows w.0 (visit_known v (omega (arith, a.grows.drops))))) (λ i. a.knows d x i) (or_cases (same w.0 x.0 && alike w.1 x.1) _ y);
              found_same = a.found_same ∙ visit_found v;
            }

      module _ (b k : ℕ) (s : State P L A B) (n : Node P L A) (inv : Inv 𝓖 𝓟 b none s) (found_same : s.found ≡ none) (at_k : nth s.nodes k ≡ some n) (open_k : n.closed ≡ false) where
        abbrev shut_s : State P L A B
        shut_s = close 𝓖 𝓟 s k n

        inv_shut : Inv 𝓖 𝓟 b (some k) shut_s
        inv_shut = inv_close b k s n inv at_k open_k

        found_sound : (t : List (P × L)) → ending 𝓖 n.point ≡ some t → Advanced b s (arrive shut_s k t)
        found_sound t e = (struck _ k (closed_node 𝓖 𝓟 n) t refl (rw tr (trail_is_route z.1 l.0)) (rw (tr, length-reverse_aux) (omega (arith, z.2, count_le (λ m. m.closed) shut_s.nodes, inv_shut.room, l.1))) (now_k b k s n inv at_k open_k) e same_inv, gr, inr (rw (close_count b k s n inv at_k open_k) (omega arith)))
          where
            z : (c : List (P × L)) × Trail 𝓖 𝓟 shut_s.nodes k (closed_node 𝓖 𝓟 n) c × (length c ≤ closed_count 𝓖 𝓟 shut_s.nodes)
            z = inv_shut.trails k (closed_node 𝓖 𝓟 n) (now_k b k s n inv at_k open_k) refl

            tr : trace (length shut_s.nodes) shut_s.nodes (some k) ≡ z.0
            tr = trace_is (length shut_s.nodes) z.1 (omega (arith, z.2, count_le (λ m. m.closed) shut_s.nodes))

            l : Way 𝓖 n.point t × (length t ≤ 1)
            l = ending_way n.point t e

            same_inv : Inv 𝓖 𝓟 b (some k) (arrive shut_s k t)
            same_inv = record { links = inv_shut.links; trails = inv_shut.trails; waiting = inv_shut.waiting; expanded = inv_shut.expanded; counted = inv_shut.counted; apart = inv_shut.apart; rooted = inv_shut.rooted; room = inv_shut.room; over = inv_shut.over }

            g : Grow 𝓖 𝓟 s shut_s
            g = close_grow b k s n inv at_k open_k

            gr : Grow 𝓖 𝓟 s (arrive shut_s k t)
            gr = record { frozen = g.frozen; more = g.more; drops = g.drops; shuts = g.shuts }

        passed : ending 𝓖 n.point ≡ none → Advanced b s (visits 𝓖 𝓟 b k (closed_node 𝓖 𝓟 n) shut_s (steps n.point))
        passed e = (going (a.found_same ∙ found_same) whole, grow_trans 𝓖 𝓟 g a.grows, inr (omega (arith, a.grows.shuts, close_count b k s n inv at_k open_k)))
          where
            g : Grow 𝓖 𝓟 s shut_s
            g = close_grow b k s n inv at_k open_k

            f : Node P L A
            f = closed_node 𝓖 𝓟 n

            t : State P L A B
            t = visits 𝓖 𝓟 b k f shut_s (steps n.point)

            a : After b k shut_s (steps n.point) t
            a = after b k f refl (steps n.point) shut_s (now_k b k s n inv at_k open_k) inv_shut (each_has (λ v w. same v.0 w.0 && alike v.1 w.1) (λ v. and_both _ _ (𝓛.same_refl v.0) (𝓛.alike_refl v.1)) (steps n.point))

            done : (i : ℕ) (m : Node P L A) → nth t.nodes i ≡ some m → m.closed ≡ true → (eqb i k ≡ true) ⊎ (eqb i k ≡ false) → Expanded 𝓖 𝓟 t m
            done i m h c (inl q) = let z : f ≡ m = cc (eqb-true i k q, a.grows.frozen k f (now_k b k s n inv at_k open_k) refl) in rw (← z) (e, a.knows)
            done i m h c (inr q) = a.holds.expanded i m h c (λ y. eqb-false i k q (cc))

            i : Inv 𝓖 𝓟 b (some k) t
            i = a.holds

            whole : Inv 𝓖 𝓟 b none t
            whole = record { links = i.links; trails = i.trails; waiting = i.waiting; expanded = λ j m h c o. done j m h c (true_or_false (eqb j k)); counted = i.counted; apart = i.apart; rooted = i.rooted; room = i.room; over = i.over }

        expanded_sound : (o : Option (List (P × L))) → ending 𝓖 n.point ≡ o → Advanced b s (expand_by 𝓖 𝓟 b s k n o)
        expanded_sound (some t) e = found_sound t e
        expanded_sound none e = passed e

      advanced_by : (b : ℕ) (s : State P L A B) (h : Option (List (P × L))) (o : Option (ℕ × Node P L A)) → s.found ≡ h → pick s.nodes s.book ≡ o → Sound b s → Advanced b s (advance_by 𝓖 𝓟 b s h o)
      advanced_by b s (some t) o e p g = (g, grow_refl 𝓖 𝓟 s, inl (at_found t e))
      advanced_by b s none none e p g = (g, grow_refl 𝓖 𝓟 s, inl (at_end e p))
      advanced_by b s none (some r) e p (going _ inv) = let q = 𝓠.pick_some _ _ r p in expanded_sound b r.0 s r.1 inv e q.0 (open_of inv r.0 r.1 q.0 q.1) (ending 𝓖 r.1.point) refl
      advanced_by b s none (some r) e p (struck t k n rest h _ _ _ _ _) = absurd (none_some (sym e ∙ h))

      pub advanced : (b : ℕ) (s : State P L A B) → Sound b s → Advanced b s (advance 𝓖 𝓟 b s)
      unfolding advance
      advanced b s g = advanced_by b s s.found (pick s.nodes s.book) refl refl g

      pub ran : (b n : ℕ) (s : State P L A B) → Sound b s → Ran b n s (run 𝓖 𝓟 b n s)
      ran b zero s g = (g, grow_refl 𝓖 𝓟 s, inr (omega arith))
      ran b (suc n) s g = go (advanced b s g) (ran b n (advance 𝓖 𝓟 b s) (advanced b s g).0)
        where
          t : State P L A B
          t = advance 𝓖 𝓟 b s

          far : Done s ⊎ (suc (closed_count 𝓖 𝓟 s.nodes) ≤ closed_count 𝓖 𝓟 t.nodes) → Done (run 𝓖 𝓟 b n t) ⊎ (closed_count 𝓖 𝓟 t.nodes + n ≤ closed_count 𝓖 𝓟 (run 𝓖 𝓟 b n t).nodes) → Done (run 𝓖 𝓟 b n t) ⊎ (closed_count 𝓖 𝓟 s.nodes + suc n ≤ closed_count 𝓖 𝓟 (run 𝓖 𝓟 b n t).nodes)
          far (inl r) d = inl (rw (done_advance b s r, done_run b n s r) r)
          far (inr p) (inl r) = inl r
          far (inr p) (inr q) = inr (omega arith)

          go : Advanced b s t → Ran b n t (run 𝓖 𝓟 b n t) → Ran b (suc n) s (run 𝓖 𝓟 b n t)
          go u r = (r.0, grow_trans 𝓖 𝓟 u.1 r.1, far u.2 r.2)

      -- as many expansions as the budget are enough
      pub full_done : (b : ℕ) (s : State P L A B) → Sound b s → b ≤ closed_count 𝓖 𝓟 s.nodes → Done s
      full_done b s (struck t k n rest h _ _ _ _ _) c = at_found t h
      full_done b s (going h inv) c = go (pick s.nodes s.book) refl
        where
          go : (o : Option (ℕ × Node P L A)) → pick s.nodes s.book ≡ o → Done s
          go none p = at_end h p
          go (some r) p = let q = 𝓠.pick_some _ _ r p in absurd (omega (arith, count_lt (λ m. m.closed) s.nodes r.0 r.1 q.0 (open_of inv r.0 r.1 q.0 q.1), inv.room))

      begun : (b : ℕ) (c : Bool) → ltb 0 b ≡ c → Sound b (keep_or_drop c (blank 𝓖 𝓟) (start_node 𝓖 𝓟) opening.1)
      begun b true e = going refl (record {
        links = λ k n h. rw (only k n h) (first_link refl (𝓛.same_refl start) (𝓛.alike_refl start_label));
        trails = λ k n h c. absurd (true_false c (ap (λ m. m.closed) (only k n h)));
        waiting = λ k n h. rw (only k n h) 𝓠.opening_waits;
        expanded = λ k n h c. absurd (true_false c (ap (λ m. m.closed) (only k n h)));
        counted = refl;
        apart = (refl, tt);
        rooted = λ d. or_left _ _ (𝓛.same_refl start);
        room = ltb-true 0 b e;
        over = λ d. absurd (d refl);
      })
        where
          only : (k : ℕ) (n : Node P L A) → nth (start_node 𝓖 𝓟 ∷ []) k ≡ some n → n ≡ start_node 𝓖 𝓟
          only k n h = ⊎_elim (λ i. absurd (none_some i)) (λ i. i.1) (nth_snoc [] (start_node 𝓖 𝓟) k n h)
      begun b false e = going refl (record {
        links = λ k n h. absurd (none_some h);
        trails = λ k n h. absurd (none_some h);
        waiting = λ k n h. absurd (none_some h);
        expanded = λ k n h. absurd (none_some h);
        counted = refl;
        apart = tt;
        rooted = λ d. absurd (omega arith);
        room = omega arith;
        over = λ d. (start, at_start_lem (𝓛.same_refl start), refl, ltb-false 0 b e);
      })

      pub begin_sound : (b : ℕ) → Sound b (begin 𝓖 𝓟 b)
      unfolding begin
      begin_sound b = begun b (ltb 0 b) refl

      -- the whole search
      pub final_sound : (b : ℕ) → Sound b (final 𝓖 𝓟 b)
      final_sound b = (ran b b (begin 𝓖 𝓟 b) (begin_sound b)).0

      pub final_done : (b : ℕ) → Done (final 𝓖 𝓟 b)
      final_done b = ⊎_elim (λ r. r) (λ c. full_done b _ (final_sound b) (omega arith)) (ran b b (begin 𝓖 𝓟 b) (begin_sound b)).2
