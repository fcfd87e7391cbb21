-- What a call of an untouched search left, after however many expansions and in whatever lots: the state of the whole search after as many, in the rooms as they were before
-- begin, with the frontier room zeroed. By that a call is not refused, and an end is the whole search's.
use Rattle.std.specs.Prelude.{ℕ, ◌+◌, ◌*◌, ◌≤◌, ◌≡◌, refl, List, length, drop, replicate, Ok}
use Rattle.std.proofs.Common.{add-zero, arith, subst, ◌∙◌, length-append}
use Rattle.std.proofs.Math.Path.{sym, ap}
use Rattle.std.proofs.Math.Bool.{true, false}
use Rattle.std.proofs.Math.Option.{none}
use Rattle.std.proofs.Math.Dec.{ltb}
use Rattle.std.proofs.lemmas.List.{length-map, length-replicate}
use borrow.Author.Tests.{lt-ltb}
use Rattle.exploration.specs.Lists.{total}
use Rattle.exploration.specs.Graph.{Graph}
use Rattle.exploration.specs.Policy.{Node, Policy}
use Rattle.exploration.specs.Explore as explore
use Rattle.exploration.specs.Explore.{State, points, begin, run, outcome}
use Rattle.exploration.proofs.Laws.Expansions.{Sound, sound_room, ran, begin_sound}
use Rattle.exploration.proofs.Laws.Loops.{run_add}
use Rattle.world.specs.declared.Window.{Window}
use Rattle.world.specs.declared.Body.{Body}
use Rattle.world.specs.declared.Request.{Request}
use Rattle.world.specs.Space.{Space, space}
use Rattle.rooms.specs.declared.Feet.{Feet}
use Rattle.rooms.specs.declared.Label.{Label}
use Rattle.rooms.specs.declared.Counts.{Counts}
use Rattle.rooms.specs.Rooms.{Note, state_of, node_room, front_room, counts_in}
use Rattle.words.specs.Words.{feet_of}
use Rattle.steps.specs.Graph.{graph}
use Rattle.steps.specs.GraphLaws.{graph_laws}
use Rattle.visits.specs.Best.{best}
use Rattle.visits.proofs.Laws.Policy.{best_laws}
use Rattle.outcomes.specs.declared.Slice.TheVariants.{Searching}
use Rattle.outcomes.specs.Ticks.{Tick, Ticked, tick_by, front_by, ticked_by, Gives, GoesFrom}
use Rattle.outcomes.proofs.Unique.{one_tick}
use Rattle.refusals.specs.Refusals.{without_call, without_search}
use Rattle.refusals.proofs.Laws.{Passed, begins, some_budget, call_begins}
use Rattle.progress.specs.Progress.{good_progress}
use Rattle.openings.specs.Openings.{start_state, begun_search, begun_by}
use Rattle.search.specs.Ticks.{expanded, came_to, expanded_in, gone_on, continued_search}
use Rattle.search.proofs.Laws.Ticks.{went}
use Rattle.claims.specs.Words.{InF64, after}
use Rattle.tick_claims.specs.Acceptance.{untouched_accepted}
use Rattle.tick_claims.specs.Calls.{Lots, LeftByBegin, LeftByContinue, Calls, no_call, next_call}
use Rattle.tick_claims.specs.Rewritten.{node_room_length, front_room_length, front_room_past, node_room_again, front_room_again}

-- ---- answers

-- a promise of what a call left, as one
pub left_is : (h k : Ticked) → Gives h k.tick k.nodes k.front k.out → k ≡ h
left_is h k p = λ i. record { tick = one_tick k.tick h.tick p.answer i; nodes = p.node_room_lem i; front = p.front_room_lem i; out = p.output i }

-- only a state that is still searching is told as such
still_searching : (e : explore.Outcome (Feet × Label)) (d c : Counts) → tick_by e d ≡ Ok (Searching c) → (e ≡ explore.Searching) × (d ≡ c)
still_searching (explore.Found t) d c p = absurd (let z : ◌≡◌ {A = ℕ} 0 1 = cc in omega arith)
still_searching explore.Unreachable d c p = absurd (let z : ◌≡◌ {A = ℕ} 0 1 = cc in omega arith)
still_searching explore.BudgetExceeded d c p = absurd (let z : ◌≡◌ {A = ℕ} 0 1 = cc in omega arith)
still_searching explore.Searching d c p = (refl, cc)

-- ---- an untouched search

module _ (w : Window) (cells perms shapes boxes : List ℕ) (r : Request) (body : Body) (f : InF64 r) (nodes front out : List ℕ)
    (goes : without_search w cells perms shapes boxes r body (length nodes) (length front) (length out) false ≡ none) where
  abbrev sp : Space
  sp = space w cells perms shapes boxes

  abbrev 𝓖 : Graph Feet Label
  𝓖 = graph sp r body

  abbrev 𝓟 : Policy Feet Label Note ℕ
  𝓟 = best (feet_of r.goal)

  abbrev blank : List ℕ
  blank = replicate (length front) 0

  blank_length : length blank ≡ length front
  blank_length = length-replicate (length front) 0

  passed : Passed w cells shapes boxes r body (length nodes) (length front) (length out) false
  passed = begins w cells shapes boxes r body (length nodes) (length front) (length out) false perms goes

  -- ---- the states of the run

  sound : (e : ℕ) → Sound 𝓖 𝓟 r.node_budget (after sp r body e)
  sound e = (ran 𝓖 𝓟 (graph_laws sp r body) (best_laws (feet_of r.goal)) r.node_budget e (begin 𝓖 𝓟 r.node_budget) (begin_sound 𝓖 𝓟 (graph_laws sp r body) (best_laws (feet_of r.goal)) r.node_budget)).0

  retained_few : (e : ℕ) → length (after sp r body e).nodes ≤ r.node_budget
  retained_few e = sound_room 𝓖 𝓟 (sound e)

  after_add : (e n : ℕ) → after sp r body (e + n) ≡ run 𝓖 𝓟 r.node_budget n (after sp r body e)
  after_add e n = run_add 𝓖 𝓟 r.node_budget e n (begin 𝓖 𝓟 r.node_budget)

  -- nodes are only added
  retained_more : (e n : ℕ) → length (after sp r body e).nodes ≤ length (after sp r body (e + n)).nodes
  retained_more e n =
      let s = after sp r body e in
      let t = after sp r body (e + n) in
      let u = run 𝓖 𝓟 r.node_budget n s in
      let g = (ran 𝓖 𝓟 (graph_laws sp r body) (best_laws (feet_of r.goal)) r.node_budget n s (sound e)).1.more in
      let grown : length (points u) ≡ length (points s) + length g.0 = ap length g.1 ∙ length-append (points s) g.0 in
      let same : length t.nodes ≡ length u.nodes = ap (λ (x : State Feet Label Note ℕ). length x.nodes) (after_add e n) in
      omega (arith, grown, same, length-map s.nodes (λ n. n.point), length-map u.nodes (λ n. n.point))

  -- begin leaves one node, which waits
  begin_searching : came_to sp r body (after sp r body 0) ≡ explore.Searching
  unfolding came_to outcome begin best
  begin_searching = let room : ltb 0 r.node_budget ≡ true = lt-ltb 0 r.node_budget (some_budget w cells shapes boxes r body (length nodes) (length front) (length out) false perms goes) in rw room

  -- ---- what a call left after e expansions

  abbrev pub left_after : ℕ → Ticked
  left_after e = ticked_by (came_to sp r body (after sp r body e)) (after sp r body e) nodes blank out

  pub record StandsAfter (e : ℕ) (k : Ticked) : Type 0 where
    pub is : k ≡ left_after e
    pub goes_on : GoesFrom (after sp r body e) k.tick k.nodes k.front

  begin_stands : (h : Ticked) → LeftByBegin w cells perms shapes boxes r body nodes front out h → StandsAfter 0 h
  unfolding begun_search start_state
  begin_stands h p = record {
    is = left_is (begun_search w cells perms shapes boxes r body nodes front out) h p.holds
        ∙ ap (begun_by w cells perms shapes boxes r body nodes front out) goes
        ∙ ap (λ (x : explore.Outcome (Feet × Label)). ticked_by x (after sp r body 0) nodes blank out) (sym begin_searching);
    goes_on = p.goes;
  }

  module _ (e : ℕ) {h : Ticked} (stands : StandsAfter e h) {c : Counts} (on : h.tick ≡ Ok (Searching c)) where
    abbrev s : State Feet Label Note ℕ
    s = after sp r body e

    searching : (came_to sp r body s ≡ explore.Searching) × (counts_in s ≡ c)
    searching = still_searching (came_to sp r body s) (counts_in s) c (sym (ap (λ (k : Ticked). k.tick) stands.is) ∙ on)

    node_room_is : h.nodes ≡ node_room nodes s.nodes
    node_room_is = ap (λ (k : Ticked). k.nodes) stands.is

    front_room_is : h.front ≡ front_room blank s.nodes
    front_room_is = ap (λ (k : Ticked). k.front) stands.is ∙ ap (λ (x : explore.Outcome (Feet × Label)). front_by x blank s.nodes) searching.0

    output_is : h.out ≡ out
    output_is = ap (λ (k : Ticked). k.out) stands.is ∙ ap (λ (x : explore.Outcome (Feet × Label)). (ticked_by x s nodes blank out).out) searching.0

    front_length : length h.front ≡ length front
    front_length = ap length front_room_is ∙ front_room_length blank s.nodes (omega (arith, retained_few e, passed.front_room_lem, blank_length)) ∙ blank_length

    nodes_length : length h.nodes ≡ length nodes
    nodes_length = ap length node_room_is ∙ node_room_length nodes s.nodes (omega (arith, retained_few e, passed.node_room_lem))

    call_passes : none ≡ without_call w cells shapes boxes r body (length h.nodes) (length h.front) (length h.out) false
    call_passes = rw (nodes_length, front_length, output_is) (sym (call_begins w cells shapes boxes r body (length nodes) (length front) (length out) false perms goes))

    state_is : state_of h.nodes h.front c ≡ s
    state_is = subst (λ (t : Tick). GoesFrom s t h.nodes h.front) on stands.goes_on

    -- past the nodes' records the frontier room is as begin zeroed it
    zero_past : drop (24 * c.retained) h.front ≡ drop (24 * c.retained) (replicate (length h.front) 0)
    zero_past =
        let n : length s.nodes ≡ c.retained = ap (λ (d : Counts). d.retained) searching.1 in
        rw (front_length, front_room_is, ← n) (front_room_past blank s.nodes)

    module _ (n : ℕ) (one : 1 ≤ n) (most : n ≤ 4096) where
      accepted : good_progress r h.nodes h.front c n ≡ true
      unfolding came_to
      accepted = untouched_accepted w cells perms shapes boxes r body f passed.request passed.sizes passed.world e searching.0 h.nodes h.front c state_is zero_past n one most

      reached_is : expanded_in w cells perms shapes boxes r body h.nodes h.front h.out c n ≡ after sp r body (e + n)
      unfolding expanded
      reached_is = ap (run 𝓖 𝓟 r.node_budget n) state_is ∙ sym (after_add e n)

      -- what was written on what the call before it left is as if it were written on the rooms before begin
      front_again : (x : explore.Outcome (Feet × Label)) (more : List (Node Feet Label Note)) → length s.nodes ≤ length more → front_by x h.front more ≡ front_by x blank more
      front_again (explore.Found t) more l = ap (λ (m : ℕ). replicate m 0) (front_length ∙ sym blank_length)
      front_again explore.Unreachable more l = ap (λ (m : ℕ). replicate m 0) (front_length ∙ sym blank_length)
      front_again explore.BudgetExceeded more l = ap (λ (m : ℕ). replicate m 0) (front_length ∙ sym blank_length)
      front_again explore.Searching more l = ap (λ (x : List ℕ). front_room x more) front_room_is ∙ front_room_again blank s.nodes more l

      written_again : (x : explore.Outcome (Feet × Label)) (t : State Feet Label Note ℕ) → length s.nodes ≤ length t.nodes → ticked_by x t h.nodes h.front h.out ≡ ticked_by x t nodes blank out
      written_again x t l =
          let a : node_room h.nodes t.nodes ≡ node_room nodes t.nodes = ap (λ (y : List ℕ). node_room y t.nodes) node_room_is ∙ node_room_again nodes s.nodes t.nodes l in
          let b : front_by x h.front t.nodes ≡ front_by x blank t.nodes = front_again x t.nodes l in
          λ i. record { tick = tick_by x (counts_in t); nodes = a i; front = b i; out = (ticked_by x t nodes blank (output_is i)).out }

      went_on : gone_on w cells perms shapes boxes r body h.nodes h.front h.out c n ≡ left_after (e + n)
      unfolding gone_on
      went_on =
          ap (λ (t : State Feet Label Note ℕ). ticked_by (came_to sp r body t) t h.nodes h.front h.out) reached_is
          ∙ written_again (came_to sp r body (after sp r body (e + n))) (after sp r body (e + n)) (retained_more e n)

      next_stands : (k : Ticked) → LeftByContinue w cells perms shapes boxes r body h c n k → StandsAfter (e + n) k
      next_stands k p = record {
        is = left_is (continued_search w cells perms shapes boxes r body h.nodes h.front h.out c n) k p.holds
            ∙ sym (went w cells perms shapes boxes r body h.nodes h.front h.out c n call_passes accepted) ∙ went_on;
        goes_on = subst (λ (t : State Feet Label Note ℕ). GoesFrom t k.tick k.nodes k.front) reached_is p.goes;
      }

  calls_stand : (e : ℕ) {h k : Ticked} {lots : List ℕ} → StandsAfter e h → Lots lots → Calls w cells perms shapes boxes r body h lots k → StandsAfter (e + total lots) k
  calls_stand e {h = h} s l no_call = subst (λ (n : ℕ). StandsAfter n h) (sym (add-zero e)) s
  calls_stand e {k = k} s l (next_call {m = m} {lots = lots} c n on p more) =
      let z : e + n + total lots ≡ e + (n + total lots) = omega arith in
      subst (λ (n : ℕ). StandsAfter n k) z (calls_stand (e + n) (next_stands e s on n l.0 l.1 m p) l.2 more)

  -- so many expansions as the lots are together, however they are divided
  pub all_stand : {h k : Ticked} {lots : List ℕ} → LeftByBegin w cells perms shapes boxes r body nodes front out h → Lots lots → Calls w cells perms shapes boxes r body h lots k → StandsAfter (total lots) k
  all_stand {h} {k} {lots} b l p = let z : 0 + total lots ≡ total lots = omega arith in subst (λ (n : ℕ). StandsAfter n k) z (calls_stand 0 (begin_stands h b) l p)
