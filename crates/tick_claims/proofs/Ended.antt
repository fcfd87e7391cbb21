-- An untouched search that has ended: it is the whole search's end, and no call goes on from it.
use Rattle.std.specs.Prelude.{ℕ, ◌+◌, ◌*◌, ◌/◌, ◌≤◌, ◌≡◌, false, ◌&&◌, List, [], ◌∷◌, ◌≢◌, drop, replicate, Ok, Err}
use Rattle.std.proofs.Common.{arith, sym, ◌∙◌, length-append, length-drop}
use Rattle.std.proofs.Math.Path.{ap}
use Rattle.std.proofs.Math.Bool.{true}
use Rattle.std.proofs.Math.Option.{none}
use Rattle.std.proofs.Math.Logic.{⊎_elim}
use Rattle.std.proofs.Math.ListN.{length}
use Rattle.std.proofs.lemmas.List.{length-replicate}
use Rattle.exploration.specs.Graph.{Graph}
use Rattle.exploration.specs.Policy.{Policy}
use Rattle.exploration.specs.Explore as explore
use Rattle.exploration.specs.Explore.{State, outcome}
use Rattle.exploration.proofs.Claims.{every_division_ends_alike}
use Rattle.exploration.proofs.Laws.Lists.{and_first, and_second, true_or_false, true_false}
use Rattle.fields.proofs.Laws.{field_zeros}
use Rattle.world.specs.declared.Window.{Window}
use Rattle.world.specs.declared.Body.{Body}
use Rattle.world.specs.declared.Request.{Request}
use Rattle.world.specs.Space.{Space, space}
use Rattle.rooms.specs.declared.Feet.{Feet}
use Rattle.rooms.specs.declared.Label.{Label}
use Rattle.rooms.specs.declared.Counts.{Counts}
use Rattle.rooms.specs.Lists.{list_bytes}
use Rattle.rooms.specs.Records.{entry_at}
use Rattle.rooms.specs.Rooms.{Note, counts_in}
use Rattle.words.specs.Words.{feet_of}
use Rattle.steps.specs.Graph.{graph}
use Rattle.steps.specs.GraphLaws.{graph_laws}
use Rattle.visits.specs.Best.{best}
use Rattle.visits.proofs.Laws.Policy.{best_laws}
use Rattle.outcomes.specs.declared.Outcome.{Outcome}
use Rattle.outcomes.specs.declared.Slice.TheVariants.{Ended}
use Rattle.outcomes.specs.declared.Refusal.TheVariants.{BadProgress}
use Rattle.outcomes.specs.Outcomes.{told_by, list_in}
use Rattle.outcomes.specs.Ticks.{Ticked, nothing_written, ticked_by}
use Rattle.refusals.specs.Refusals.{without_call, without_search}
use Rattle.refusals.proofs.Laws.{Passed, begins, call_begins}
use Rattle.chains.specs.Chains.{each_below, good_chains}
use Rattle.progress.specs.Progress.{good_counts, good_node, some_waits, good_wait, good_progress}
use Rattle.progress.specs.Laws.{waits_none}
use Rattle.search.specs.FindWalkPath.{ended, end_of, answer_by, before_search, found, nodes_by, nodes_after, zero_by, front_after, out_by, out_after}
use Rattle.search.specs.Ticks.{came_to, continued_search}
use Rattle.search.proofs.Laws.Ticks.{ended_tick, ended_front, left_bad}
use Rattle.claims.specs.Words.{InF64, after}
use Rattle.claims.specs.Laws.ReadBack.{length_list}
use Rattle.claims.specs.Laws.Search.{list_within, nodes_within, closings_within, not_searching}
use Rattle.tick_claims.specs.Calls.{LeftByContinue, RightIndex, EndsAlike}
use Rattle.tick_claims.proofs.Divided.{left_is, StandsAfter}
use Rattle.tick_claims.specs.Rewritten.{node_room_length}

-- ---- a frontier room of zeros is no progress

module _ (r : Request) (a : List ℕ) (m : ℕ) (c : Counts) (n : ℕ) where
  abbrev zeros : List ℕ
  zeros = replicate m 0

  none_waits : some_waits zeros c.retained ≡ false
  unfolding entry_at
  none_waits = waits_none zeros c.retained (λ k h e. omega (arith, e, field_zeros 8 m (24 * k + 16)))

  zeros_bad : good_progress r a zeros c n ≡ false
  unfolding good_progress
  zeros_bad = ⊎_elim (λ e. absurd (true_false (waiting e) none_waits)) (λ e. e) (true_or_false (good_progress r a zeros c n))
    where
      waiting : (good_counts r.node_budget c n
          && (each_below (good_node r a zeros) c.retained && good_chains a c.retained && some_waits zeros c.retained && each_below (good_wait a zeros c.retained) (length zeros / 24))) ≡ true →
          some_waits zeros c.retained ≡ true
      waiting e =
          let x = each_below (good_node r a zeros) c.retained && good_chains a c.retained in
          and_second x _ (and_first (x && some_waits zeros c.retained) _ (and_second (good_counts r.node_budget c n) _ e))

-- ---- the state at the end, of the theory's claim on divisions

module _ (sp : Space) (r : Request) (body : Body) (e : ℕ) where
  abbrev 𝓖 : Graph Feet Label
  𝓖 = graph sp r body

  abbrev 𝓟 : Policy Feet Label Note ℕ
  𝓟 = best (feet_of r.goal)

  -- as many expansions as the budget end a search
  pub budget_ends : r.node_budget ≤ e → came_to sp r body (after sp r body e) ≢ explore.Searching
  unfolding came_to
  budget_ends h = (every_division_ends_alike 𝓖 𝓟 (graph_laws sp r body) (best_laws (feet_of r.goal)) r.node_budget (e ∷ [])).0 (omega arith)

  ended_after : came_to sp r body (after sp r body e) ≢ explore.Searching → after sp r body e ≡ ended sp r body
  unfolding came_to ended
  ended_after = (every_division_ends_alike 𝓖 𝓟 (graph_laws sp r body) (best_laws (feet_of r.goal)) r.node_budget (e ∷ [])).1

-- ---- the end of an untouched search

module _ (w : Window) (cells perms shapes boxes : List ℕ) (r : Request) (body : Body) (f : InF64 r) (nodes front out : List ℕ)
    (goes : without_search w cells perms shapes boxes r body (length nodes) (length front) (length out) false ≡ none) where
  abbrev sp : Space
  sp = space w cells perms shapes boxes

  passed : Passed w cells shapes boxes r body (length nodes) (length front) (length out) false
  passed = begins w cells shapes boxes r body (length nodes) (length front) (length out) false perms goes

  -- with an index of a right size the whole search begins too
  whole_begins : (index : List ℕ) → RightIndex r index → none ≡ before_search w cells perms shapes boxes r body (length nodes) (length front) (length index) (length out)
  whole_begins index i = sym (ap (without_search w cells perms shapes boxes r body (length nodes) (length front) (length out)) i ∙ goes)

  -- what it leaves, and answers
  abbrev whole_left : Ticked
  whole_left = ticked_by (end_of sp r body) (ended sp r body) nodes (replicate (length front) 0) out

  module _ (e : ℕ) {k : Ticked} (stands : StandsAfter w cells perms shapes boxes r body f nodes front out goes e k) (over : came_to sp r body (after sp r body e) ≢ explore.Searching) where
    left_is_whole : k ≡ whole_left
    unfolding came_to end_of
    left_is_whole = stands.is ∙ ap (λ (s : State Feet Label Note ℕ). ticked_by (came_to sp r body s) s nodes (replicate (length front) 0) out) (ended_after sp r body e over)

    all_zero : k.front ≡ replicate (length front) 0
    all_zero =
        ap (λ (h : Ticked). h.front) left_is_whole ∙ ended_front (end_of sp r body) (replicate (length front) 0) (ended sp r body).nodes (not_searching sp r body)
        ∙ ap (λ (n : ℕ). replicate n 0) (length-replicate {A = ℕ} (length front) 0)

    pub ends_alike : EndsAlike w cells perms shapes boxes r body nodes front out k
    unfolding found nodes_after front_after out_after
    ends_alike = record {
      outcome = told_by (end_of sp r body);
      count = length (list_in (end_of sp r body));
      counts = counts_in (ended sp r body);
      ended = ap (λ (h : Ticked). h.tick) left_is_whole ∙ ended_tick (end_of sp r body) (counts_in (ended sp r body)) (not_searching sp r body);
      answer = λ index i. ap (answer_by w cells perms shapes boxes r body) (whole_begins index i);
      output = λ index i. ap (λ (h : Ticked). h.out) left_is_whole ∙ ap (λ x. out_by w cells perms shapes boxes r body x out) (whole_begins index i);
      node_room_lem = λ index i. ap (λ (h : Ticked). h.nodes) left_is_whole ∙ ap (λ x. nodes_by w cells perms shapes boxes r body x nodes) (whole_begins index i);
      zeroed = all_zero;
      front_room_lem = λ index i. all_zero ∙ ap (λ x. zero_by w cells perms shapes boxes r body x front) (whole_begins index i);
    }

    pub closed_few : (o : Outcome) (n : ℕ) (c : Counts) → k.tick ≡ Ok (Ended o n c) → c.closed ≤ r.node_budget
    closed_few o n c p =
        let told = sym p ∙ ap (λ (h : Ticked). h.tick) left_is_whole ∙ ended_tick (end_of sp r body) (counts_in (ended sp r body)) (not_searching sp r body) in
        let closed : c.closed ≡ (ended sp r body).closings = cc in
        omega (arith, closed, closings_within sp r body, nodes_within sp r body)

    -- ---- a call more

    nodes_length : length k.nodes ≡ length nodes
    nodes_length = ap (λ (h : Ticked). length h.nodes) left_is_whole ∙ node_room_length nodes (ended sp r body).nodes (omega (arith, nodes_within sp r body, passed.node_room_lem))

    front_length : length k.front ≡ length front
    front_length = ap length all_zero ∙ length-replicate {A = ℕ} (length front) 0

    out_length : length k.out ≡ length out
    out_length =
        let t = list_in (end_of sp r body) in
        ap (λ (h : Ticked). length h.out) left_is_whole ∙ omega (arith, length-append (list_bytes t) (drop (48 * length t) out), length_list t, length-drop (48 * length t) out, list_within sp r body, passed.out_room)

    pub refused_after : (c : Counts) (n : ℕ) (m : Ticked) → LeftByContinue w cells perms shapes boxes r body k c n m → m ≡ nothing_written (Err BadProgress) k.nodes k.front k.out
    refused_after c n m p =
        let whole = continued_search w cells perms shapes boxes r body k.nodes k.front k.out c n in
        let passes : none ≡ without_call w cells shapes boxes r body (length k.nodes) (length k.front) (length k.out) false =
        rw (nodes_length, front_length, out_length) (sym (call_begins w cells shapes boxes r body (length nodes) (length front) (length out) false perms goes)) in
        let bad : good_progress r k.nodes k.front c n ≡ false = ap (λ (x : List ℕ). good_progress r k.nodes x c n) all_zero ∙ zeros_bad r k.nodes (length front) c n in
        left_is whole m p.holds ∙ sym (left_is whole (nothing_written (Err BadProgress) k.nodes k.front k.out) (left_bad w cells perms shapes boxes r body k.nodes k.front k.out c n passes bad))
