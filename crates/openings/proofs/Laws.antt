-- The ways out of `begin_search`, as its proof cites them; and the counts that it gives.
use Rattle.std.specs.Prelude.{◌≡◌, List, [], ◌∷◌, ℕ, ◌≤◌, length, replicate, Ok, Err}
use Rattle.std.proofs.Math.Path.{refl, ap}
use Rattle.std.proofs.Common.{sym, subst, ◌∙◌, arith, lt-ltb}
use Rattle.std.proofs.Math.Bool.{true, false}
use Rattle.std.proofs.Math.Option.{Option, none, some}
use Rattle.std.proofs.Math.Dec.{ltb}
use Rattle.std.proofs.lemmas.List.{length-replicate}
use Rattle.exploration.specs.Explore.{State, begin}
use Rattle.fields.specs.Bytes.{Bytes}
use Rattle.world.specs.declared.Body.{Body}
use Rattle.world.specs.declared.Request.{Request}
use Rattle.world.specs.declared.Window.{Window}
use Rattle.world.specs.Space.{Space, space}
use Rattle.words.specs.Words.{feet_of}
use Rattle.steps.specs.Graph.{graph}
use Rattle.rooms.specs.declared.Feet.{Feet}
use Rattle.rooms.specs.declared.Label.{Label}
use Rattle.rooms.specs.declared.Counts.{Counts}
use Rattle.rooms.specs.Rooms.{Note, nodes_of, state_of, node_room, front_room, counts_in}
use Rattle.rooms.proofs.Laws.Rooms.{node_room_lem, front_room_lem, counts_back}
use Rattle.visits.specs.Best.{best}
use Rattle.visits.specs.Visits.{Started, Begun}
use Rattle.visits.proofs.Laws.Visits.{begun as started_begun}
use Rattle.outcomes.specs.declared.Outcome.{Outcome}
use Rattle.outcomes.specs.declared.Refusal.TheVariants.{Judged}
use Rattle.outcomes.specs.declared.Slice.TheVariants.{Searching}
use Rattle.outcomes.specs.Ticks.{tick_given, Ticked, Gives}
use Rattle.refusals.specs.Refusals.{without_search}
use Rattle.refusals.proofs.Laws.{Passed, some_budget}
use Rattle.openings.specs.Openings.{start_state, begun_by, begun_search}

module _ (w : Window) (cells perms shapes boxes : List ℕ) (r : Request) (body : Body) (a f o : List ℕ) where
  abbrev way : Option Outcome
  way = without_search w cells perms shapes boxes r body (length a) (length f) (length o) false

  abbrev whole : Ticked
  whole = begun_search w cells perms shapes boxes r body a f o

  by_way : (x : Option Outcome) → x ≡ way → begun_by w cells perms shapes boxes r body a f o x ≡ whole
  unfolding begun_search
  by_way x e = ap (begun_by w cells perms shapes boxes r body a f o) e

  pub holds_refused : (p : Outcome) → some p ≡ way → Gives whole (Err (Judged p)) a f o
  holds_refused p e = subst (λ (h : Ticked). Gives h (Err (Judged p)) a f o) (by_way (some p) e) (record { answer = refl; node_room_lem = refl; front_room_lem = refl; output = refl })

  -- "retains the start": one node is retained, none is closed, one push was made and none was dropped
  pub begin_counts : way ≡ none → tick_given whole.tick ≡ (100, 0 ∷ 1 ∷ 0 ∷ 1 ∷ 0 ∷ [])
  unfolding start_state begin best tick_given
  begin_counts e =
      let room : ltb 0 r.node_budget ≡ true = lt-ltb 0 r.node_budget (some_budget w cells shapes boxes r body (length a) (length f) (length o) false perms e) in
      ap (λ (h : Ticked). tick_given h.tick) (sym (by_way none (sym e))) ∙ rw room

  module _ (passed : Passed w cells shapes boxes r body (length a) (length f) (length o) false) {c : Counts} {z b g : List ℕ} (zeroed : z ≡ replicate (length f) 0)
      (started : Started r.node_budget (feet_of r.start) c a z b g) (nodes_bytes : Bytes b) (front_bytes : Bytes g) (nodes_kept : length b ≡ length a) (front_kept : length g ≡ length z) where
    abbrev sp : Space
    sp = space w cells perms shapes boxes

    front_length : length z ≡ length f
    front_length = ap length zeroed ∙ length-replicate (length f) 0

    start : Begun r.node_budget (feet_of r.start) c a z b g
    start = started_begun r.node_budget (feet_of r.start) a z passed.node_room_lem (omega (arith, passed.front_room_lem, front_length)) started

    pub state_is : state_of b g c ≡ start_state sp r body
    unfolding start_state graph
    state_is = start.state (graph sp r body) refl refl (feet_of r.goal)

    nodes_are : nodes_of c.retained b g ≡ (start_state sp r body).nodes
    unfolding state_of
    nodes_are = ap (λ (s : State Feet Label Note ℕ). s.nodes) state_is

    few : c.retained ≤ r.node_budget
    few = start.near.few

    pub holds_begun : none ≡ way → Gives whole (Ok (Searching c)) b g o
    holds_begun e = subst (λ (h : Ticked). Gives h (Ok (Searching c)) b g o) (by_way none e) (record {
      answer = ap (λ (d : Counts). tick_given (Ok (Searching d))) (sym (counts_back b g c) ∙ ap counts_in state_is);
      node_room_lem = node_room_lem a b g c.retained nodes_bytes (omega (arith, few, passed.node_room_lem)) (start.kept.nodes c.retained (omega arith)) ∙ ap (node_room a) nodes_are;
      front_room_lem = front_room_lem z b g c.retained front_bytes (omega (arith, few, passed.front_room_lem, front_length)) (start.kept.front c.retained (omega arith)) ∙ ap (λ (x : List ℕ). front_room x (nodes_of c.retained b g)) zeroed ∙ ap (front_room (replicate (length f) 0)) nodes_are;
      output = refl;
    })
