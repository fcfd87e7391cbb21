-- What the end of a run makes of a search: its outcome and its list are those of the theory's final state, and the node room holds that state's nodes.
use Rattle.std.specs.Prelude.{◌≡◌, List, ◌++◌, ℕ, ◌+◌, ◌*◌, ◌≤◌, drop}
use Rattle.std.proofs.Math.Path.{refl, sym, ap}
use Rattle.std.proofs.Common.{subst, ◌∙◌, arith}
use Rattle.std.proofs.Math.Option.{none}
use Rattle.std.proofs.Math.ListN.{length}
use Rattle.exploration.specs.Graph.{Graph}
use Rattle.exploration.specs.Policy.{Policy}
use Rattle.exploration.specs.Explore as explore
use Rattle.exploration.specs.Explore.{State, run, outcome}
use Rattle.exploration.proofs.Claims.{found_is_route}
use Rattle.exploration.proofs.Laws.Lists.{none_some}
use Rattle.exploration.proofs.Laws.Expansions.{Done, at_found, at_end, final_done}
use Rattle.fields.specs.Bytes.{Bytes}
use Rattle.world.specs.declared.Body.{Body}
use Rattle.world.specs.declared.Request.{Request}
use Rattle.world.specs.declared.Window.{Window}
use Rattle.world.specs.Space.{Space, space}
use Rattle.words.specs.Words.{feet_of}
use Rattle.steps.specs.Graph.{graph}
use Rattle.steps.specs.GraphLaws.{graph_laws}
use Rattle.rooms.specs.declared.Feet.{Feet}
use Rattle.rooms.specs.declared.Label.{Label}
use Rattle.rooms.specs.declared.Counts.{Counts}
use Rattle.rooms.specs.Lists.{list_bytes, written}
use Rattle.rooms.specs.Rooms.{Note, nobody, nodes_of, state_of, node_room, counts_in}
use Rattle.rooms.proofs.Laws.Rooms.{node_room_lem}
use Rattle.visits.specs.declared.Aim.{Aim}
use Rattle.visits.specs.Best.{best}
use Rattle.visits.specs.Visits.{Ready, Started, Begun}
use Rattle.visits.proofs.Laws.Policy.{best_laws}
use Rattle.visits.proofs.Laws.Visits.{kept_trans, begun}
use Rattle.outcomes.specs.declared.Turn.{Turn}
use Rattle.outcomes.specs.declared.Turn.TheVariants.{Rest, Going, At, By}
use Rattle.outcomes.specs.declared.Answer.{Answer}
use Rattle.outcomes.specs.Outcomes.{told_by, list_in, counts_of, end_at, answer_of}
use Rattle.conclusion.specs.Laws.{written_is, Concludes}
use Rattle.search.specs.FindWalkPath.{ended, end_of, answer_by, nodes_by, out_by}
use Rattle.search.specs.Turns.{most_steps, after, Quiet}
use Rattle.search.specs.Runs.{Spun}
use Rattle.search.proofs.Laws.Ends.{aim_to, nodes_after_lem, counts_after_lem, Silent, silent_end}

-- ---- it is what the theory says of the final state

module _ (sp : Space) (r : Request) (body : Body) where
  abbrev 𝓖 : Graph Feet Label
  𝓖 = graph sp r body

  abbrev 𝓟 : Policy Feet Label Note ℕ
  𝓟 = best (feet_of r.goal)

  abbrev aim : Aim
  aim = aim_to r (feet_of r.goal)

  -- a run that is not seen to have ended has ended all the same
  going_quiet : (c : Counts) (b g : List ℕ) → state_of b g c ≡ ended sp r body → Quiet aim b g (Rest c)
  unfolding state_of ended
  going_quiet c b g e = go (subst (Done 𝓖 𝓟) (sym e) (final_done 𝓖 𝓟 (graph_laws sp r body) (best_laws (feet_of r.goal)) r.node_budget))
    where
      go : Done 𝓖 𝓟 (state_of b g c) → Quiet aim b g (Rest c)
      go (at_found t h) = absurd (none_some h)
      go (at_end h p) = p

  silent : (t : Turn) (b g : List ℕ) → Quiet aim b g t → after aim t b g ≡ ended sp r body → Silent aim b g t
  silent (Rest c) b g q e = q
  silent (Going c) b g q e = going_quiet c b g e
  silent (At c k) b g q e = tt
  silent (By c k l) b g q e = tt

  end_is : (t : Turn) (b g : List ℕ) → (counts_of t).retained ≤ nobody → 64 * (counts_of t).retained ≤ length b → Quiet aim b g t
      → after aim t b g ≡ ended sp r body → end_at b (feet_of r.goal) t ≡ end_of sp r body
  unfolding end_of
  end_is t b g small room q e = sym (silent_end sp r body t b g small room (silent t b g q e)) ∙ ap (outcome 𝓖 𝓟) e

  -- the list that is found has at most one point more than the budget
  list_room : length (list_in (end_of sp r body)) ≤ r.node_budget + 1
  unfolding end_of ended
  list_room = go (end_of sp r body) refl
    where
      go : (e : explore.Outcome (Feet × Label)) → end_of sp r body ≡ e → length (list_in e) ≤ r.node_budget + 1
      go (explore.Found t) e = omega (arith, (found_is_route 𝓖 𝓟 (graph_laws sp r body) (best_laws (feet_of r.goal)) r.node_budget t e).1)
      go explore.Unreachable e = omega arith
      go explore.BudgetExceeded e = omega arith
      go explore.Searching e = omega arith

  module _ {c : Counts} {a f a1 f1 b g : List ℕ} (t : Turn) (begun : Begun r.node_budget (feet_of r.start) c a f a1 f1)
      (spun : Spun aim sp r body c r.node_budget t a1 f1 b g) where
    state_last : after aim t b g ≡ ended sp r body
    unfolding ended graph
    state_last = spun.state ∙ ap (run 𝓖 𝓟 r.node_budget r.node_budget) (begun.state 𝓖 refl refl (feet_of r.goal))

    nodes_last : nodes_of (counts_of t).retained b g ≡ (ended sp r body).nodes
    nodes_last = sym (nodes_after_lem r (feet_of r.goal) t b g) ∙ ap (λ (s : State Feet Label Note ℕ). s.nodes) state_last

    counts_last : counts_of t ≡ counts_in (ended sp r body)
    counts_last = sym (counts_after_lem r (feet_of r.goal) t b g) ∙ ap counts_in state_last

    module _ (small : r.node_budget ≤ 4096) (room : 64 * r.node_budget ≤ length b) where
      end_last : end_at b (feet_of r.goal) t ≡ end_of sp r body
      end_last = end_is t b g (omega (arith, spun.near.few)) (omega (arith, spun.near.few)) spun.quiet state_last

      pub answer_last : answer_of (counts_of t) (end_at b (feet_of r.goal) t)
          ≡ record {
            outcome = told_by (end_of sp r body);
            count = length (list_in (end_of sp r body));
            retained = length (ended sp r body).nodes;
            closed = (ended sp r body).closings;
          }
      answer_last = let e = end_last in let c = counts_last in
          λ i. record { outcome = told_by (e i); count = length (list_in (e i)); retained = (c i).retained; closed = (c i).closed }

      pub nodes_room_last : Bytes b → b ≡ node_room a (ended sp r body).nodes
      nodes_room_last h = node_room_lem a b g (counts_of t).retained h (omega (arith, spun.near.few))
          ((kept_trans spun.near.more begun.kept spun.kept).nodes (counts_of t).retained (omega arith)) ∙ ap (node_room a) nodes_last

      pub out_last : (old : List ℕ) → 48 * (r.node_budget + 1) ≤ length old → written (list_in (end_at b (feet_of r.goal) t)) old
          ≡ list_bytes (list_in (end_of sp r body)) ++ drop (48 * length (list_in (end_of sp r body))) old
      out_last old h = ap (λ (e : explore.Outcome (Feet × Label)). written (list_in e) old) end_last
          ∙ written_is (list_in (end_of sp r body)) old (omega (arith, list_room))

-- ---- the whole search

pub record Roomy (r : Request) (a f o : List ℕ) : Type 0 where
  pub few : r.node_budget ≤ 4096
  pub node_room_lem : 64 * r.node_budget ≤ length a
  pub front_room_lem : 24 * r.node_budget ≤ length f
  pub out_room : 48 * (r.node_budget + 1) ≤ length o

module _ (r : Request) {start : Feet} {c : Counts} {a f o a1 f1 : List ℕ} (roomy : Roomy r a f o)
    (start_is : start ≡ feet_of r.start) (started : Started r.node_budget start c a f a1 f1) where
  begins : Begun r.node_budget (feet_of r.start) c a f a1 f1
  begins = begun r.node_budget (feet_of r.start) a f roomy.node_room_lem roomy.front_room_lem
      (subst (λ (p : Feet). Started r.node_budget p c a f a1 f1) start_is started)

  -- the rooms after the start are ready for as many expansions as the budget
  pub ready_spin : length a1 ≡ length a → length f1 ≡ length f → Ready a1 f1 r.node_budget ((most_steps + 1) * r.node_budget + 1) c
  ready_spin m n = let h = begins.near in record {
    node_room_lem = omega (arith, roomy.node_room_lem);
    front_room_lem = omega (arith, roomy.front_room_lem);
    numbered = omega (arith, roomy.few);
    few = h.few;
    pushes = omega (arith, roomy.few, h.pushes);
    drops = omega (arith, roomy.few, h.drops);
    closes = omega (arith, roomy.few, h.closes);
  }

  module _ (w : Window) (cells perms shapes boxes : List ℕ) (body : Body) {goal : Feet} {t : Turn} {b g p : List ℕ} {x : Answer}
      (goal_is : goal ≡ feet_of r.goal) (spun : Spun (aim_to r goal) (space w cells perms shapes boxes) r body c r.node_budget t a1 f1 b g)
      (bytes : Bytes b) (nodes_kept : length b ≡ length a) (concludes : Concludes b goal t x o p) where
    abbrev sp : Space
    sp = space w cells perms shapes boxes

    spins : Spun (aim_to r (feet_of r.goal)) sp r body c r.node_budget t a1 f1 b g
    spins = subst (λ (q : Feet). Spun (aim_to r q) sp r body c r.node_budget t a1 f1 b g) goal_is spun

    ends : Concludes b (feet_of r.goal) t x o p
    ends = subst (λ (q : Feet). Concludes b q t x o p) goal_is concludes

    pub searched : (x ≡ answer_by w cells perms shapes boxes r body none) × (b ≡ nodes_by w cells perms shapes boxes r body none a)
        × (p ≡ out_by w cells perms shapes boxes r body none o)
    searched =
        let room : 64 * r.node_budget ≤ length b = omega (arith, roomy.node_room_lem) in (
          ends.0 ∙ answer_last sp r body t begins spins roomy.few room,
          nodes_room_last sp r body t begins spins roomy.few room bytes,
          ends.1 ∙ out_last sp r body t begins spins roomy.few room o roomy.out_room,
        )
