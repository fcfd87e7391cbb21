-- The four ways through an expansion, each in the theory's words.
use Rattle.std.specs.Prelude.{◌≡◌, refl, List, [], ◌∷◌, map, ℕ, ◌+◌, ◌-◌, ◌≤◌, ◌<◌, eqb, Option, Some, None}
use Rattle.std.proofs.Math.Path.{sym, ap}
use Rattle.std.proofs.Common.{◌∙◌, ⊎_elim, eq-eqb, arith}
use Rattle.std.proofs.Math.Bool.{true, false}
use Rattle.std.proofs.Math.Option.{Option as Maybe, none, some}
use Rattle.exploration.proofs.Laws.Lists.{true_false, or-false}
use Rattle.exploration.specs.Graph.{Graph}
use Rattle.exploration.specs.Policy.{Node, Policy}
use Rattle.exploration.specs.Explore.{State, arrive, close, closed_node, visits, ending, ending_by, expand_by, advance_by, advance}
use Rattle.world.specs.declared.Point.{Point}
use Rattle.world.specs.declared.Body.{Body}
use Rattle.world.specs.declared.Request.{Request}
use Rattle.world.specs.Space.{Space}
use Rattle.moves.specs.declared.answer.Waypoint.{Waypoint}
use Rattle.edges.specs.Edges.{connector}
use Rattle.steps.specs.Columns.{steps_from}
use Rattle.words.specs.Words.{point_of, feet_of, label_of, step_of, label_if}
use Rattle.steps.specs.Graph.{graph}
use Rattle.rooms.specs.declared.Feet.{Feet}
use Rattle.rooms.specs.declared.Label.{Label}
use Rattle.rooms.specs.declared.NodeRecord.{NodeRecord}
use Rattle.rooms.specs.declared.Counts.{Counts}
use Rattle.rooms.specs.Waypoints.{same_point}
use Rattle.rooms.specs.Records.{node_at, entry_at}
use Rattle.rooms.specs.Scans.{waits, first_of, busy, next_from, next_of}
use Rattle.rooms.proofs.Laws.Scans.{first_is}
use Rattle.rooms.proofs.Laws.Lists.{in_or_out}
use Rattle.scans.specs.Laws.{next_from_lem}
use Rattle.rooms.specs.Rooms.{Note, node_of, node_in, state_of}
use Rattle.rooms.proofs.Laws.Rooms.{BySamePoint, pick_none, pick_some}
use Rattle.visits.specs.declared.Aim.{Aim}
use Rattle.visits.specs.Best.{best}
use Rattle.visits.specs.declared.Closing.{Closing}
use Rattle.visits.specs.Visits.{Ready, Rested, Rests, Closed, ClosedIf}
use Rattle.visits.proofs.Laws.Visits.{kept_none, kept_trans, still_none, still_trans, rests_none, rests_trans, near_none, near_trans, near_le, is_ready}
use Rattle.outcomes.specs.declared.Turn.TheVariants.{Rest, Going, At, By}
use Rattle.visits.specs.declared.Place.{Place}
use Rattle.search.specs.Steps.{Stepped}
use Rattle.search.proofs.Laws.Steps.{ready_after}
use Rattle.search.specs.Turns.{most_steps, Bounded, Settled, Turned}

pub graph_same : (sp : Space) (r : Request) (body : Body) → BySamePoint (graph sp r body)
unfolding graph
graph_same sp r body p q = refl

-- a node that is picked is closed
pub is_closed : {aim : Aim} {k : ℕ} {c : Counts} {t : Closing} {a f b g : List ℕ} → Ready a f aim.budget (most_steps + 2) c → k < c.retained → ClosedIf aim k c t a f b g → Closed aim k c t.counts a f b g
is_closed {aim} {k} {c} {a = a} {f = f} p h v = v.done (is_ready a f aim.budget k c (ready_after p (near_none {d = 0} p.few) (omega arith) refl refl) h)

module _ (aim : Aim) (sp : Space) (r : Request) (body : Body) (c : Counts) (a f : List ℕ) where
  abbrev 𝓖 : Graph Feet Label
  𝓖 = graph sp r body

  abbrev 𝓟 : Policy Feet Label Note ℕ
  𝓟 = best aim.goal

  abbrev from_pick : Maybe (ℕ × Node Feet Label Note) → State Feet Label Note ℕ
  from_pick o = advance_by 𝓖 𝓟 aim.budget (state_of a f c) none o

  pub turned_rest : c.retained ≤ aim.budget → c.retained ≤ next_of c.retained f → Turned aim sp r body c (Rest c) a f a f
  unfolding advance state_of best
  turned_rest few h = let e = pick_none a f c.retained h in record { state = sym (ap from_pick e); kept = kept_none _ a f; still = still_none _ a; rest = rests_none _ a f; near = near_none few; quiet = e }

  module _ (goal : aim.goal ≡ feet_of r.goal) (k : ℕ) (e : k ≡ next_of c.retained f) (h : k < c.retained) where
    abbrev from : Feet
    from = (node_at a k).feet

    expanding : Maybe (List (Feet × Label)) → State Feet Label Note ℕ
    expanding o = expand_by 𝓖 𝓟 aim.budget (state_of a f c) k (node_in a f k) o

    advance_some : advance 𝓖 𝓟 aim.budget (state_of a f c) ≡ expanding (ending 𝓖 from)
    unfolding advance state_of node_of best expanding
    advance_some = ap from_pick (pick_some a f c.retained (rw (← e) h)) ∙ rw (← e)

    ending_at : same_point from aim.goal ≡ true → ending 𝓖 from ≡ some []
    unfolding ending graph
    ending_at i = let t : same_point from (feet_of r.goal) ≡ true = rw goal at i in rw t

    ending_last : same_point from aim.goal ≡ false → ending 𝓖 from ≡ ending_by 𝓖 false (label_if (connector sp r body (point_of from)))
    unfolding ending graph
    ending_last i = let t : same_point from (feet_of r.goal) ≡ false = rw goal at i in rw t

    ending_by_lem : (o : Option Waypoint) → same_point from aim.goal ≡ false → o ≡ connector sp r body (point_of from) → ending 𝓖 from ≡ ending_by 𝓖 false (label_if o)
    ending_by_lem o i j = ending_last i ∙ ap (λ (x : Option Waypoint). ending_by 𝓖 false (label_if x)) (sym j)

    graph_goal : 𝓖.goal ≡ aim.goal
    unfolding graph
    graph_goal = sym goal

    module _ {s : Counts} {b g : List ℕ} (shut : Closed aim k c s a f b g) where
      pub turned_at : same_point from aim.goal ≡ true → Turned aim sp r body c (At s k) a f b g
      unfolding expanding
      turned_at i = record {
        state = ap (λ (x : State Feet Label Note ℕ). arrive x k []) (shut.state 𝓖) ∙ sym (advance_some ∙ ap expanding (ending_at i));
        kept = shut.kept;
        still = shut.still;
        rest = shut.rest;
        near = near_le (most_steps + 1) (omega arith) shut.near;
        quiet = tt;
      }

      pub turned_by : (l : Label) (way : Waypoint) → same_point from aim.goal ≡ false → Some way ≡ connector sp r body (point_of from) → l ≡ label_of way → Turned aim sp r body c (By s k l) a f b g
      unfolding expanding
      turned_by l way i j m = record {
        state = ap (λ (x : State Feet Label Note ℕ). arrive x k ((aim.goal, l) ∷ [])) (shut.state 𝓖)
            ∙ ap (λ (x : Feet). arrive (close 𝓖 𝓟 (state_of a f c) k (node_in a f k)) k ((x, l) ∷ [])) (sym graph_goal)
            ∙ ap (λ (x : Label). arrive (close 𝓖 𝓟 (state_of a f c) k (node_in a f k)) k ((𝓖.goal, x) ∷ [])) m
            ∙ sym (advance_some ∙ ap expanding (ending_by_lem (Some way) i j));
        kept = shut.kept;
        still = shut.still;
        rest = shut.rest;
        near = near_le (most_steps + 1) (omega arith) shut.near;
        quiet = tt;
      }

      pub turned_going : (at : Place) {t : Counts} {x y : List ℕ} → Bounded sp r body → same_point from aim.goal ≡ false → None ≡ connector sp r body (point_of from) → at.number ≡ k → at.node ≡ node_at a k → at.point ≡ point_of from
          → Stepped aim at (steps_from sp r body at.point) s t b g x y → Turned aim sp r body c (Going t) a f x y
      unfolding expanding graph node_of best
      turned_going at {t} {x} {y} bound i j p q m v = record {
        state = v.state 𝓖 (graph_same sp r body) (closed_node 𝓖 𝓟 (node_in a f k)) (ap (λ (z : NodeRecord). z.feet) (sym q)) (ap (λ (z : NodeRecord). z.cost) (sym q))
            ∙ ap (λ (z : State Feet Label Note ℕ). visits 𝓖 𝓟 aim.budget at.number (closed_node 𝓖 𝓟 (node_in a f k)) z (map step_of (steps_from sp r body at.point))) (shut.state 𝓖)
            ∙ ap (λ (z : ℕ). visits 𝓖 𝓟 aim.budget z (closed_node 𝓖 𝓟 (node_in a f k)) (close 𝓖 𝓟 (state_of a f c) k (node_in a f k)) (map step_of (steps_from sp r body at.point))) p
            ∙ ap (λ (z : Point). visits 𝓖 𝓟 aim.budget k (closed_node 𝓖 𝓟 (node_in a f k)) (close 𝓖 𝓟 (state_of a f c) k (node_in a f k)) (map step_of (steps_from sp r body z))) m
            ∙ sym (advance_some ∙ ap expanding (ending_by_lem None i j));
        kept = kept_trans v.near.more shut.kept v.kept;
        still = still_trans shut.near.more shut.still v.still;
        rest = rests_trans shut.near.more shut.rest v.rest;
        near = near_le (most_steps + 1) (omega (arith, bound at.point)) (near_trans shut.near v.near);
        quiet = tt;
      }

-- ---- the nodes at rest

pub settled_none : (a f : List ℕ) → Settled a f 0
settled_none a f = record { rested = λ j h. absurd (omega arith) }

-- none of them waits: the next of all nodes is the next from `low` on
pub picked : (n : ℕ) {a f : List ℕ} {low k : ℕ} → Settled a f low → k ≡ next_from low n f → k ≡ next_of n f
picked n {f = f} {low = low} s e = e ∙ next_from_lem low n f (λ j h. (s.rested j h).idle)

at_rest : (a f : List ℕ) (j : ℕ) → busy a f j ≡ false → Rested a f j
at_rest a f j e = record { closed = λ z. true_false (eq-eqb (node_at a j).closed 0 z) o.0; idle = o.1 }
  where
    o : (eqb (node_at a j).closed 0 ≡ false) × (waits (entry_at f j) ≡ false)
    o = or-false (eqb (node_at a j).closed 0) (waits (entry_at f j)) e

-- more of them, up to the first that is not at rest
pub settled_more : {a f : List ℕ} {low r : ℕ} (n : ℕ) → Settled a f low → low ≤ n → r ≡ first_of (busy a f) low (n - low) → Settled a f r × (r ≤ n)
settled_more {a} {f} {low} {r} n s l e =
    let x = first_is (busy a f) low (n - low) in
    rw e (record { rested = λ j h. ⊎_elim (λ b. s.rested j b) (λ b. at_rest a f j (x.missed j b h)) (in_or_out j low) }, omega (arith, x.within))

pub settled_on : {a f b g : List ℕ} {low n : ℕ} → Settled a f low → low ≤ n → Rests n a f b g → Settled b g low
settled_on s l r = record { rested = λ j h. r.rests j (omega arith) (s.rested j h) }
