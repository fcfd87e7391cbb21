-- What the walk-back's reasons say of a pair of a list (`a_pair_whatever_its_label`, of `pair_fault` of pairs): of all labels, and of all bits of its points p and q, NaN and
-- zeros of either sign too.
use Rattle.std.specs.Prelude.{ℕ, ◌≡◌, Bool, true, false, ◌&&◌, cond, List, Some, Result, Ok, Err}
use Rattle.std.proofs.Math.Path.{refl}
use Rattle.std.proofs.Common.{sym, ap, ◌∙◌}
use Rattle.exploration.specs.Graph.{Graph, has_step, connects}
use Rattle.exploration.specs.WalkBack.{joined}
use Rattle.world.specs.declared.Body.{Body}
use Rattle.world.specs.declared.Request.{Request}
use Rattle.world.specs.declared.Window.{Window}
use Rattle.world.specs.Space.{Space, space}
use Rattle.moves.specs.declared.answer.Reason.{Reason}
use Rattle.moves.specs.declared.answer.Waypoint.{Waypoint}
use Rattle.edges.specs.Edges.{edge, near_goal}
use Rattle.edges.specs.Reasons.{edge_check, edge_of}
use Rattle.edges.proofs.Laws.{check_is}
use Rattle.pairs.specs.declared.PairFault.{PairFault}
use Rattle.pairs.specs.declared.PairFault.TheVariants.{NoEdge, NotAStep, WrongLabel}
use Rattle.pairs.specs.Pairs.{pair_fault_by, pair_fault}
use Rattle.rooms.specs.declared.Feet.{Feet}
use Rattle.rooms.specs.declared.Label.{Label}
use Rattle.rooms.specs.Waypoints.{same_point, alike}
use Rattle.words.specs.Words.{point_of, feet_of, label_of}
use Rattle.steps.specs.Graph.{graph}
use Rattle.arrival.specs.Areas.{Held}
use Rattle.claims.specs.Words.{InF64}
use Rattle.claims.specs.Laws.Fits.{space_tops}
use Rattle.claims.specs.Laws.OwnEdge.{like_own, stepped_to, joined_to, without_edge, by_its_edge, steps_by_own, connector_by_own, joined_by_own}

module _ (w : Window) (cells perms shapes boxes : List ℕ) (r : Request) (body : Body) (p q : Feet) where
  abbrev sp : Space
  sp = space w cells perms shapes boxes

  abbrev 𝓖 : Graph Feet Label
  𝓖 = graph sp r body

  held_goal : InF64 r → Held r.goal
  held_goal f = record { x = f.goal_x; y = f.goal_y; z = f.goal_z }

  pair_by_own : InF64 r → (last : Bool) (l : Label) → joined 𝓖 last p (q, l) ≡ (joined_to sp r body p q last && like_own sp r body p q l)
  pair_by_own f = joined_by_own sp r body p q (space_tops w cells perms shapes boxes) (held_goal f)

  module _ (own : Waypoint) (e : edge sp r body (point_of p) (point_of q) ≡ Some own) where
    -- Where no graph step leads from p to q with its own edge's label, none does with any,
    pub no_step_whatever_its_label : has_step 𝓖 p (q, label_of own) ≡ false → (l : Label) → has_step 𝓖 p (q, l) ≡ false
    no_step_whatever_its_label n l =
        by_its_edge sp r body p q (λ l. has_step 𝓖 p (q, l)) (stepped_to sp r body p q) (steps_by_own sp r body p q (space_tops w cells perms shapes boxes)) own e l
        ∙ ap (λ (b : Bool). b && alike (label_of own) l) n

    -- and so with the connector, where q is the goal. For a request of f64s, as every caller's is.
    pub no_connector_whatever_its_label : InF64 r → same_point q (feet_of r.goal) ≡ true → connects 𝓖 p (q, label_of own) ≡ false → (l : Label) → connects 𝓖 p (q, l) ≡ false
    no_connector_whatever_its_label f s n l =
        by_its_edge sp r body p q (λ l. connects 𝓖 p (q, l)) (near_goal r (point_of p)) (connector_by_own sp r body p q (held_goal f) s) own e l
        ∙ ap (λ (b : Bool). b && alike (label_of own) l) n

    -- With a label the pair is the graph's where it is with its own edge's and the label is like that.
    pair_by_edge : InF64 r → (last : Bool) (l : Label) → joined 𝓖 last p (q, l) ≡ (joined 𝓖 last p (q, label_of own) && alike (label_of own) l)
    pair_by_edge f last = by_its_edge sp r body p q (λ l. joined 𝓖 last p (q, l)) (joined_to sp r body p q last) (pair_by_own f last) own e

  -- ---- the reasons

  -- what each of a pair's reasons says: with no label is it the graph's, but for 118, where it is with exactly those that are like its own edge's
  abbrev pub Says : Bool → PairFault → Type 0
  Says last (NoEdge why) = (l : Label) → joined 𝓖 last p (q, l) ≡ false
  Says last NotAStep = (l : Label) → joined 𝓖 last p (q, l) ≡ false
  Says last WrongLabel = (own : Waypoint) × ((edge sp r body (point_of p) (point_of q) ≡ Some own) × ((l : Label) → joined 𝓖 last p (q, l) ≡ alike (label_of own) l))

  by_check : InF64 r → (last : Bool) (c : Result Waypoint Reason) → edge_check sp r body (point_of p) (point_of q) ≡ c → Says last (pair_fault_by sp r body last p q c)
  by_check f last (Err why) h =
      without_edge sp r body p q (λ l. joined 𝓖 last p (q, l)) (joined_to sp r body p q last) (pair_by_own f last) (sym (check_is sp r body (point_of p) (point_of q)) ∙ ap edge_of h)
  by_check f last (Ok own) h = go (joined 𝓖 last p (q, label_of own)) refl
    where
      passes : edge sp r body (point_of p) (point_of q) ≡ Some own
      passes = sym (check_is sp r body (point_of p) (point_of q)) ∙ ap edge_of h

      by : {b : Bool} → joined 𝓖 last p (q, label_of own) ≡ b → (l : Label) → joined 𝓖 last p (q, l) ≡ (b && alike (label_of own) l)
      by e l = pair_by_edge own passes f last l ∙ ap (λ (b : Bool). b && alike (label_of own) l) e

      go : (b : Bool) → joined 𝓖 last p (q, label_of own) ≡ b → Says last (cond b WrongLabel NotAStep)
      go true e = (own, (passes, by e))
      go false e = by e

  -- 101 to 109 and 117: no label makes the pair the graph's, so no graph step at all leads there, and at the last pair no connector; 118: a label does exactly where it
  -- is like its own edge's. For a request of f64s, as every caller's is.
  pub a_pair_whatever_its_label : InF64 r → (last : Bool) → Says last (pair_fault sp r body last p q)
  unfolding pair_fault
  a_pair_whatever_its_label f last = by_check f last (edge_check sp r body (point_of p) (point_of q)) refl
