-- A graph step from one point to another has the label of the edge between the two, and so has the connector to the goal, also where the points differ in the
-- sign of a zero (`same_label` of arrival). So whether a pair of a list is the graph's comes to two tests: one of its points alone, and whether its label is like
-- that of its own edge.
use Rattle.std.specs.Prelude.{◌≡◌, Bool, ◌&&◌, ◌||◌, cond, List, map, Option, Some, None}
use Rattle.std.proofs.Math.Path.{refl, ap}
use Rattle.std.proofs.Common.{sym, ◌∙◌}
use Rattle.std.proofs.Math.Bool.{true, false, and-true, and-false, and-or_distrib_right}
use Rattle.std.proofs.Math.Option.{Option as Maybe, some}
use Rattle.exploration.specs.Lists.{has}
use Rattle.exploration.specs.Graph.{has_step, labelled, connects}
use Rattle.exploration.specs.WalkBack.{joined}
use Rattle.world.specs.declared.Point.{Point}
use Rattle.world.specs.declared.Body.{Body}
use Rattle.world.specs.declared.Request.{Request}
use Rattle.world.specs.Space.{Space}
use Rattle.moves.specs.declared.answer.Waypoint.{Waypoint}
use Rattle.edges.specs.Edges.{edge, near_goal, connector}
use Rattle.edges.specs.Answers.{edge_feet}
use Rattle.rooms.specs.declared.Feet.{Feet}
use Rattle.rooms.specs.declared.Label.{Label}
use Rattle.rooms.specs.Waypoints.{same_point, alike}
use Rattle.words.specs.Words.{point_of, feet_of, label_of, step_of, label_if}
use Rattle.steps.specs.Columns.{steps_from}
use Rattle.steps.specs.Graph.{graph}
use Rattle.steps.specs.GraphLaws.{graph_laws}
use Rattle.arrival.specs.Areas.{Held}
use Rattle.arrival.specs.Signs.{same_label}
use Rattle.claims.specs.Laws.Fits.{Each, end, more, F64, ToppedSpace, steps_each}

module _ (sp : Space) (r : Request) (body : Body) (p q : Feet) where
  -- the edge between the two, its label, and whether a label is like that
  abbrev between : Option Waypoint
  between = edge sp r body (point_of p) (point_of q)

  abbrev own : Maybe Label
  own = label_if between

  abbrev pub like_own : Label → Bool
  like_own l = labelled (graph sp r body) own l

  -- ---- a test of the pair's label that comes to one of the pair alone, j, and to whether the label is like its own edge's

  module _ (f : Label → Bool) (j : Bool) (by : (l : Label) → f l ≡ (j && like_own l)) where
    -- no edge: it holds of no label
    pub without_edge : between ≡ None → (l : Label) → f l ≡ false
    without_edge e l = by l ∙ rw e (and-false j)

    -- an edge: it holds of those that are like the edge's, or of none
    module _ (w : Waypoint) (e : between ≡ Some w) where
      like : (l : Label) → like_own l ≡ alike (label_of w) l
      unfolding graph
      like l = rw e

      of_itself : f (label_of w) ≡ j
      unfolding graph
      of_itself = by (label_of w) ∙ ap (λ (b : Bool). j && b) (like (label_of w) ∙ (graph_laws sp r body).alike_refl (label_of w)) ∙ and-true j

      pub by_its_edge : (l : Label) → f l ≡ (f (label_of w) && alike (label_of w) l)
      by_its_edge l = by l ∙ rw (of_itself, like l)

  -- ---- graph steps

  -- a step, if it leads to q, has that label
  abbrev Own : Waypoint → Type 0
  Own w = same_point (feet_of w.feet) q ≡ true → own ≡ some (label_of w)

  own_steps : ToppedSpace sp → Each Own (steps_from sp r body (point_of p))
  own_steps topped = steps_each sp r body topped (point_of p) Own each
    where
      each : (to : Point) → F64 to.x → F64 to.y → F64 to.z → (w : Waypoint) → edge sp r body (point_of p) to ≡ Some w → Own w
      each to x y z w e s =
          let turned : same_point q (feet_of w.feet) ≡ true = unfold graph in (graph_laws sp r body).same_sym (feet_of w.feet) q s in
          same_label sp r body (point_of p) q to (record { x = x; y = y; z = z }) (rw (edge_feet sp r body (point_of p) to w e) at turned) ∙ ap label_if e

  -- of a step and the others
  one_more : (b : Bool) (o : Maybe Label) (m l : Label) (here there : Bool) → (b ≡ true → o ≡ some m) → here ≡ (there && labelled (graph sp r body) o l) →
      ((b && alike m l) || here) ≡ ((b || there) && labelled (graph sp r body) o l)
  unfolding graph
  one_more true o m l here there f e = rw (e, f refl) (sym (and-or_distrib_right true there (alike m l)))
  one_more false o m l here there f e = e

  among : (l : Label) {ws : List Waypoint} → Each Own ws → has (λ v. same_point v.0 q && alike v.1 l) (map step_of ws) ≡ (has (λ v. same_point v.0 q) (map step_of ws) && like_own l)
  unfolding step_of
  among l end = refl
  among l (more {x = w} o os) = one_more (same_point (feet_of w.feet) q) own (label_of w) l _ _ o (among l os)

  -- a graph step leads there, whatever its label
  abbrev pub stepped_to : Bool
  stepped_to = has (λ v. same_point v.0 q) ((graph sp r body).steps p)

  pub steps_by_own : ToppedSpace sp → (l : Label) → has_step (graph sp r body) p (q, l) ≡ (stepped_to && like_own l)
  unfolding graph
  steps_by_own topped l = among l (own_steps topped)

  -- ---- the connector, where the later point is the goal

  where_near : (b : Bool) (a : Option Waypoint) (l : Label) → labelled (graph sp r body) (label_if (cond b a None)) l ≡ (b && labelled (graph sp r body) (label_if a) l)
  where_near true a l = refl
  where_near false a l = refl

  pub connector_by_own : Held r.goal → same_point q (feet_of r.goal) ≡ true → (l : Label) → connects (graph sp r body) p (q, l) ≡ (near_goal r (point_of p) && like_own l)
  unfolding graph connector
  connector_by_own h s l =
      where_near (near_goal r (point_of p)) (edge sp r body (point_of p) r.goal) l
      ∙ ap (λ (o : Maybe Label). near_goal r (point_of p) && labelled (graph sp r body) o l) (sym (same_label sp r body (point_of p) q r.goal h s))

  -- ---- a pair of a list: a step, or if it is the last one the connector to the goal

  at_last : (last c g n x : Bool) → (g ≡ true → c ≡ (n && x)) → (last && (c && g)) ≡ ((last && (g && n)) && x)
  at_last false c g n x h = refl
  at_last true c false n x h = and-false c
  at_last true c true n x h = and-true c ∙ h refl

  abbrev pub joined_to : Bool → Bool
  joined_to last = stepped_to || (last && (same_point q (feet_of r.goal) && near_goal r (point_of p)))

  pub joined_by_own : ToppedSpace sp → Held r.goal → (last : Bool) (l : Label) → joined (graph sp r body) last p (q, l) ≡ (joined_to last && like_own l)
  unfolding graph
  joined_by_own topped h last l =
      rw (steps_by_own topped l, at_last last (connects (graph sp r body) p (q, l)) (same_point q (feet_of r.goal)) (near_goal r (point_of p)) (like_own l) (λ s. connector_by_own h s l))
      (sym (and-or_distrib_right stepped_to (last && (same_point q (feet_of r.goal) && near_goal r (point_of p))) (like_own l)))
