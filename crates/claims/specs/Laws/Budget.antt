-- No definition of the graph, of a valid request or of good ends reads the budget.
use Prim.Native.Nat.{ℕ}
use Rattle.std.specs.Prelude.{◌≡◌, Float}
use Rattle.std.proofs.Math.Path.{refl, sym, ap}
use Rattle.std.proofs.Common.{◌∙◌}
use mathlib.Core.List.{List, [], ◌∷◌, map}
use Rattle.regions.specs.Ranges.{gather}
use Rattle.world.specs.declared.Point.{Point}
use Rattle.world.specs.declared.Body.{Body}
use Rattle.world.specs.declared.Request.{Request}
use Rattle.world.specs.Space.{Space}
use Rattle.request.specs.Request.{valid_request, all_finite, not_negative, limit, placed}
use Rattle.heights.specs.Heights.{heights}
use Rattle.moves.specs.declared.answer.Waypoint.{Waypoint}
use Rattle.moves.specs.Moves.{step_height}
use Rattle.places.specs.Places.{in_range}
use Rattle.edges.specs.Edges.{passable, edge, connector}
use Rattle.ends.specs.Ends.{ends_good}
use Rattle.steps.specs.declared.columns.Centre.{Centre}
use Rattle.steps.specs.Columns.{centre_of, band_of, target, edges_at, column_steps, sides, column_if, steps_from}
use Rattle.words.specs.Words.{point_of, feet_of, step_of, label_if}
use Rattle.steps.specs.Graph.{graph}
use Rattle.rooms.specs.Waypoints.{standing, same_point, alike}
use Rattle.claims.specs.Words.{with_budget}
use Rattle.claims.specs.Laws.Edges.{edge_is_lem}

pub valid_budget : (b : ℕ) (r : Request) (body : Body) → valid_request (with_budget b r) body ≡ valid_request r body
unfolding valid_request all_finite not_negative limit placed
valid_budget b r body = refl

module _ (b : ℕ) (sp : Space) (r : Request) (body : Body) where
  pub ends_budget : ends_good sp (with_budget b r) body ≡ ends_good sp r body
  unfolding ends_good in_range
  ends_budget = refl

  edge_budget : (from to : Point) → edge sp (with_budget b r) body from to ≡ edge sp r body from to
  unfolding step_height passable in_range
  edge_budget from to = edge_is_lem sp (with_budget b r) body from to ∙ sym (edge_is_lem sp r body from to)

  connector_budget : (from : Point) → connector sp (with_budget b r) body from ≡ connector sp r body from
  unfolding connector
  connector_budget from = rw (edge_budget from r.goal)

  edges_budget : (from : Point) (c : Centre) (ys : List Float) → edges_at sp (with_budget b r) body from c ys ≡ edges_at sp r body from c ys
  unfolding edges_at
  edges_budget from c [] = refl
  edges_budget from c (y ∷ ys) = rw (edge_budget from (target c y), edges_budget from c ys)

  band_budget : (from : Point) → band_of (with_budget b r) body from ≡ band_of r body from
  unfolding band_of step_height
  band_budget from = refl

  column_budget : (from : Point) (n : ℕ) → column_steps sp (with_budget b r) body from n ≡ column_steps sp r body from n
  unfolding column_steps
  column_budget from n = rw (band_budget from) (edges_budget from (centre_of from n) (heights sp (band_of r body from) (centre_of from n).x (centre_of from n).z))

  sides_budget : (from : Point) → sides sp (with_budget b r) body from ≡ sides sp r body from
  unfolding sides
  sides_budget from = rw (column_budget from 1, column_budget from 2, column_budget from 3, column_budget from 4)

  looked_budget : (from : Point) (n : ℕ) → column_if sp (with_budget b r) body from n ≡ column_if sp r body from n
  unfolding column_if
  looked_budget from n = rw (sides_budget from, column_budget from n)

  steps_budget : (from : Point) → steps_from sp (with_budget b r) body from ≡ steps_from sp r body from
  unfolding steps_from
  steps_budget from = ap (λ (f : ℕ → List Waypoint). gather f 0 9) (λ i n. looked_budget from n i)

  pub graph_budget : graph sp (with_budget b r) body ≡ graph sp r body
  unfolding graph
  graph_budget i = record {
    same = same_point;
    alike = alike;
    start = feet_of r.start;
    start_label = standing;
    goal = feet_of r.goal;
    steps = λ p. map step_of (steps_budget (point_of p) i);
    connector = λ p. label_if (connector_budget (point_of p) i);
  }
