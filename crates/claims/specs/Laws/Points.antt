-- Every word of a point that a search keeps is below 2^64: the point is the start, or a graph step leads to it.
use Rattle.std.specs.Prelude.{ℕ, ◌≡◌, Some}
use mathlib.Core.List.{[]}
use Rattle.exploration.specs.Graph.{Graph}
use Rattle.exploration.specs.Policy.{Node}
use Rattle.exploration.specs.Explore.{run, begin}
use Rattle.exploration.proofs.Laws.Lists as lists
use Rattle.exploration.proofs.Laws.Kept.{Kept, run_kept}
use Rattle.world.specs.declared.Point.{Point}
use Rattle.world.specs.declared.Body.{Body}
use Rattle.world.specs.declared.Request.{Request}
use Rattle.world.specs.Space.{Space}
use Rattle.moves.specs.declared.answer.Waypoint.{Waypoint}
use Rattle.edges.specs.Edges.{edge}
use Rattle.edges.specs.Answers.{edge_feet}
use Rattle.steps.specs.Graph.{graph}
use Rattle.words.specs.Words.{point_of, feet_of}
use Rattle.rooms.specs.declared.Feet.{Feet}
use Rattle.rooms.specs.declared.Label.{Label}
use Rattle.rooms.specs.Rooms.{Note}
use Rattle.visits.specs.Best.{best}
use Rattle.visits.proofs.Laws.Policy.{best_laws}
use Rattle.claims.specs.Words.{InF64}
use Rattle.claims.specs.Laws.Fits.{F64, ToppedSpace, steps_each, worded}
use Rattle.claims.specs.Laws.Below.{Point64, feet_below}
use Rattle.claims.specs.Laws.Nodes.{AllOf, none_there, one_more, in_place}

abbrev Small : Node Feet Label Note → Type 0
Small n = Point64 n.point

abbrev Reached : Feet × Label → Type 0
Reached w = Point64 w.0

module _ (𝓖 : Graph Feet Label) (goal : Feet) (start : Point64 𝓖.start) (reached : (p : Feet) → lists.Each Reached (𝓖.steps p)) where
  kept : Kept 𝓖 (best goal) (λ c ns g. AllOf Small ns) (λ c f. Unit {0}) Reached
  unfolding best
  kept = record {
    empty = none_there Small;
    begins = one_more Small [] _ (none_there Small) start;
    steps = λ c f j. reached f.point;
    closes = λ c ns g k n i e w. (in_place Small ns k _ i (i k n e), tt);
    retains = λ c ns g k f w j t i. one_more Small ns _ i t;
    reparents = λ c ns g k f w j m a _ _ i e s o x. in_place Small ns j _ i (i j m e);
  }

module _ (sp : Space) (topped : ToppedSpace sp) (r : Request) (body : Body) (f : InF64 r) where
  step_small : (from to : Point) → F64 to.x → F64 to.y → F64 to.z → (w : Waypoint) → edge sp r body from to ≡ Some w → Point64 (feet_of w.feet)
  step_small from to x y z w e = rw (edge_feet sp r body from to w e) (feet_below to x y z)

  steps_small : (p : Feet) → lists.Each Reached ((graph sp r body).steps p)
  unfolding graph
  steps_small p = worded Reached (steps_each sp r body topped (point_of p) (λ w. Point64 (feet_of w.feet)) (step_small (point_of p)))

  pub points_small : (b n : ℕ) → AllOf Small (run (graph sp r body) (best (feet_of r.goal)) b n (begin (graph sp r body) (best (feet_of r.goal)) b)).nodes
  unfolding graph
  points_small b n =
      run_kept (graph sp r body) (best (feet_of r.goal)) (λ c ns g. AllOf Small ns) (λ c f. Unit {0}) Reached (best_laws (feet_of r.goal))
      (kept (graph sp r body) (feet_of r.goal) (feet_below r.start f.start_x f.start_y f.start_z) steps_small) b n
