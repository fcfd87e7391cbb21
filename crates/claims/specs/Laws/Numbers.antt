-- The estimates that a search's frontier is ordered by are numbers, in every state that the search of a valid request comes to: the points that it keeps are
-- finite, and so no cost and no estimate is negative or a NaN.
use Rattle.std.specs.Prelude.{ℕ, ◌+◌, ◌≡◌, Bool, true, false, pos, Some}
use Rattle.std.proofs.Math.Option.{some}
use mathlib.Core.List.{[]}
use Rattle.std.specs.Float.Ieee.{binary64, is_nan, add, mul, of_bits}
use Rattle.std.specs.Float.Ieee.Fits.{add-fits}
use Rattle.std.specs.Float.Ieee.Scale.{finite}
use Rattle.exploration.specs.Lists.{nth}
use Rattle.exploration.specs.Graph.{Graph}
use Rattle.exploration.specs.Policy.{Node}
use Rattle.exploration.specs.Explore.{child, closed_node, run, begin}
use Rattle.exploration.proofs.Laws.Lists as lists
use Rattle.exploration.proofs.Laws.Kept.{Kept, run_kept}
use Rattle.floats.specs.Laws.{float_of_bits}
use Rattle.world.specs.declared.Point.{Point}
use Rattle.world.specs.declared.Body.{Body}
use Rattle.world.specs.declared.Request.{Request}
use Rattle.world.specs.Space.{Space}
use Rattle.request.specs.Request.{valid_request}
use Rattle.request.specs.Laws.{FinitePoint, valid_finite}
use Rattle.moves.specs.declared.answer.Waypoint.{Waypoint}
use Rattle.edges.specs.Edges.{edge}
use Rattle.edges.specs.Answers.{edge_feet}
use Rattle.steps.specs.Graph.{graph}
use Rattle.words.specs.Words.{point_of, feet_of}
use Rattle.rooms.specs.declared.Feet.{Feet}
use Rattle.rooms.specs.declared.Label.{Label}
use Rattle.rooms.specs.declared.Entry.{Entry}
use Rattle.rooms.specs.Scans.{estimate_of}
use Rattle.rooms.specs.Rooms.{Note}
use Rattle.costs.specs.Costs.{float, apart, cost_by, estimate_by, cheaper, lowers, lowered_by, lowered}
use Rattle.visits.specs.Best.{opened, relaxed, best}
use Rattle.visits.proofs.Laws.Policy.{best_laws, given_is}
use Rattle.claims.specs.Words.{InF64}
use Rattle.claims.specs.Laws.Edges.{target_in_range}
use Rattle.claims.specs.Laws.Fits.{F64, ToppedSpace, steps_each, worded}
use Rattle.claims.specs.Laws.Nodes.{AllOf, none_there, one_more, in_place}
use Rattle.claims.specs.Laws.InRange.{in_range_finite}
use Rattle.claims.specs.Laws.NotNegative.{NotNegative, sized, is_number, sum_not_negative, half_more_not_negative, difference_number, distance_not_negative}

-- ---- points

-- what the words of a point say is finite
record FiniteFeet (p : Feet) : Type 0 where
  pub x : finite (float p.x) ≡ true
  pub y : finite (float p.y) ≡ true
  pub z : finite (float p.z) ≡ true

feet_finite : (p : Point) → F64 p.x → F64 p.y → F64 p.z → FinitePoint p → FiniteFeet (feet_of p)
unfolding feet_of
feet_finite p x y z f = record {
  x = rw (float_of_bits p.x x) f.x;
  y = rw (float_of_bits p.y y) f.y;
  z = rw (float_of_bits p.z z) f.z;
}

-- ---- costs and estimates

-- a pattern of a number that is not negative
abbrev Weight : ℕ → Type 0
Weight n = NotNegative (float n)

none_weight : Weight 0
unfolding of_bits
none_weight = sized 0 (pos 0)

module _ (p q : Feet) (f : FiniteFeet p) (g : FiniteFeet q) where
  apart_weight : NotNegative (apart p q)
  unfolding apart
  apart_weight =
      distance_not_negative _ _ _
      (difference_number (float p.x) (float q.x) f.x g.x)
      (difference_number (float p.y) (float q.y) f.y g.y)
      (difference_number (float p.z) (float q.z) f.z g.z)

  cost_weight : (walked : ℕ) → Weight walked → Weight (cost_by walked p q)
  unfolding cost_by
  cost_weight walked w = rw (float_of_bits (add binary64 (float walked) (apart p q)) (add-fits binary64 _ _)) (sum_not_negative w apart_weight)

  -- of p, with q for the goal
  estimate_weight : (cost : ℕ) → Weight cost → Weight (estimate_by q cost p)
  unfolding estimate_by
  estimate_weight cost w =
      rw (float_of_bits (add binary64 (float cost) (mul binary64 (float 0x3ff8_0000_0000_0000) (apart p q))) (add-fits binary64 _ _))
      (sum_not_negative w (half_more_not_negative apart_weight))

lowered_weight : (b : Bool) (e : ℕ) (old : Entry) (g : ℕ) → Weight e → Weight old.estimate → Weight (lowered_by b e old g).estimate
lowered_weight true e old g w v = w
lowered_weight false e old g w v = v

-- ---- the nodes of a search

-- what holds of each node that a search keeps; where it is closed its entry is idle, with the estimate 0
record Sound (n : Node Feet Label Note) : Type 0 where
  pub point : FiniteFeet n.point
  pub cost : Weight n.note.cost
  pub estimate : Weight n.note.entry.estimate

-- and of each step that it visits
abbrev Reached : Feet × Label → Type 0
Reached w = FiniteFeet w.0

module _ (goal : Feet) (there : FiniteFeet goal) where
  relaxed_sound : (n : Note) (k : ℕ) (to p : Feet) (l : Label) (cost g : ℕ) (a : Note × ℕ) → Weight n.entry.estimate → FiniteFeet to → FiniteFeet p → Weight cost →
      relaxed goal cost to n g ≡ some a → Sound (child k p l a.0)
  unfolding relaxed lowered
  relaxed_sound n k to p l cost g a v t q w e =
      let est = estimate_by goal cost to in
      let z = given_is (cheaper cost n.cost) (opened cost (lowered est n.entry g), g + 1) a e in
      rw (← z) (record { point = q; cost = w; estimate = lowered_weight (lowers est n.entry) est n.entry g (estimate_weight to goal t there cost w) v })

  module _ (𝓖 : Graph Feet Label) (start : FiniteFeet 𝓖.start) (reached : (p : Feet) → lists.Each Reached (𝓖.steps p)) where
    kept : Kept 𝓖 (best goal) (λ c ns g. AllOf Sound ns) (λ c f. Sound f) Reached
    unfolding best
    kept = record {
      empty = none_there Sound;
      begins = one_more Sound [] _ (none_there Sound) (record { point = start; cost = none_weight; estimate = none_weight });
      steps = λ c f s. reached f.point;
      closes = λ c ns g k n i e w. let s = closed n (i k n e) in (in_place Sound ns k _ i s, s);
      retains = λ c ns g k f w s t i.
          let v = cost_weight f.point w.0 s.point t f.note.cost s.cost in
          one_more Sound ns _ i (record { point = t; cost = v; estimate = estimate_weight w.0 goal t there _ v });
      reparents = λ c ns g k f w j m a s t i e p o x.
          in_place Sound ns j _ i
          (relaxed_sound m.note k w.0 m.point w.1 _ g a (i j m e).estimate t (i j m e).point (cost_weight f.point w.0 s.point t f.note.cost s.cost) x);
    }
      where
        closed : (n : Node Feet Label Note) → Sound n → Sound (closed_node 𝓖 (best goal) n)
        closed n s = record { point = s.point; cost = s.cost; estimate = none_weight }

-- ---- the search of a valid request

-- A box's top and the request's numbers are f64s, as the tables' (`space_tops`) and every caller's are: else a pattern might not read back as its number.
module _ (sp : Space) (topped : ToppedSpace sp) (r : Request) (body : Body) (f : InF64 r) (valid : valid_request r body ≡ true) where
  step_finite : (from to : Point) → F64 to.x → F64 to.y → F64 to.z → (w : Waypoint) → edge sp r body from to ≡ Some w → FiniteFeet (feet_of w.feet)
  step_finite from to x y z w e =
      rw (edge_feet sp r body from to w e) (feet_finite to x y z (in_range_finite r body valid to (target_in_range sp r body from to w e)))

  steps_finite : (p : Feet) → lists.Each Reached ((graph sp r body).steps p)
  unfolding graph
  steps_finite p = worded Reached (steps_each sp r body topped (point_of p) (λ w. FiniteFeet (feet_of w.feet)) (step_finite (point_of p)))

  pub estimates_are_numbers : (b n : ℕ) →
      let s = run (graph sp r body) (best (feet_of r.goal)) b n (begin (graph sp r body) (best (feet_of r.goal)) b) in
      (k : ℕ) (x : Node Feet Label Note) → nth s.nodes k ≡ some x → is_nan (estimate_of x.note.entry) ≡ false
  unfolding graph
  estimates_are_numbers b n k x e =
      let v = valid_finite r body valid in
      let start = feet_finite r.start f.start_x f.start_y f.start_z v.start in
      let goal = feet_finite r.goal f.goal_x f.goal_y f.goal_z v.goal in
      is_number
      (run_kept (graph sp r body) (best (feet_of r.goal)) (λ c ns g. AllOf Sound ns) (λ c f. Sound f) Reached (best_laws (feet_of r.goal)) (kept (feet_of r.goal) goal (graph sp r body) start steps_finite) b n k x e).estimate
