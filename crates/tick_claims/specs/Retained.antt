-- What each node has that the search of a valid request keeps, as 12's clauses ask it (02, No. 10): a point in range, a movement of 01, marks of 0 or 1, and a cost and an
-- estimate that are finite. No distance is above 2 ^ 34, and so no cost is above as many of them as nodes were closed.
use Rattle.std.specs.Prelude.{ℕ, suc, ◌+◌, ◌*◌, ◌^◌, ◌≤◌, ◌<◌, ◌≡◌, Bool, true, false, pos, Some}
use Rattle.std.proofs.Common.{arith}
use Rattle.std.proofs.Math.Option.{some}
use mathlib.Core.List.{List, []}
use Rattle.std.specs.Float.{binary64}
use Rattle.std.specs.Float.Ieee.{add, mul, of_bits}
use Rattle.std.specs.Float.Ieee.Fits.{add-fits}
use Rattle.exploration.specs.Graph.{Graph}
use Rattle.exploration.specs.Policy.{Node}
use Rattle.exploration.specs.Explore.{child, closed_node, run, begin}
use Rattle.exploration.proofs.Laws.Lists as lists
use Rattle.exploration.proofs.Laws.Kept.{Kept, run_kept}
use Rattle.floats.specs.Laws.{float_of_bits}
use Rattle.world.specs.declared.Point.{Point}
use Rattle.world.specs.declared.Body.{Body}
use Rattle.world.specs.declared.Request.{Request}
use Rattle.world.specs.Space.{Space}
use Rattle.request.specs.Request.{valid_request, sizes_too_large}
use Rattle.places.specs.Places.{in_range}
use Rattle.moves.specs.declared.answer.Waypoint.{Waypoint}
use Rattle.edges.specs.Edges.{edge}
use Rattle.edges.specs.Answers.{edge_feet}
use Rattle.rooms.specs.declared.Feet.{Feet}
use Rattle.rooms.specs.declared.Label.{Label}
use Rattle.rooms.specs.declared.Entry.{Entry}
use Rattle.rooms.specs.Rooms.{Note}
use Rattle.words.specs.Words.{point_of, feet_of, label_of}
use Rattle.steps.specs.Graph.{graph}
use Rattle.costs.specs.Costs.{float, apart, cost_by, estimate_by, cheaper, lowers, lowered_by, lowered}
use Rattle.visits.specs.Best.{opened, relaxed, best}
use Rattle.visits.proofs.Laws.Policy.{best_laws, given_is}
use Rattle.walk_back.specs.Movements.{movement_few}
use Rattle.progress.specs.Progress.{stands_at}
use Rattle.claims.specs.Words.{InF64}
use Rattle.claims.specs.Laws.Bounds.{UpTo, of_size, up_to_more, whole_f64, sum_up_to, difference_up_to, half_more_up_to, distance_up_to}
use Rattle.claims.specs.Laws.Edges.{target_in_range}
use Rattle.claims.specs.Laws.Fits.{F64, ToppedSpace, steps_each, worded}
use Rattle.claims.specs.Laws.InRange.{UpToPoint, start_in_range, goal_up_to, in_range_up_to}
use Rattle.claims.specs.Laws.Nodes.{AllOf, none_there, one_more, in_place}

-- ---- points as words

stands_as : (p : Point) → F64 p.x → F64 p.y → F64 p.z → stands_at (feet_of p) ≡ p
unfolding feet_of
stands_as p x y z = let a = float_of_bits p.x x in let b = float_of_bits p.y y in let c = float_of_bits p.z z in rw (a, b, c)

-- ---- distances, costs and estimates

-- each coordinate is in size at most 2 ^ 32
abbrev Placed : Feet → Type 0
Placed p = UpToPoint (2 ^ 32) (stands_at p)

point_more : {n : ℕ} {p : Point} (k : ℕ) → n ≤ k → UpToPoint n p → UpToPoint k p
point_more k h u = record { x = up_to_more k h u.x; y = up_to_more k h u.y; z = up_to_more k h u.z }

apart_up_to : (p q : Feet) → Placed p → Placed q → UpTo (2 ^ 34) (apart p q)
unfolding apart
apart_up_to p q u v =
    let w = whole_f64 (2 ^ 32 + 2 ^ 32) (omega arith) in
    distance_up_to (difference_up_to (2 ^ 32) (2 ^ 32) w u.x v.x) (difference_up_to (2 ^ 32) (2 ^ 32) w u.y v.y) (difference_up_to (2 ^ 32) (2 ^ 32) w u.z v.z)

-- after so many closings, of which there are at most 4,096
abbrev CostUpTo : ℕ → ℕ → Type 0
CostUpTo c n = UpTo (c * 2 ^ 34) (float n)

cost_up_to : (c : ℕ) → c < 4096 → (walked : ℕ) (p q : Feet) → Placed p → Placed q → CostUpTo c walked → CostUpTo (suc c) (cost_by walked p q)
unfolding cost_by
cost_up_to c few walked p q u v w =
    rw (float_of_bits (add binary64 (float walked) (apart p q)) (add-fits binary64 _ _))
    (up_to_more (suc c * 2 ^ 34) (omega arith) (sum_up_to (c * 2 ^ 34) (2 ^ 34) (whole_f64 _ (omega arith)) w (apart_up_to p q u v)))

estimate_up_to : (c : ℕ) → c ≤ 4096 → (cost : ℕ) (goal p : Feet) → Placed goal → Placed p → CostUpTo c cost → CostUpTo (c + 2) (estimate_by goal cost p)
unfolding estimate_by
estimate_up_to c few cost goal p u v w =
    rw (float_of_bits (add binary64 (float cost) (mul binary64 (float 0x3ff8_0000_0000_0000) (apart p goal))) (add-fits binary64 _ _))
    (up_to_more ((c + 2) * 2 ^ 34) (omega arith)
    (sum_up_to (c * 2 ^ 34) (2 * 2 ^ 34) (whole_f64 _ (omega arith)) w (half_more_up_to (2 ^ 34) (whole_f64 _ (omega arith)) (apart_up_to p goal v u))))

none_up_to : (n : ℕ) → UpTo n (float 0)
unfolding of_bits
none_up_to n = of_size false 0 (pos 0) (omega arith)

lowered_up_to : (b : Bool) (c e : ℕ) (old : Entry) (g : ℕ) → CostUpTo c e → CostUpTo c old.estimate → CostUpTo c (lowered_by b e old g).estimate
lowered_up_to true c e old g u v = u
lowered_up_to false c e old g u v = v

lowered_waits : (b : Bool) (e : ℕ) (old : Entry) (g : ℕ) → (lowered_by b e old g).waiting ≤ 1
lowered_waits true e old g = omega arith
lowered_waits false e old g = omega arith

-- ---- nodes

-- what a node has after c closings; its closed mark is `nodes_marked` of claims
pub record Fit (r : Request) (c : ℕ) (n : Node Feet Label Note) : Type 0 where
  pub point : in_range r (stands_at n.point) ≡ true
  pub movement : n.label.movement ≤ 3
  pub waiting : n.note.entry.waiting ≤ 1
  pub cost : CostUpTo c n.note.cost
  pub estimate : CostUpTo (c + 2) n.note.entry.estimate

fit_later : {r : Request} {n : Node Feet Label Note} (c : ℕ) → Fit r c n → Fit r (suc c) n
fit_later c f = record {
  point = f.point;
  movement = f.movement;
  waiting = f.waiting;
  cost = up_to_more (suc c * 2 ^ 34) (omega arith) f.cost;
  estimate = up_to_more ((suc c + 2) * 2 ^ 34) (omega arith) f.estimate;
}

-- and each step that it visits
record Led (r : Request) (w : Feet × Label) : Type 0 where
  pub point : in_range r (stands_at w.0) ≡ true
  pub movement : w.1.movement ≤ 3

module _ (r : Request) (body : Body) (valid : valid_request r body ≡ true) (small : sizes_too_large r body ≡ false) where
  placed : (p : Feet) → in_range r (stands_at p) ≡ true → Placed p
  placed p h = point_more (2 ^ 32) (omega arith) (in_range_up_to r body valid small (stands_at p) h)

  module _ (goal : Feet) (there : Placed goal) where
    relaxed_fit : (c : ℕ) → suc c ≤ 4096 → (m : Node Feet Label Note) (k : ℕ) (w : Feet × Label) (cost g : ℕ) (a : Note × ℕ) → Fit r (suc c) m → Led r w → CostUpTo (suc c) cost →
        relaxed goal cost w.0 m.note g ≡ some a → Fit r (suc c) (child k m.point w.1 a.0)
    unfolding relaxed lowered
    relaxed_fit c few m k w cost g a s t u e =
        let est = estimate_by goal cost w.0 in
        let z = given_is (cheaper cost m.note.cost) (opened cost (lowered est m.note.entry g), g + 1) a e in
        rw (← z) (record {
          point = s.point;
          movement = t.movement;
          waiting = lowered_waits (lowers est m.note.entry) est m.note.entry g;
          cost = u;
          estimate = lowered_up_to (lowers est m.note.entry) (suc c + 2) est m.note.entry g (estimate_up_to (suc c) few cost goal w.0 there (placed w.0 t.point) u) s.estimate;
        })

    module _ (𝓖 : Graph Feet Label) (start : in_range r (stands_at 𝓖.start) ≡ true) (first : 𝓖.start_label.movement ≤ 3) (led : (p : Feet) → lists.Each (Led r) (𝓖.steps p)) where
      abbrev AllFit : ℕ → List (Node Feet Label Note) → Type 0
      AllFit c ns = c ≤ 4096 → AllOf (Fit r c) ns

      closed_fit : (c : ℕ) (n : Node Feet Label Note) → Fit r c n → Fit r c (closed_node 𝓖 (best goal) n)
      unfolding best
      closed_fit c n f = record { point = f.point; movement = f.movement; waiting = omega arith; cost = f.cost; estimate = none_up_to _ }

      kept : Kept 𝓖 (best goal) (λ c ns g. AllFit c ns) (λ c f. c < 4096 → Fit r c f) (Led r)
      unfolding best
      kept = record {
        empty = λ h. none_there (Fit r 0);
        begins = λ h. one_more (Fit r 0) [] _ (none_there (Fit r 0)) (record { point = start; movement = first; waiting = omega arith; cost = none_up_to _; estimate = none_up_to _ });
        steps = λ c f j. led f.point;
        closes = λ c ns g k n i e w. (
          λ h. let i' = i (omega arith) in in_place (Fit r (suc c)) ns k _ (λ j x q. fit_later c (i' j x q)) (fit_later c (closed_fit c n (i' k n e))),
          λ h. closed_fit c n (i (omega arith) k n e),
        );
        retains = λ c ns g k f w j t i h.
            let s = j (omega arith) in
            let u = cost_up_to c (omega arith) f.note.cost f.point w.0 (placed f.point s.point) (placed w.0 t.point) s.cost in
            one_more (Fit r (suc c)) ns _ (i h)
            (record { point = t.point; movement = t.movement; waiting = omega arith; cost = u; estimate = estimate_up_to (suc c) h _ goal w.0 there (placed w.0 t.point) u });
        reparents = λ c ns g k f w j m a q t i e p o x h.
            let s = q (omega arith) in
            let u = cost_up_to c (omega arith) f.note.cost f.point w.0 (placed f.point s.point) (placed w.0 t.point) s.cost in
            in_place (Fit r (suc c)) ns j _ (i h) (relaxed_fit c h m k w _ g a (i h j m e) t u x);
      }

-- ---- the search of a valid request that is not too large

module _ (sp : Space) (topped : ToppedSpace sp) (r : Request) (body : Body) (f : InF64 r) (valid : valid_request r body ≡ true) (small : sizes_too_large r body ≡ false) where
  step_led : (from to : Point) → F64 to.x → F64 to.y → F64 to.z → (w : Waypoint) → edge sp r body from to ≡ Some w → Led r (feet_of w.feet, label_of w)
  unfolding label_of
  step_led from to x y z w e = record {
    point = rw (edge_feet sp r body from to w e, stands_as to x y z) (target_in_range sp r body from to w e);
    movement = movement_few w.movement;
  }

  steps_led : (p : Feet) → lists.Each (Led r) ((graph sp r body).steps p)
  unfolding graph
  steps_led p = worded (Led r) (steps_each sp r body topped (point_of p) (λ w. Led r (feet_of w.feet, label_of w)) (step_led (point_of p)))

  pub nodes_fit : (b n : ℕ) → let s = run (graph sp r body) (best (feet_of r.goal)) b n (begin (graph sp r body) (best (feet_of r.goal)) b) in
      s.closings ≤ 4096 → AllOf (Fit r s.closings) s.nodes
  unfolding graph
  nodes_fit b n =
      let start = stands_as r.start f.start_x f.start_y f.start_z in
      let goal = stands_as r.goal f.goal_x f.goal_y f.goal_z in
      let there : Placed (feet_of r.goal) = rw goal (point_more (2 ^ 32) (omega arith) (goal_up_to r body valid small)) in
      run_kept (graph sp r body) (best (feet_of r.goal)) (λ c ns g. c ≤ 4096 → AllOf (Fit r c) ns) (λ c f. c < 4096 → Fit r c f) (Led r) (best_laws (feet_of r.goal))
      (kept r body valid small (feet_of r.goal) there (graph sp r body) (rw start (start_in_range r body valid)) (omega arith) steps_led) b n
