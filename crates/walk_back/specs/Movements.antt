-- Each point of a route carries one of 01's four movements: the start a Walk, and every other one an edge's. So no route is a bad list.
use Rattle.std.specs.Prelude.{ℕ, zero, suc, ◌≤◌, ◌≡◌, Bool, true, false, ◌&&◌, ◌||◌, List, [], ◌∷◌, map, Option, Some, None}
use Rattle.std.proofs.Common.{arith, ⊎_elim, eqb-true, le-ltb, ltb-false}
use Rattle.std.proofs.Math.Path.{refl}
use Rattle.std.proofs.Math.Option.{some}
use Rattle.exploration.specs.Lists.{nth, has}
use Rattle.exploration.specs.Graph.{Way, arrived, connected, stepped, Route, route, labelled}
use Rattle.exploration.proofs.Laws.Lists.{none_some, true_false, or_cases, and_first, and_second}
use Rattle.listed.specs.Listed.{above3}
use Rattle.world.specs.declared.Body.{Body}
use Rattle.world.specs.declared.Request.{Request}
use Rattle.world.specs.Space.{Space}
use Rattle.moves.specs.declared.answer.Movement.{Movement}
use Rattle.moves.specs.declared.answer.Movement.TheVariants.{Walk, Step, Jump, Drop}
use Rattle.moves.specs.declared.answer.Waypoint.{Waypoint}
use Rattle.moves.specs.Moves.{movement_number}
use Rattle.edges.specs.Edges.{connector}
use Rattle.rooms.specs.declared.Feet.{Feet}
use Rattle.rooms.specs.declared.Label.{Label}
use Rattle.rooms.specs.Waypoints.{same_point, alike, standing}
use Rattle.words.specs.Words.{point_of, label_of, step_of, label_if}
use Rattle.steps.specs.Columns.{steps_from}
use Rattle.steps.specs.Graph.{graph}

pub movement_few : (m : Movement) → movement_number m ≤ 3
movement_few Walk = omega arith
movement_few Step = omega arith
movement_few Jump = omega arith
movement_few Drop = omega arith

-- a label like an edge's has its movement
like_an_edge : (w : Waypoint) (l : Label) → alike (label_of w) l ≡ true → l.movement ≤ 3
unfolding alike label_of
like_an_edge w l e = omega (arith, eqb-true (movement_number w.movement) l.movement (and_first _ _ e), movement_few w.movement)

like_the_start : (l : Label) → alike standing l ≡ true → l.movement ≤ 3
unfolding alike
like_the_start l e = omega (arith, eqb-true 0 l.movement (and_first _ _ e))

-- a step that is like the point and label of q
abbrev like_step : Feet × Label → Feet × Label → Bool
like_step q v = same_point v.0 q.0 && alike v.1 q.1

by_step : (ws : List Waypoint) (q : Feet × Label) → has (like_step q) (map step_of ws) ≡ true → q.1.movement ≤ 3
unfolding step_of
by_step [] q e = absurd (true_false e refl)
by_step (w ∷ ws) q e =
    ⊎_elim (λ h. like_an_edge w q.1 (and_second (same_point (step_of w).0 q.0) (alike (label_of w) q.1) h)) (λ h. by_step ws q h)
    (or_cases (like_step q (step_of w)) (has (like_step q) (map step_of ws)) e)

-- what no point of a list has, the point at a place has not
at_place : (t : List (Feet × Label)) → has above3 t ≡ false → (k : ℕ) (v : Feet × Label) → nth t k ≡ some v → above3 v ≡ false
at_place [] h k v e = absurd (none_some e)
at_place (u ∷ us) h zero v e = let z : u ≡ v = cc in rw (← z) (go (above3 u) h)
  where
    go : (b : Bool) → (b || has above3 us) ≡ false → b ≡ false
    go true h = h
    go false h = refl
at_place (u ∷ us) h (suc k) v e = at_place us (go (above3 u) h) k v e
  where
    go : (b : Bool) → (b || has above3 us) ≡ false → has above3 us ≡ false
    go true h = absurd (true_false refl h)
    go false h = h

module _ (sp : Space) (r : Request) (body : Body) where
  by_connector : (a : Option Waypoint) (l : Label) → labelled (graph sp r body) (label_if a) l ≡ true → l.movement ≤ 3
  unfolding graph
  by_connector None l e = absurd (true_false e refl)
  by_connector (Some w) l e = like_an_edge w l e

  not_above : (v : Feet × Label) → v.1.movement ≤ 3 → above3 v ≡ false
  not_above v h = le-ltb 3 v.1.movement h

  ways_named : {p : Feet} {ws : List (Feet × Label)} → Way (graph sp r body) p ws → has above3 ws ≡ false
  unfolding graph
  ways_named (arrived h) = refl
  ways_named {p} (connected {w = w} h g) = rw (not_above w (by_connector (connector sp r body (point_of p)) w.1 h))
  ways_named {p} (stepped {w = w} h l) = rw (not_above w (by_step (steps_from sp r body (point_of p)) w h)) (ways_named l)

  pub movements_named : {t : List (Feet × Label)} → Route (graph sp r body) t → has above3 t ≡ false
  unfolding graph
  movements_named (route {w = w} h a l) = rw (not_above w (like_the_start w.1 a)) (ways_named l)

  pub movement_at : {t : List (Feet × Label)} → Route (graph sp r body) t → (k : ℕ) (v : Feet × Label) → nth t k ≡ some v → v.1.movement ≤ 3
  movement_at {t} l k v e = ltb-false 3 v.1.movement (at_place t (movements_named l) k v e)
