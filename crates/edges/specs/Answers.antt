-- What an edge's answer says: it leads to its target, by a way with that way's door, and its lift is a number where the request's jump height is.
use Rattle.std.specs.Prelude.{◌≡◌, refl, Bool, ℕ, Float, Option, Some, None}
use Rattle.std.proofs.Math.Path.{ap}
use Rattle.std.proofs.Math.Bool.{true, false, cond}
use Rattle.std.proofs.Common.{arith}
use Rattle.std.specs.Float.Ieee.{binary64, is_nan, sub}
use Rattle.world.specs.declared.Point.{Point}
use Rattle.world.specs.declared.Body.{Body}
use Rattle.world.specs.declared.Request.{Request}
use Rattle.world.specs.Space.{Space}
use Rattle.moves.specs.declared.answer.Movement.{Movement}
use Rattle.moves.specs.declared.answer.Waypoint.{Waypoint}
use Rattle.moves.specs.Moves.{moving}
use Rattle.moves.specs.Laws.{Number, moving_number}
use Rattle.edges.specs.Edges.{passable, waypoint_by, edge_by, edge}

pub nowhere_to : {A : Type 0} {w : Waypoint} → ◌≡◌ {A = Option Waypoint} None (Some w) → A
nowhere_to {A} {w} e = absurd (let z : ◌≡◌ {A = ℕ} 0 1 = cc in omega arith)

-- ---- what every way to the target has, the edge's waypoint has; so its feet are the target

module _ (sp : Space) (r : Request) (body : Body) (from to : Point) (w : Waypoint) where
  pub edge_has : (P : Waypoint → Type 0) → ((m : Movement) (l : Float) → P (waypoint_by sp body from to l m)) → edge sp r body from to ≡ Some w → P w
  unfolding edge
  edge_has P have e = by (moving r body (sub binary64 to.y from.y)) e
    where
      pick : (m : Movement) (l : Float) (b : Bool) → cond b (Some (waypoint_by sp body from to l m)) None ≡ Some w → P w
      pick m l true e = let s : waypoint_by sp body from to l m ≡ w = cc in rw (← s) (have m l)
      pick m l false e = nowhere_to e

      by : (m : Option (Movement × Float)) → edge_by sp r body from to m ≡ Some w → P w
      by None e = nowhere_to e
      by (Some (m, l)) e = pick m l (passable sp r body from to l) e

  pub edge_feet : edge sp r body from to ≡ Some w → w.feet ≡ to
  edge_feet e = edge_has (λ v. v.feet ≡ to) (λ m l. refl) e

-- ---- its lift is no NaN

module _ (r : Request) (body : Body) (jumps : is_nan r.jump_height ≡ false) where
  pub lift_number : (sp : Space) (from to : Point) (w : Waypoint) → edge sp r body from to ≡ Some w → is_nan w.lift ≡ false
  unfolding edge
  lift_number sp from to w e = by (moving r body (sub binary64 to.y from.y)) (moving_number r body jumps (sub binary64 to.y from.y)) e
    where
      pick : (m : Movement) (l : Float) → is_nan l ≡ false → (b : Bool) → cond b (Some (waypoint_by sp body from to l m)) None ≡ Some w → is_nan w.lift ≡ false
      pick m l n true e = let s : waypoint_by sp body from to l m ≡ w = cc in rw (← ap (λ (v : Waypoint). v.lift) s) n
      pick m l n false e = nowhere_to e

      by : (m : Option (Movement × Float)) → Number m → edge_by sp r body from to m ≡ Some w → is_nan w.lift ≡ false
      by None n e = nowhere_to e
      by (Some (m, l)) n e = pick m l n (passable sp r body from to l) e
