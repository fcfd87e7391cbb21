-- The edge check and the edge are one: what passes the checks one after the other is what passes them all.
use Rattle.std.specs.Prelude.{◌≡◌, Bool, true, false, ◌&&◌, cond, Float, Option, Some, None, Ok, Err}
use Rattle.std.proofs.Math.Path.{refl}
use Rattle.std.specs.Float.Ieee.{binary64, sub}
use Rattle.world.specs.declared.Point.{Point}
use Rattle.world.specs.declared.Body.{Body}
use Rattle.world.specs.declared.Request.{Request}
use Rattle.world.specs.Space.{Space}
use Rattle.clear.specs.Clear.{clear}
use Rattle.support.specs.Support.{supported}
use Rattle.places.specs.Places.{in_range, standable}
use Rattle.moves.specs.declared.answer.Movement.{Movement}
use Rattle.moves.specs.declared.answer.Waypoint.{Waypoint}
use Rattle.moves.specs.declared.answer.Reason.TheVariants.{TargetOutOfRange, RaisedOutOfRange, TargetNotStandable, LiftBlocked, CrossingBlocked, SettleBlocked, Unsupported}
use Rattle.moves.specs.Moves.{moving}
use Rattle.ways.specs.Ways.{raised, lift_area, crossing_area, settle_area, waypoint_by, way_check}
use Rattle.edges.specs.Edges.{way_clear, passable, edge_by, edge}
use Rattle.edges.specs.Reasons.{check_by, edge_check, edge_of}

-- the seven checks, one after the other
in_order : (w : Waypoint) (a b c d e f g : Bool) →
    edge_of (cond a (cond b (cond c (cond d (cond e (cond f (cond g (Ok w) (Err Unsupported)) (Err SettleBlocked)) (Err CrossingBlocked)) (Err LiftBlocked)) (Err TargetNotStandable)) (Err RaisedOutOfRange)) (Err TargetOutOfRange))
    ≡ cond (a && b && c && (d && e && f) && g) (Some w) None
in_order w false b c d e f g = refl
in_order w true false c d e f g = refl
in_order w true true false d e f g = refl
in_order w true true true false e f g = refl
in_order w true true true true false f g = refl
in_order w true true true true true false g = refl
in_order w true true true true true true false = refl
in_order w true true true true true true true = refl

module _ (sp : Space) (r : Request) (body : Body) (from to : Point) where
  by_movement : (m : Option (Movement × Float)) → edge_of (check_by sp r body from to m) ≡ edge_by sp r body from to m
  unfolding way_check passable way_clear
  by_movement None = refl
  by_movement (Some (movement, lift)) =
      in_order (waypoint_by sp body from to lift movement) (in_range r to) (in_range r (raised from lift)) (standable sp body to) (clear sp (lift_area body from lift))
      (clear sp (crossing_area body from to lift)) (clear sp (settle_area body from to lift)) (supported sp body.width from to)

  -- the edge is what its check lets pass
  pub check_is : edge_of (edge_check sp r body from to) ≡ edge sp r body from to
  unfolding edge_check edge
  check_is = by_movement (moving r body (sub binary64 to.y from.y))
