-- What the code goes by: what the check of a way comes to, at the first of its tests that fails.
use Rattle.std.specs.Prelude.{◌≡◌, true, false, Float, Ok, Err}
use Rattle.world.specs.declared.Point.{Point}
use Rattle.world.specs.declared.Body.{Body}
use Rattle.world.specs.declared.Request.{Request}
use Rattle.world.specs.Space.{Space}
use Rattle.clear.specs.Clear.{clear}
use Rattle.support.specs.Support.{supported}
use Rattle.places.specs.Places.{in_range, standable}
use Rattle.moves.specs.declared.answer.Movement.{Movement}
use Rattle.moves.specs.declared.answer.Reason.TheVariants.{TargetOutOfRange, RaisedOutOfRange, TargetNotStandable, LiftBlocked, CrossingBlocked, SettleBlocked, Unsupported}
use Rattle.ways.specs.Ways.{raised, lift_area, crossing_area, settle_area, waypoint_by, way_check}

module _ (sp : Space) (r : Request) (body : Body) (from to : Point) (lift : Float) (movement : Movement) where
  pub target_out : in_range r to ≡ false → Err TargetOutOfRange ≡ way_check sp r body from to lift movement
  unfolding way_check
  target_out a = rw a

  module _ (a : in_range r to ≡ true) where
    pub raised_out : in_range r (raised from lift) ≡ false → Err RaisedOutOfRange ≡ way_check sp r body from to lift movement
    unfolding way_check
    raised_out b = rw (a, b)

    module _ (b : in_range r (raised from lift) ≡ true) where
      pub not_standable : standable sp body to ≡ false → Err TargetNotStandable ≡ way_check sp r body from to lift movement
      unfolding way_check
      not_standable c = rw (a, b, c)

      module _ (c : standable sp body to ≡ true) where
        pub lift_blocked : clear sp (lift_area body from lift) ≡ false → Err LiftBlocked ≡ way_check sp r body from to lift movement
        unfolding way_check
        lift_blocked d = rw (a, b, c, d)

        module _ (d : clear sp (lift_area body from lift) ≡ true) where
          pub crossing_blocked : clear sp (crossing_area body from to lift) ≡ false → Err CrossingBlocked ≡ way_check sp r body from to lift movement
          unfolding way_check
          crossing_blocked e = rw (a, b, c, d, e)

          module _ (e : clear sp (crossing_area body from to lift) ≡ true) where
            pub settle_blocked : clear sp (settle_area body from to lift) ≡ false → Err SettleBlocked ≡ way_check sp r body from to lift movement
            unfolding way_check
            settle_blocked f = rw (a, b, c, d, e, f)

            module _ (f : clear sp (settle_area body from to lift) ≡ true) where
              pub unsupported : supported sp body.width from to ≡ false → Err Unsupported ≡ way_check sp r body from to lift movement
              unfolding way_check
              unsupported g = rw (a, b, c, d, e, f, g)

              pub passes : supported sp body.width from to ≡ true →
                  Ok (waypoint_by sp body from to lift movement) ≡ way_check sp r body from to lift movement
              unfolding way_check
              passes g = rw (a, b, c, d, e, f, g)
