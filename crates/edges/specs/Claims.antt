-- What the edge check says, one theorem: its reason is the first in 02's order, of a difference in height that no movement takes which of the two, and of a way the first
-- test that fails.
use Rattle.std.specs.Prelude.{ℕ, ◌+◌, ◌≡◌, Bool, not, List, [], ◌∷◌, Float, Option, Some, None, Ok, Err}
use Rattle.std.proofs.Common.{arith, sym}
use Rattle.std.proofs.Math.Path.{refl}
use Rattle.std.proofs.Math.Bool.{true, false, cond}
use Rattle.std.specs.Float.Ieee.{binary64, lt, le, add, sub, neg}
use Rattle.exploration.specs.Lists.{first_failing}
use Rattle.floats.specs.Floats.{E, nought, larger}
use Rattle.world.specs.declared.Point.{Point}
use Rattle.world.specs.declared.Body.{Body}
use Rattle.world.specs.declared.Request.{Request}
use Rattle.world.specs.Space.{Space}
use Rattle.clear.specs.Clear.{clear}
use Rattle.support.specs.Support.{supported}
use Rattle.places.specs.Places.{in_range, standable}
use Rattle.moves.specs.declared.answer.Movement.TheVariants.{Walk, Step, Jump, Drop}
use Rattle.moves.specs.declared.answer.Movement.{Movement}
use Rattle.moves.specs.declared.answer.Waypoint.{Waypoint}
use Rattle.moves.specs.declared.answer.Reason.{Reason}
use Rattle.moves.specs.declared.answer.Reason.TheVariants.{TooHigh, TooDeep, TargetOutOfRange, RaisedOutOfRange, TargetNotStandable, LiftBlocked, CrossingBlocked, SettleBlocked, Unsupported}
use Rattle.moves.specs.Moves.{reason_number, step_height, rising, falling, moving}
use Rattle.ways.specs.Ways.{raised, lift_area, crossing_area, settle_area, waypoint_by, way_check}
use Rattle.edges.specs.Reasons.{check_by, edge_check}

none_by : {A : Type 0} {m : Movement} {l : Float} → ◌≡◌ {A = Option (Movement × Float)} (Some (m, l)) None → A
none_by e = absurd (let z : ◌≡◌ {A = ℕ} 0 1 = cc in omega arith)

-- ---- heights

-- a rise above E that neither a step nor a jump takes, or a fall beyond E that no drop takes
abbrev pub Untaken : (rise step jump fall drop : Bool) → Reason → Type 0
Untaken true step jump fall drop why = (why ≡ TooHigh) × ((step ≡ false) × (jump ≡ false))
Untaken false step jump fall drop why = (why ≡ TooDeep) × ((fall ≡ true) × (drop ≡ false))

module _ (r : Request) (body : Body) (dy : Float) where
  abbrev pub TooFar : Reason → Type 0
  TooFar = Untaken (lt E dy) (le dy (add binary64 (step_height r body) E)) (le dy (add binary64 r.jump_height E)) (lt dy (neg E)) (le (neg dy) (add binary64 r.max_drop E))

  too_far : {why : Reason} → moving r body dy ≡ None → cond (lt E dy) TooHigh TooDeep ≡ why → TooFar why
  unfolding moving rising falling
  too_far e = go (lt E dy) (le dy (add binary64 (step_height r body) E)) (le dy (add binary64 r.jump_height E)) (lt dy (neg E)) (le (neg dy) (add binary64 r.max_drop E)) e
    where
      go : {why : Reason} (rise step jump fall drop : Bool) →
          cond {A = Option (Movement × Float)} rise (cond step (Some (Step, dy)) (cond jump (Some (Jump, r.jump_height)) None)) (cond fall (cond drop (Some (Drop, nought)) None) (Some (Walk, larger dy nought))) ≡ None →
          cond rise TooHigh TooDeep ≡ why → Untaken rise step jump fall drop why
      go true true jump fall drop e w = none_by e
      go true false true fall drop e w = none_by e
      go true false false fall drop e w = (sym w, (refl, refl))
      go false step jump true true e w = none_by e
      go false step jump true false e w = (sym w, (refl, refl))
      go false step jump false drop e w = none_by e

-- ---- the way

-- the seven tests one after the other
in_turn_lem : {why : Reason} (w : Waypoint) (a b c d e f g : Bool) →
    cond a (cond b (cond c (cond d (cond e (cond f (cond g (Ok w) (Err Unsupported)) (Err SettleBlocked)) (Err CrossingBlocked)) (Err LiftBlocked)) (Err TargetNotStandable)) (Err RaisedOutOfRange)) (Err TargetOutOfRange) ≡ Err why →
    reason_number why ≡ 103 + first_failing (not a ∷ not b ∷ not c ∷ not d ∷ not e ∷ not f ∷ not g ∷ [])
in_turn_lem {why} w false b c d e f g h = let z : TargetOutOfRange ≡ why = cc in rw (← z)
in_turn_lem {why} w true false c d e f g h = let z : RaisedOutOfRange ≡ why = cc in rw (← z)
in_turn_lem {why} w true true false d e f g h = let z : TargetNotStandable ≡ why = cc in rw (← z)
in_turn_lem {why} w true true true false e f g h = let z : LiftBlocked ≡ why = cc in rw (← z)
in_turn_lem {why} w true true true true false f g h = let z : CrossingBlocked ≡ why = cc in rw (← z)
in_turn_lem {why} w true true true true true false g h = let z : SettleBlocked ≡ why = cc in rw (← z)
in_turn_lem {why} w true true true true true true false h = let z : Unsupported ≡ why = cc in rw (← z)
in_turn_lem w true true true true true true true h = absurd (let z : ◌≡◌ {A = ℕ} 0 1 = cc in omega arith)

module _ (sp : Space) (r : Request) (body : Body) (from to : Point) where
  -- which tests of the way fail, in 02's order
  abbrev pub way_failures : Float → List Bool
  way_failures lift =
      not (in_range r to) ∷ not (in_range r (raised from lift)) ∷ not (standable sp body to) ∷ not (clear sp (lift_area body from lift)) ∷ not (clear sp (crossing_area body from to lift))
      ∷ not (clear sp (settle_area body from to lift)) ∷ not (supported sp body.width from to) ∷ []

  -- what a reason says: where no movement takes the difference in height, how far it goes; else it is that of the first test that fails
  abbrev pub ReasonTold : Option (Movement × Float) → Reason → Type 0
  ReasonTold None why = TooFar r body (sub binary64 to.y from.y) why
  ReasonTold (Some (movement, lift)) why = reason_number why ≡ 103 + first_failing (way_failures lift)

  by_moving : {why : Reason} (m : Option (Movement × Float)) → moving r body (sub binary64 to.y from.y) ≡ m → check_by sp r body from to m ≡ Err why → ReasonTold m why
  unfolding way_check
  by_moving {why} None n e = too_far r body (sub binary64 to.y from.y) n (let z : cond (lt E (sub binary64 to.y from.y)) TooHigh TooDeep ≡ why = cc in z)
  by_moving (Some (movement, lift)) n e =
      in_turn_lem (waypoint_by sp body from to lift movement) (in_range r to) (in_range r (raised from lift)) (standable sp body to) (clear sp (lift_area body from lift))
      (clear sp (crossing_area body from to lift)) (clear sp (settle_area body from to lift)) (supported sp body.width from to) e

  -- "The edge check should answer its first reason: .. in 01's order."
  pub first_reason_of_an_edge : {why : Reason} → edge_check sp r body from to ≡ Err why → ReasonTold (moving r body (sub binary64 to.y from.y)) why
  unfolding edge_check
  first_reason_of_an_edge e = by_moving (moving r body (sub binary64 to.y from.y)) refl e
