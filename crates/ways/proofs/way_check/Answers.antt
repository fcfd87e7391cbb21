-- `ways::way_check` meets its contract. Assumes nothing.
use Rattle.std.proofs.Common.{◌≡◌, sym, ap, ◌∙◌, arith, true, Some, None}
use Rattle.std.specs.Option.{is_some}
use Rattle.std.proofs.lemmas.Result.{err_from_is_err_and}
use Rattle.world.specs.Space.{space_of}
use Rattle.clear.specs.Clear.{clear}
use Rattle.clear.specs.Laws.{is_clear, its_door}
use Rattle.places.specs.Places.{in_range, standable}
use Rattle.moves.specs.declared.answer.Reason.TheVariants.{LiftBlocked, CrossingBlocked, SettleBlocked}
use Rattle.ways.specs.Ways.{raised, lift_area, crossing_area, way_check, way_door}
use Rattle.ways.proofs.way_check.Goals as goal
use Rattle.ways.proofs.way_check.Goals.{Else-not-standable, After-difference-over, After-difference-down}

-- ---- what has passed, where the next check begins
begun : (c : Else-not-standable) → let a = c.args in
    (in_range a.query.request a.to ≡ true) × (in_range a.query.request (raised a.from a.lift) ≡ true) × (standable (space_of a.query.world) a.query.body a.to ≡ true)
begun c = (sym c.in_range.ensures ∙ c.if-not-in_range.false, sym c.in_range-2.ensures ∙ c.if-not-in_range-2.false, sym c.standable.ensures ∙ c.if-not-standable.false)

lifts : (c : After-difference-over) → let a = c.args in clear (space_of a.query.world) (lift_area a.query.body a.from a.lift) ≡ true
lifts c = let some : c.sweep.result ≡ Some c.in_ok-lifting.lifting = grind arith in is_clear _ _ c.sweep.ensures (ap is_some some)

crosses : (c : After-difference-down) → let a = c.args in clear (space_of a.query.world) (crossing_area a.query.body a.from a.to a.lift) ≡ true
crosses c = let some : c.sweep-2.result ≡ Some c.in_ok-crossing.crossing = grind arith in is_clear _ _ (rw c.difference-over.ensures at c.sweep-2.ensures) (ap is_some some)

pub returns-in_err-lifting : goal.returns-in_err-lifting
unfolding way_check
returns-in_err-lifting c =
    let p = err_from_is_err_and c.from_residual.result c.from_residual.ensures.1 in
    let t = begun (goal.at.returns-in_err-lifting c).Else-not-standable in
    let none : c.sweep.result ≡ None = grind arith in
    let why : c.in_err-lifting.field-0.0 ≡ LiftBlocked = grind arith in
    rw (p.1, p.2, t.0, t.1, t.2, is_clear _ _ c.sweep.ensures (ap is_some none), why)

pub returns-in_err-crossing : goal.returns-in_err-crossing
unfolding way_check
returns-in_err-crossing c =
    let p = err_from_is_err_and c.from_residual-in_err-crossing.result c.from_residual-in_err-crossing.ensures.1 in
    let t = begun (goal.at.returns-in_err-crossing c).Else-not-standable in
    let none : c.sweep-2.result ≡ None = grind arith in
    let why : c.in_err-crossing.field-0.0 ≡ CrossingBlocked = grind arith in
    rw (p.1, p.2, t.0, t.1, t.2, lifts (goal.at.returns-in_err-crossing c).After-difference-over, is_clear _ _ (rw c.difference-over.ensures at c.sweep-2.ensures) (ap is_some none), why)

pub returns-in_err-settling : goal.returns-in_err-settling
unfolding way_check
returns-in_err-settling c =
    let p = err_from_is_err_and c.from_residual-in_err-settling.result c.from_residual-in_err-settling.ensures.1 in
    let t = begun (goal.at.returns-in_err-settling c).Else-not-standable in
    let none : c.sweep-3.result ≡ None = grind arith in
    let why : c.in_err-settling.field-0.0 ≡ SettleBlocked = grind arith in
    rw (p.1, p.2, t.0, t.1, t.2, lifts (goal.at.returns-in_err-settling c).After-difference-over, crosses (goal.at.returns-in_err-settling c).After-difference-down, is_clear _ _ (rw c.difference-down.ensures at c.sweep-3.ensures) (ap is_some none), why)

pub returns-then-not-supported_segment : goal.returns-then-not-supported_segment
unfolding way_check
returns-then-not-supported_segment c =
    let t = begun (goal.at.returns-then-not-supported_segment c).Else-not-standable in
    let some : c.sweep-3.result ≡ Some c.in_ok-settling.settling = grind arith in
    rw (t.0, t.1, t.2, lifts (goal.at.returns-then-not-supported_segment c).After-difference-over, crosses (goal.at.returns-then-not-supported_segment c).After-difference-down, is_clear _ _ (rw c.difference-down.ensures at c.sweep-3.ensures) (ap is_some some), sym c.supported_segment.ensures ∙ c.if-not-supported_segment.true)

pub returns : goal.returns
unfolding way_check way_door
returns c =
    let t = begun (goal.at.returns c).Else-not-standable in
    let first : c.sweep.result ≡ Some c.in_ok-lifting.lifting = grind arith in
    let second : c.sweep-2.result ≡ Some c.in_ok-crossing.crossing = grind arith in
    let third : c.sweep-3.result ≡ Some c.in_ok-settling.settling = grind arith in
    rw (
      t.0,
      t.1,
      t.2,
      lifts (goal.at.returns c).After-difference-over,
      crosses (goal.at.returns c).After-difference-down,
      is_clear _ _ (rw c.difference-down.ensures at c.sweep-3.ensures) (ap is_some third),
      sym c.supported_segment.ensures ∙ c.if-not-supported_segment.false,
      c.from-door.ensures,
      c.or_else-2.ensures,
      c.or_else.ensures,
      its_door _ _ c.sweep.ensures first,
      its_door _ _ (rw c.difference-over.ensures at c.sweep-2.ensures) second,
      its_door _ _ (rw c.difference-down.ensures at c.sweep-3.ensures) third,
    )
