-- `report::lines::waypoint_line` meets its contract. Assumes nothing.
use Rattle.report.specs.LineLaws.{shown, too_short, nothing_shown, no_record, no_movement, a_record}
use Rattle.report.proofs.lines.waypoint_line.Goals as goal

pub returns-then-out-lt-ROOM : goal.returns-then-out-lt-ROOM
returns-then-out-lt-ROOM c =
    let w = too_short _ _ c.if-out-lt-ROOM.true
    in
    record { count = w.0; bytes = w.1 }

pub returns-then-list-place : goal.returns-then-list-place
returns-then-list-place c =
    let w = nothing_shown _ _ (no_record c.args.list.now c.args.place c.if-list-place.true)
    in
    record { count = w.0; bytes = w.1 }

pub returns-then-movement-gt3 : goal.returns-then-movement-gt3
returns-then-movement-gt3 c =
    let w = nothing_shown _ _ (no_movement c.args.list.now c.args.place _ c.u64_at-movement.ensures c.if-movement-gt3.true c.if-list-place.false)
    in
    record { count = w.0; bytes = w.1 }

pub returns : goal.returns
returns c =
    let a = c.args in
    let w =
    shown c.if-out-lt-ROOM.false c.waypoint_fields.ensures
    (a_record a.list.now a.place _ _ _ _ _ _ c.if-list-place.false c.if-movement-gt3.false c.u64_at-movement.ensures
    c.u64_at-x.ensures c.u64_at-y.ensures c.u64_at-z.ensures c.u64_at-lift.ensures c.u64_at-door.ensures)
    in
    record { count = w.0; bytes = w.1 }
