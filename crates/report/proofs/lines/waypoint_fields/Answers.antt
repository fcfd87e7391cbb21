-- `report::lines::waypoint_fields` meets its contract. Assumes nothing.
use native.Mathlib.Omega.{arith}
use Rattle.digits.specs.Digits.{hex, decimal}
use Rattle.digits.specs.Laws.{hex_field, decimal_field}
use Rattle.report.specs.Lines.{movement_word, waypoint_fields}
use Rattle.report.specs.LineLaws.{then, whole}
use Rattle.report.specs.Words.{behind_movement}
use Rattle.report.proofs.lines.waypoint_fields.Goals as goal

pub put_word-b-requires : goal.put_word-b-requires
put_word-b-requires c =
    let place = decimal_field c.args.place 32 21 c.ranges.place.fits (c.put_decimal-a.ensures.next, c.put_decimal-a.ensures.bytes) (omega (arith, c.requires)) in
    let word = c.movement_word.ensures in
    (place.1, word.short)

-- a line has at most 115 bytes: 21 for the place, 5 for the movement, 17 for each of four numbers, 21 for the door
pub returns : goal.returns
unfolding waypoint_fields
returns c =
    let a = c.args in
    let place = decimal_field a.place 32 94 c.ranges.place.fits (c.put_decimal-a.ensures.next, c.put_decimal-a.ensures.bytes) (omega (arith, c.requires)) in
    let movement = rw c.movement_word.ensures.is at c.put_word-b.ensures in
    let x = hex_field a.x 32 68 (c.put_hex-c.ensures.next, c.put_hex-c.ensures.bytes) (behind_movement a.movement 89 (omega (arith, c.requires)) movement place.1) in
    let y = hex_field a.y 32 51 (c.put_hex-d.ensures.next, c.put_hex-d.ensures.bytes) x.1 in
    let z = hex_field a.z 32 34 (c.put_hex-e.ensures.next, c.put_hex-e.ensures.bytes) y.1 in
    let lift = hex_field a.lift 32 17 (c.put_hex-f.ensures.next, c.put_hex-f.ensures.bytes) z.1 in
    let door = decimal_field a.door 10 0 c.ranges.door.fits (c.put_decimal.ensures.next, c.put_decimal.ensures.bytes) lift.1 in
    whole
    (then (decimal a.place) 32 place.0.wrote
    (then (movement_word a.movement) 32 movement.wrote
    (then (hex a.x) 32 x.0.wrote
    (then (hex a.y) 32 y.0.wrote
    (then (hex a.z) 32 z.0.wrote
    (then (hex a.lift) 32 lift.0.wrote door.0.wrote))))))
    door.1
