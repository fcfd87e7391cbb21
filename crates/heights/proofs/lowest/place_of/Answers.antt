-- `heights::lowest::place_of` meets its contract. Assumes nothing.
use Rattle.std.proofs.Common.{arith, refl, sym, ◌∙◌}
use Rattle.heights.proofs.Put.{place_down, place_stays, place_first}
use Rattle.heights.proofs.lowest.place_of.Goals as goal

pub loop-place-init : goal.loop-place-init
loop-place-init c = (omega arith, refl)

pub loop-place-preserved : goal.loop-place-preserved
loop-place-preserved c =
    let a = c.args in
    let l = c.loop-place in
    (omega arith, l.invariant.1 ∙ place_down a.top a.room.now l.place (omega arith) c.if-top-room.true)

pub returns-else-top-room : goal.returns-else-top-room
returns-else-top-room c =
    let a = c.args in
    let l = c.loop-place in
    sym (l.invariant.1 ∙ place_stays a.top a.room.now l.place (omega arith) c.if-top-room.false)

pub returns-after-loop-place : goal.returns-after-loop-place
returns-after-loop-place c =
    let a = c.args in
    let l = c.loop-place in
    sym (l.invariant.1 ∙ place_first a.top a.room.now l.place (omega arith))
