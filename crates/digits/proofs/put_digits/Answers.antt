-- `digits::put_digits` meets its contract. Assumes nothing.
use Rattle.std.proofs.Common.{◌+◌, ◌≡◌, length, sym, ◌∙◌, true, leb, arith}
use Rattle.digits.specs.Digits.{digits}
use Rattle.digits.specs.Laws.{length_digits, one_digit, ended, no_room, in_room}
use Rattle.digits.proofs.put_digits.Goals as goal
use Rattle.digits.proofs.put_digits.Goals.{Else-not-has_room}

has_room : (c : Else-not-has_room) → leb (c.args.at + 21) (length c.args.out.now) ≡ true
has_room c = sym c.has_room.ensures ∙ c.if-not-has_room.false

pub returns-then-not-has_room : goal.returns-then-not-has_room
returns-then-not-has_room c =
    let a = c.args in
    let w = no_room (digits a.base a.width a.v) a.out.now a.at a.end (sym c.has_room.ensures ∙ c.if-not-has_room.true) in
    record { next = w.0; bytes = w.1 }

pub loop-k-preserved : goal.loop-k-preserved
loop-k-preserved c =
    one_digit c.loop-k.out c.args.at c.args.base c.loop-k.k c.loop-k.rest _ c.loop-k-test.true c.digit_of.ensures ∙ c.loop-k.invariant

pub returns : goal.returns
returns c =
    let a = c.args in
    let e : c.loop-k.k ≡ 0 = omega arith in
    let w =
    in_room (digits a.base a.width a.v) a.out.now a.at a.end _ (a.at + a.width + 1) (has_room (goal.at.returns c).Else-not-has_room)
    (omega (arith, length_digits a.base a.width a.v)) (rw e at c.loop-k.invariant ∙ ended a.out.now a.at a.base a.width a.v a.end)
    in
    record { next = w.0; bytes = w.1 }
