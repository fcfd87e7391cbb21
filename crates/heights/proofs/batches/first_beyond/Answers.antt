-- `heights::batches::first_beyond` meets its contract. Assumes nothing.
use Rattle.std.proofs.Common.{arith, ◌≡◌, sym, ap, ◌∙◌, ◌-◌, ◌+◌, max}
use Rattle.heights.specs.Lowest.{first_from}
use Rattle.heights.proofs.BatchLaws.{place_here, place_later, place_end}
use Rattle.heights.proofs.batches.first_beyond.Goals as goal

pub loop-at-preserved : goal.loop-at-preserved
loop-at-preserved c =
    let a = c.args in
    let l = c.loop-at in
    let z : a.count - l.at - 1 ≡ a.count - (l.at + 1) = omega arith in
    (omega arith, l.invariant.1 ∙ place_later a.after a.room.now l.at (a.count - l.at) (omega arith) (sym c.is_beyond-beyond.ensures ∙ c.if-beyond.false) ∙ ap (first_from a.after a.room.now (l.at + 1)) z)

pub returns-then-beyond : goal.returns-then-beyond
returns-then-beyond c =
    let a = c.args in
    let l = c.loop-at in
    sym (l.invariant.1 ∙ place_here a.after a.room.now l.at (a.count - l.at) (omega arith) (sym c.is_beyond-beyond.ensures ∙ c.if-beyond.true))

pub returns : goal.returns
returns c =
    let a = c.args in
    let l = c.loop-at in
    let e : l.at ≡ max a.from a.count = omega arith in
    c.max.ensures ∙ sym (l.invariant.1 ∙ place_end a.after a.room.now l.at (a.count - l.at) (omega arith) ∙ e)
