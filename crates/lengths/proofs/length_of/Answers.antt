-- `lengths::length_of` meets its contract. Assumes nothing.
use Rattle.std.proofs.Common.{◌/◌, sym, ◌∙◌, length}
use Rattle.lengths.specs.LengthLaws.{sum_begins, sum_goes_on, sum_ends}
use Rattle.lengths.proofs.length_of.Goals as goal

pub loop-k-init : goal.loop-k-init
loop-k-init c = rw c.stop_at-from.ensures (sum_begins c.args.list.now)

pub loop-k-preserved : goal.loop-k-preserved
loop-k-preserved c =
    let list = c.args.list.now in
    rw (c.add_edge-total.ensures, c.stop_at-to.ensures)
    (c.loop-k.invariant ∙ sum_goes_on list (length list / 48) c.loop-k.k c.loop-k.total c.loop-k.from c.loop-k-test.true)

pub returns : goal.returns
returns c =
    let list = c.args.list.now in
    sym (c.loop-k.invariant ∙ sum_ends list (length list / 48) c.loop-k.k c.loop-k.total c.loop-k.from c.loop-k-test.false)
