-- `stores::put` meets its contract. Assumes nothing.
use Rattle.std.proofs.Common.{arith, ◌≡◌, sym, ◌∙◌, leb-true, length}
use Rattle.stores.proofs.Low.{part_sets}
use Rattle.stores.proofs.put.Goals as goal

pub returns-then-fits : goal.returns-then-fits
returns-then-fits g c =
    let a = c.args in
    let h = leb-true _ _ (sym c.fits.ensures ∙ c.if-fits.true) in
    let long : length a.bytes ≡ g.row.N = omega arith in
    part_sets a.at g.row.N _ a.s.now _ a.bytes h (omega arith) c.copy_from_slice.ensures.after long
