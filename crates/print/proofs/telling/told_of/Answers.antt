-- `print::telling::told_of` meets its contract. Assumes nothing.
use Rattle.std.proofs.Common.{◌*◌, refl, arith}
use Rattle.print.specs.Taken.{take_at_most}
use Rattle.print.specs.Print.{told_of}
use Rattle.print.proofs.telling.told_of.Goals as goal

pub returns : goal.returns
unfolding told_of
returns c =
    let all = take_at_most c.args.out.now (48 * c.args.a.count) c.saturating_mul.result (omega arith) (omega arith) in
    rw (c.from.ensures, c.length_of.ensures, c.front_of-list.ensures, all) refl
