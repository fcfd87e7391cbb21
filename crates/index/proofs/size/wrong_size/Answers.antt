-- `index::size::wrong_size` meets its contract. Assumes nothing.
use Rattle.std.proofs.Common.{◌∙◌, ◌/◌, ◌%◌, not, ◌&&◌, eqb}
use Rattle.index.specs.Size.{wrong_size}
use Rattle.index.proofs.SizeLaws.{halved, one_digit}
use Rattle.index.proofs.size.wrong_size.Goals as goal

pub returns : goal.returns
unfolding wrong_size
returns c =
    let a = c.args in
    λ i. not (eqb (a.bytes % 4) 0 && (c.is_power_of_two.ensures ∙ one_digit (a.bytes / 4)) i && halved a.budget (a.bytes / 4) i)
