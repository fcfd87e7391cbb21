-- `cells::float_cell` meets its contract. Assumes nothing.
use Rattle.std.proofs.Common.{ap, ◌∙◌, to_z-of_z, w64, rules}
use lib.Ieee.{of_int, binary64}
use Rattle.cells.specs.Whole.{exact}
use Rattle.cells.proofs.float_cell.Goals as goal

pub int_to_float-result : goal.int_to_float-result
int_to_float-result c = exact _ (search rules) (search rules)

pub returns : goal.returns
returns c = c.nearest_i64_to_f64.ensures ∙ ap (of_int binary64) (to_z-of_z {w = w64} (search rules))
