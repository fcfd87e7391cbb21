-- `cells::ceil_cell` meets its contract. Assumes nothing.
use Rattle.std.proofs.Common.{◌≡◌, ◌∙◌, to_z-of_z, w64, to_z, of_z, rules}
use Rattle.cells.specs.Cells.{floor_cell}
use Rattle.cells.specs.CellLaws.{ceil_is, floor_range, ceil_range}
use Rattle.cells.specs.Whole.{bit, cell_fits, exact_cell}
use Rattle.cells.proofs.ceil_cell.Goals as goal
use Rattle.cells.proofs.ceil_cell.Goals.{After-floor_cell-floor}

floor : (c : After-floor_cell-floor) → to_z w64 (of_z w64 c.floor_cell-floor.result) ≡ floor_cell c.args.x
floor c = to_z-of_z {w = w64} (search rules) ∙ c.floor_cell-floor.ensures

pub int_to_float-result : goal.int_to_float-result
int_to_float-result c = rw (floor (goal.at.int_to_float-result c).After-floor_cell-floor) (exact_cell _ (floor_range _))

pub overflow_add-result : goal.overflow_add-result
overflow_add-result c = rw (floor (goal.at.overflow_add-result c).After-floor_cell-floor, bit, ceil_is) (cell_fits _ (ceil_range _))

pub returns : goal.returns
returns c = rw (floor (goal.at.returns c).After-floor_cell-floor, bit, ceil_is) (to_z-of_z {w = w64} (cell_fits _ (ceil_range _)))
