-- `regions::reached` meets its contract. Assumes nothing.
use Rattle.std.proofs.Common.{◌^◌, ◌<◌, arith, rules}
use Rattle.cells.specs.Cells.{floor_cell, ceil_cell}
use Rattle.cells.specs.CellLaws.{floor_range, ceil_range}
use Rattle.regions.specs.RangeLaws.{less_fits, less_is}
use Rattle.regions.proofs.reached.Goals as goal
use Rattle.regions.proofs.reached.Goals.{After-floor_cell}

few : (c : After-floor_cell) → c.args.below < 2 ^ 31
few c = search rules

pub overflow_sub-first : goal.overflow_sub-first
overflow_sub-first c = rw c.floor_cell.ensures (less_fits (floor_cell c.args.least) c.args.below (floor_range c.args.least) (few c))

pub overflow_sub-last : goal.overflow_sub-last
overflow_sub-last c = rw c.ceil_cell-last.ensures (less_fits (ceil_cell c.args.greatest) 1 (ceil_range c.args.greatest) (omega arith))

pub returns : goal.returns
returns c =
    rw (c.floor_cell.ensures, c.ceil_cell-last.ensures)
    (cc (less_is (floor_cell c.args.least) c.args.below (floor_range c.args.least) (few (goal.at.returns c).After-floor_cell), less_is (ceil_cell c.args.greatest) 1 (ceil_range c.args.greatest) (omega arith)))
