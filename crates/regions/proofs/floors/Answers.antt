-- `regions::floors` meets its contract. Assumes nothing.
use Rattle.std.proofs.Common.{◌^◌, ◌<◌, rules}
use Rattle.cells.specs.Cells.{floor_cell}
use Rattle.cells.specs.CellLaws.{floor_range}
use Rattle.regions.specs.RangeLaws.{small_is, less_fits, less_is}
use Rattle.regions.proofs.floors.Goals as goal
use Rattle.regions.proofs.floors.Goals.{After-floor_cell}

few : (c : After-floor_cell) → c.args.below < 2 ^ 31
few c = search rules

pub overflow_sub-first : goal.overflow_sub-first
overflow_sub-first c = rw c.floor_cell.ensures (less_fits (floor_cell c.args.low) c.args.below (floor_range c.args.low) (few c))

pub returns : goal.returns
returns c =
    rw (c.floor_cell.ensures, c.floor_cell-last.ensures)
    (cc (less_is (floor_cell c.args.low) c.args.below (floor_range c.args.low) (few (goal.at.returns c).After-floor_cell), small_is (floor_cell c.args.high) (floor_range c.args.high)))
