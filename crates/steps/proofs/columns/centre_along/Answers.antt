-- `steps::columns::centre_along` meets its contract. Assumes nothing.
use mathlib.Core.Path.{◌≡◌, ◌∙◌}
use mir.Syntax.{w64}
use mir.Val.{to_z, of_z}
use mir.Facts.{to_z-of_z}
use borrow.Author.Rules.{rules}
use Rattle.cells.specs.Cells.{floor_cell}
use Rattle.steps.specs.Columns.{centre}
use Rattle.steps.specs.ColumnLaws.{column_fits}
use Rattle.steps.proofs.columns.centre_along.Goals as goal
use Rattle.steps.proofs.columns.centre_along.Goals.{After-from}

-- what the machine reads back from its bits
module _ (c : After-from) where
  offset : to_z w64 (of_z w64 c.from.result) ≡ c.args.d
  offset = to_z-of_z {w = w64} (search rules) ∙ c.from.ensures ∙ to_z-of_z c.ranges.d

  own : to_z w64 (of_z w64 c.floor_cell.result) ≡ floor_cell c.args.x
  own = to_z-of_z {w = w64} (search rules) ∙ c.floor_cell.ensures

pub overflow_add-column : goal.overflow_add-column
overflow_add-column c = rw (own c, offset c) (column_fits c.args.x c.args.d c.ranges.d)

pub returns : goal.returns
unfolding centre
returns c =
    let s = (goal.at.returns c).After-from in rw (c.float_cell.ensures, own s, offset s, to_z-of_z (column_fits c.args.x c.args.d c.ranges.d))
