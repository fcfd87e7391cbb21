-- `steps::columns::column_centre` meets its contract. Assumes nothing.
use mathlib.Core.Path.{◌≡◌}
use mir.Syntax.{w32}
use mir.Val.{SFits}
use mir.Facts.{to_z-of_z}
use borrow.Author.Rules.{rules}
use Rattle.steps.specs.Columns.{offset_at, centre, centre_of}
use Rattle.steps.proofs.columns.column_centre.Goals as goal
use Rattle.steps.proofs.columns.column_centre.Goals.{After-centre_along, After-centre_along-2}

-- an offset is what the machine reads back from its bits
first : (c : After-centre_along) → c.centre_along.result ≡ centre c.args.from.x (offset_at c.args.n).0
first c =
    let g : SFits w32 c.offset_at-offset.result.0 = search rules in
    rw c.offset_at-offset.ensures at (simp (to_z-of_z, g) at c.centre_along.ensures)

second : (c : After-centre_along-2) →
    c.centre_along-2.result ≡ centre c.args.from.z (offset_at c.args.n).1
second c =
    let g : SFits w32 c.offset_at-offset.result.1 = search rules in
    rw c.offset_at-offset.ensures at (simp (to_z-of_z, g) at c.centre_along-2.ensures)

pub returns : goal.returns
unfolding centre_of
returns c = rw (first (goal.at.returns c).After-centre_along, second c)
