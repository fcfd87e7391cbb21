-- `segments::far::keep_cell` meets its contract. Assumes nothing.
use Rattle.std.proofs.Common.{sym, ◌∙◌, w64, SFits, to_z-of_z, rules}
use Rattle.world.specs.Space.{space}
use Rattle.support.specs.Joints.{found_known, gathers_none}
use Rattle.segments.proofs.far.keep_cell.Goals as goal

pub returns-in_default : goal.returns-in_default
returns-in_default c = gathers_none _ _

pub returns-then-cell-eq0 : goal.returns-then-cell-eq0
returns-then-cell-eq0 c = gathers_none _ _

pub returns : goal.returns
unfolding space
returns c =
    let f : SFits w64 c.args.at.x = search rules in
    let g : SFits w64 c.args.at.y = search rules in
    let h : SFits w64 c.args.at.z = search rules in
    let cell = simp (to_z-of_z, f, g, h) at c.cell_at.ensures in
    let point = simp (to_z-of_z, f, g, h) at c.corner_of-by.ensures in
    rw (sym cell ∙ c.in-Some.is, found_known c.args.way _ _ _) (rw (c.boxes_in-run.ensures.boxes, point) at c.keep_run.ensures)
