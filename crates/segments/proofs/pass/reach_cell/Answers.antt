-- `segments::pass::reach_cell` meets its contract. Assumes nothing.
use Rattle.std.proofs.Common.{sym, ◌∙◌, w64, SFits, to_z-of_z, rules}
use Rattle.world.specs.Space.{space}
use Rattle.support.specs.PassLaws.{pass_unknown, pass_known, pass_empty}
use Rattle.segments.proofs.pass.reach_cell.Goals as goal
use Rattle.segments.proofs.pass.reach_cell.Goals.{Start}

-- signed numbers are what the machine reads back from their bits
module _ (c : Start) where
  x-fits : SFits w64 c.args.at.x
  x-fits = search rules

  y-fits : SFits w64 c.args.at.y
  y-fits = search rules

  z-fits : SFits w64 c.args.at.z
  z-fits = search rules

pub returns-in_default : goal.returns-in_default
unfolding space
returns-in_default c =
    let s = (goal.at.returns-in_default c).Start in
    let cell = simp (to_z-of_z, x-fits s, y-fits s, z-fits s) at c.cell_at.ensures in
    let point = simp (to_z-of_z, x-fits s, y-fits s, z-fits s) at c.corner_of.ensures in
    rw (sym cell ∙ c.in_default.is) ((rw (c.offset-cube.ensures, c.unit.ensures, point) at c.reach_shape.ensures) ∙ sym (pass_unknown _ _ _ _))

pub returns-then-cell-eq0 : goal.returns-then-cell-eq0
unfolding space
returns-then-cell-eq0 c =
    let s = (goal.at.returns-then-cell-eq0 c).Start in
    let cell = simp (to_z-of_z, x-fits s, y-fits s, z-fits s) at c.cell_at.ensures in
    rw (sym cell ∙ c.in-Some.is) (sym (pass_empty _ _ _ _ _ c.if-cell-eq0.true))

pub returns : goal.returns
unfolding space
returns c =
    let s = (goal.at.returns c).Start in
    let cell = simp (to_z-of_z, x-fits s, y-fits s, z-fits s) at c.cell_at.ensures in
    let point = simp (to_z-of_z, x-fits s, y-fits s, z-fits s) at c.corner_of-by.ensures in
    rw (sym cell ∙ c.in-Some.is) ((rw (c.boxes_in-run.ensures.boxes, point) at c.reach_run.ensures) ∙ sym (pass_known _ _ _ _ _))
