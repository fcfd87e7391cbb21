-- `heights::lowest::cell_lowest` meets its contract. Assumes nothing.
use Rattle.std.proofs.Common.{◌≡◌, sym, ◌∙◌, w64, SFits, to_z-of_z}
use Rattle.world.specs.Boxes.{corner}
use Rattle.world.specs.Space.{cell_at, space}
use Rattle.heights.specs.Put.{taken}
use Rattle.heights.proofs.Laws.{unknown_none, no_support, supports}
use Rattle.heights.proofs.lowest.cell_lowest.Goals as goal
use Rattle.heights.proofs.lowest.cell_lowest.Goals.{After-cell_at, After-corner_of-by}

-- signed numbers are what the machine reads back from their bits
cell : (c : After-cell_at) → let a = c.args in cell_at a.world.window a.world.cells.now a.world.perms.now a.world.shapes.now a.cx a.y a.cz ≡ c.cell_at.result
cell c =
    let f : SFits w64 c.args.cx = c.ranges.cx in
    let g : SFits w64 c.args.y = c.ranges.y in
    let h : SFits w64 c.args.cz = c.ranges.cz in
    sym (simp (to_z-of_z, f, g, h) at c.cell_at.ensures)

point : (c : After-corner_of-by) → let a = c.args in c.corner_of-by.result ≡ corner a.cx a.y a.cz
point c =
    let f : SFits w64 c.args.cx = c.ranges.cx in
    let g : SFits w64 c.args.y = c.ranges.y in
    let h : SFits w64 c.args.cz = c.ranges.cz in
    simp (to_z-of_z, f, g, h) at c.corner_of-by.ensures

pub returns-in_default-clause-result_after : goal.returns-in_default-clause-result_after
unfolding space
returns-in_default-clause-result_after c =
    let a = c.args in
    rw (cell (goal.at.returns-in_default-clause-result_after c).After-cell_at ∙ c.in_default.is) (sym (unknown_none a.shaft.band a.shaft.x a.shaft.z (taken a.after) _ _ _))

pub returns-then-cell-clause-result_after : goal.returns-then-cell-clause-result_after
unfolding space
returns-then-cell-clause-result_after c =
    let a = c.args in
    let at = goal.at.returns-then-cell-clause-result_after c in
    rw (cell at.After-cell_at ∙ c.in-Some.is) (rw (c.boxes_in-run.ensures.boxes, point at.After-corner_of-by) at c.run_lowest.ensures.result_after ∙ sym (supports a.shaft.band a.shaft.x a.shaft.z (taken a.after) _ _ _ c.in-Some.cell c.if-cell.true))

pub returns-clause-result_after : goal.returns-clause-result_after
unfolding space
returns-clause-result_after c =
    let a = c.args in
    rw (cell (goal.at.returns-clause-result_after c).After-cell_at ∙ c.in-Some.is) (sym (no_support a.shaft.band a.shaft.x a.shaft.z (taken a.after) _ _ _ c.in-Some.cell c.if-cell.false))
