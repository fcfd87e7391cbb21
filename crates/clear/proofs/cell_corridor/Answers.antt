-- `clear::cell_corridor` meets its contract. Assumes nothing.
use Rattle.std.proofs.Common.{◌≡◌, sym, ◌∙◌, w64, SFits, to_z-of_z}
use Rattle.world.specs.Boxes.{corner, meets, voxel}
use Rattle.world.specs.Space.{cell_at, space}
use Rattle.clear.specs.Laws.{air, unknown, may_not, may_be}
use Rattle.clear.proofs.cell_corridor.Goals as goal
use Rattle.clear.proofs.cell_corridor.Goals.{After-cell_at, After-intersects-meets, After-intersects-meets-2}

-- signed numbers are what the machine reads back from their bits
cell : (c : After-cell_at) →
    cell_at c.args.world.window c.args.world.cells.now c.args.world.perms.now c.args.world.shapes.now c.args.x c.args.y c.args.z ≡ c.cell_at.result
cell c =
    let f : SFits w64 c.args.x = c.ranges.x in
    let g : SFits w64 c.args.y = c.ranges.y in
    let h : SFits w64 c.args.z = c.ranges.z in
    sym (simp (to_z-of_z {w = w64}, f, g, h) at c.cell_at.ensures)

-- the corner and the voxel of an unknown cell, and of a known one
point : (c : After-intersects-meets) → c.corner_of-p.result ≡ corner c.args.x c.args.y c.args.z
point c =
    let f : SFits w64 c.args.x = c.ranges.x in
    let g : SFits w64 c.args.y = c.ranges.y in
    let h : SFits w64 c.args.z = c.ranges.z in
    simp (to_z-of_z {w = w64}, f, g, h) at c.corner_of-p.ensures

met : (c : After-intersects-meets) → meets (voxel (corner c.args.x c.args.y c.args.z)) c.args.area ≡ c.intersects-meets.result
met c = sym (rw (c.voxel_at.ensures, point c) at c.intersects-meets.ensures)

point-2 : (c : After-intersects-meets-2) → c.corner_of-p-2.result ≡ corner c.args.x c.args.y c.args.z
point-2 c =
    let f : SFits w64 c.args.x = c.ranges.x in
    let g : SFits w64 c.args.y = c.ranges.y in
    let h : SFits w64 c.args.z = c.ranges.z in
    simp (to_z-of_z {w = w64}, f, g, h) at c.corner_of-p-2.ensures

met-2 : (c : After-intersects-meets-2) → meets (voxel (corner c.args.x c.args.y c.args.z)) c.args.area ≡ c.intersects-meets-2.result
met-2 c = sym (rw (c.voxel_at-2.ensures, point-2 c) at c.intersects-meets-2.ensures)

pub returns-in_default : goal.returns-in_default
unfolding space
returns-in_default c =
    c.then_some.ensures
    ∙ rw (cell (goal.at.returns-in_default c).After-cell_at ∙ c.in_default.is)
    (unknown _ _ _ (met (goal.at.returns-in_default c).After-intersects-meets) (sym (rw (c.offset.ensures, c.unit.ensures, point (goal.at.returns-in_default c).After-intersects-meets) at c.intersects-hit.ensures)))

pub returns-then-occupied-count : goal.returns-then-occupied-count
unfolding space
returns-then-occupied-count c = rw (cell (goal.at.returns-then-occupied-count c).After-cell_at ∙ c.in-Some.is) (air _ _ _ _ c.if-occupied-count.true)

pub returns-then-meets-occupied : goal.returns-then-meets-occupied
unfolding space
returns-then-meets-occupied c =
    rw (cell (goal.at.returns-then-meets-occupied c).After-cell_at ∙ c.in-Some.is)
    (may_not _ _ _ (met-2 (goal.at.returns-then-meets-occupied c).After-intersects-meets-2) _ c.if-meets-occupied.true)

pub returns : goal.returns
unfolding space
returns c =
    c.then_some-2.ensures
    ∙ rw (c.door_if.ensures, cell (goal.at.returns c).After-cell_at ∙ c.in-Some.is)
    (may_be _ _ _ (met-2 (goal.at.returns c).After-intersects-meets-2) _ c.if-meets-occupied.false (rw (c.boxes_in-run.ensures.boxes, point-2 (goal.at.returns c).After-intersects-meets-2) at c.run_hits-hit.ensures))
