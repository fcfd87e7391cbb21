-- `scene_fills::fill_cells` meets its contract. Assumes nothing.
use Rattle.std.proofs.Common.{◌≡◌, sym, ◌∙◌, w32, SFits, to_z-of_z, rules}
use Rattle.world.specs.Sizes.{sizes_of}
use Rattle.scene_fills.specs.Fills.{axis_of, region_of, filled}
use Rattle.scene_fills.specs.Laws.{region_clipped}
use Rattle.scene_fills.proofs.fill_cells.Goals as goal
use Rattle.scene_fills.proofs.fill_cells.Goals.{After-axis-xs}

pub returns-then-size_above : goal.returns-then-size_above
unfolding filled
returns-then-size_above c = rw (sym c.size_above.ensures ∙ c.if-size_above.true)

-- the region is the record's
clip : (c : After-axis-xs) → record { ys = c.axis-ys.result; zs = c.axis-zs.result; xs = c.axis-xs.result } ≡ region_of c.args.w c.args.bytes.now
unfolding region_of
clip c =
    let a = c.args in
    let f : SFits w32 a.w.x = search rules in
    let g : SFits w32 a.w.y = search rules in
    let h : SFits w32 a.w.z = search rules in
    let y : c.axis-ys.result ≡ axis_of a.bytes.now 12 a.w.y a.w.sy = rw (to_z-of_z g) at c.axis-ys.ensures in
    let z : c.axis-zs.result ≡ axis_of a.bytes.now 16 a.w.z a.w.sz = rw (to_z-of_z h) at c.axis-zs.ensures in
    let x : c.axis-xs.result ≡ axis_of a.bytes.now 8 a.w.x a.w.sx = rw (to_z-of_z f) at c.axis-xs.ensures in
    rw (x, y, z)

pub fill_region-requires : goal.fill_region-requires
fill_region-requires c =
    let a = c.args in
    rw (clip (goal.at.fill_region-requires c).After-axis-xs) (region_clipped a.w a.bytes.now (sizes_of a.w (sym c.size_above.ensures ∙ c.if-size_above.false)))

pub returns : goal.returns
unfolding filled
returns c = rw (sym c.size_above.ensures ∙ c.if-size_above.false, ← clip (goal.at.returns c).After-axis-xs, ← c.u32_at-state.ensures, ← c.u32_at-shape.ensures) c.fill_region.ensures
