-- `tables::bad_world` meets its contract. Assumes nothing.
use Rattle.std.proofs.Common.{◌≡◌, sym, ◌∙◌, false, length}
use Rattle.world.specs.Sizes.{size_above, sizes_of}
use Rattle.tables.specs.BadWorld.{cell_bytes}
use Rattle.tables.specs.Laws.{bad_size, bad_cells, part_shapes, part_boxes, bad_shape_lem, by_boxes}
use Rattle.tables.proofs.bad_world.Goals as goal
use Rattle.tables.proofs.bad_world.Goals.{Else-world-cell_bytes, Else-size_above}

-- past the first test, and past the second
small : (c : Else-size_above) → size_above c.args.world.window ≡ false
small c = sym c.size_above.ensures ∙ c.if-size_above.false

eight : (c : Else-world-cell_bytes) → length c.args.world.cells.now ≡ cell_bytes c.args.world.window
eight c = c.if-world-cell_bytes.false ∙ c.cell_bytes.ensures

pub returns-then-size_above : goal.returns-then-size_above
returns-then-size_above c = bad_size _ _ _ _ (sym c.size_above.ensures ∙ c.if-size_above.true)

pub cell_bytes-requires : goal.cell_bytes-requires
cell_bytes-requires c = sizes_of _ (small (goal.at.cell_bytes-requires c).Else-size_above)

pub returns-then-world-cell_bytes : goal.returns-then-world-cell_bytes
returns-then-world-cell_bytes c = bad_cells _ _ _ _ (small (goal.at.returns-then-world-cell_bytes c).Else-size_above) (λ e. c.if-world-cell_bytes.true (e ∙ sym c.cell_bytes.ensures))

pub returns-then-world-ne0 : goal.returns-then-world-ne0
returns-then-world-ne0 c = part_shapes _ _ _ _ (small (goal.at.returns-then-world-ne0 c).Else-size_above) (eight (goal.at.returns-then-world-ne0 c).Else-world-cell_bytes) c.if-world-ne0.true

pub returns-then-world-ne0-2 : goal.returns-then-world-ne0-2
returns-then-world-ne0-2 c = part_boxes _ _ _ _ (small (goal.at.returns-then-world-ne0-2 c).Else-size_above) (eight (goal.at.returns-then-world-ne0-2 c).Else-world-cell_bytes) c.if-world-ne0.false c.if-world-ne0-2.true

pub returns-then-bad_shapes : goal.returns-then-bad_shapes
returns-then-bad_shapes c = bad_shape_lem _ _ _ _ (small (goal.at.returns-then-bad_shapes c).Else-size_above) (eight (goal.at.returns-then-bad_shapes c).Else-world-cell_bytes) c.if-world-ne0.false c.if-world-ne0-2.false (sym c.bad_shapes.ensures ∙ c.if-bad_shapes.true)

pub returns : goal.returns
returns c = c.bad_boxes.ensures ∙ by_boxes _ _ _ _ (small (goal.at.returns c).Else-size_above) (eight (goal.at.returns c).Else-world-cell_bytes) c.if-world-ne0.false c.if-world-ne0-2.false (sym c.bad_shapes.ensures ∙ c.if-bad_shapes.false)
