-- `scene_records::layout::cell_count` meets its contract. Assumes nothing.
use Rattle.world.specs.Sizes.{sizes_of, layer_small, cells_small}
use Rattle.scene_records.specs.Layout.{cell_count}
use mathlib.Core.Path.{sym, ◌∙◌}
use native.Mathlib.Omega.{arith}
use Rattle.scene_records.proofs.layout.cell_count.Goals as goal

pub overflow_mul-result : goal.overflow_mul-result
overflow_mul-result c =
    let w = c.args.w in
    record { fits = omega (arith, layer_small w (sizes_of w (sym c.size_above.ensures ∙ c.if-size_above.false))) }

pub overflow_mul-result-else-size_above : goal.overflow_mul-result-else-size_above
overflow_mul-result-else-size_above c =
    let w = c.args.w in
    record { fits = omega (arith, cells_small w (sizes_of w (sym c.size_above.ensures ∙ c.if-size_above.false))) }

pub returns-then-size_above : goal.returns-then-size_above
unfolding cell_count
returns-then-size_above c = rw (sym c.size_above.ensures ∙ c.if-size_above.true)

pub returns-else-size_above : goal.returns-else-size_above
unfolding cell_count
returns-else-size_above c = rw (sym c.size_above.ensures ∙ c.if-size_above.false)
