-- `tables::bad_shapes` meets its contract. Assumes nothing.
use Rattle.std.proofs.Common.{arith, refl, rules, tests, ◌∙◌, ◌/◌, length}
use Rattle.std.proofs.lemmas.Iterator.{YieldsList-from_range}
use Rattle.std.proofs.lemmas.Iterator.Search.{any_from_yields_List}
use Rattle.tables.specs.BadWorld.{bad_shape}
use Rattle.tables.specs.Laws.{any_is}
use Rattle.tables.proofs.bad_shapes.Goals as goal

pub returns : goal.returns
returns c =
    let n = (length c.args.shapes.now / 8) in
    any_from_yields_List (bad_shape c.args.shapes.now c.args.boxes) _ _ c.any.result c.any.ensures.ran (YieldsList-from_range 0 n n refl (omega arith)) (λ x b q k. search (rules, tests)) ∙ any_is (bad_shape c.args.shapes.now c.args.boxes) n
