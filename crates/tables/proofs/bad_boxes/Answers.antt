-- `tables::bad_boxes` meets its contract. Assumes nothing.
use Rattle.std.proofs.Common.{arith, refl, rules, tests, ◌∙◌, ◌/◌, length}
use Rattle.std.proofs.lemmas.Iterator.{YieldsList-from_range}
use Rattle.std.proofs.lemmas.Iterator.Search.{any_from_yields_List}
use Rattle.tables.specs.BadWorld.{off_rule}
use Rattle.tables.specs.Laws.{any_is}
use Rattle.tables.proofs.bad_boxes.Goals as goal

pub returns : goal.returns
returns c =
    let n = (length c.args.boxes.now / 48) in
    any_from_yields_List (off_rule c.args.boxes.now) _ _ c.any.result c.any.ensures.ran (YieldsList-from_range 0 n n refl (omega arith)) (λ x b q k. search (rules, tests)) ∙ any_is (off_rule c.args.boxes.now) n
