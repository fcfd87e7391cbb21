-- `clear::run_hits` meets its contract. Assumes nothing.
use Rattle.std.proofs.Common.{◌∙◌, refl, rules, tests}
use Rattle.std.proofs.lemmas.Iterator.Consumers.{YieldsList-from_first}
use Rattle.std.proofs.lemmas.Iterator.Search.{any_from_yields_List}
use Rattle.world.specs.declared.Aabb.{Aabb}
use Rattle.world.specs.Boxes.{moved, meets}
use Rattle.world.specs.Run.{boxes_left}
use Rattle.clear.specs.Laws.{hits_any}
use Rattle.clear.proofs.run_hits.Goals as goal

pub returns : goal.returns
returns c =
    any_from_yields_List (λ (b : Aabb). meets (moved b c.args.by) c.args.area) c.any.new.self _ c.any.result c.any.ensures.ran (YieldsList-from_first (λ b. b) boxes_left _ refl) (λ x b q k. search (rules, tests))
    ∙ hits_any c.args.area c.args.by _
