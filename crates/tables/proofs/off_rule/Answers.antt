-- `tables::off_rule` meets its contract. Assumes nothing.
use Rattle.std.proofs.Common.{arith, refl, sym, ap, ◌∙◌, not, ◌*◌}
use Rattle.world.specs.Laws.{a_box}
use Rattle.tables.specs.Laws.{rule_at}
use Rattle.tables.proofs.off_rule.Goals as goal

pub unwrap-requires : goal.unwrap-requires
unwrap-requires c = rw (c.box_at.ensures, a_box c.args.boxes.now (48 * c.args.i) (omega arith)) refl

pub returns : goal.returns
returns c = ap not c.box_good.ensures ∙ rule_at _ _ _ (sym c.box_at.ensures ∙ c.unwrap.ensures)
