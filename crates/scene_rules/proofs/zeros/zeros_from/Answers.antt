-- `scene_rules::zeros::zeros_from` meets its contract. Assumes nothing.
use Rattle.std.proofs.Common.{arith, refl, sym, ◌∙◌}
use Rattle.scene_rules.specs.Laws.{zeros_on, zeros_end}
use Rattle.scene_rules.proofs.zeros.zeros_from.Goals as goal

pub loop-i-init : goal.loop-i-init
loop-i-init c = refl

pub loop-i-preserved : goal.loop-i-preserved
loop-i-preserved c = c.loop-i.invariant ∙ zeros_on c.loop-i.all c.args.bytes.now c.loop-i.i (omega arith)

pub returns : goal.returns
returns c = sym (c.loop-i.invariant ∙ zeros_end c.loop-i.all c.args.bytes.now c.loop-i.i (omega arith))
