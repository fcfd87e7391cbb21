-- `pairs::has_step` meets its contract. Assumes nothing.
use Rattle.std.proofs.Common.{◌∙◌, arith}
use Rattle.world.specs.Space.{space_of}
use Rattle.pairs.specs.Laws.{tried_none, tried_over, looked_is, tried_met, tried_next}
use Rattle.pairs.proofs.has_step.Goals as goal

pub loop-n-init : goal.loop-n-init
loop-n-init c = tried_none (space_of c.args.query.world) c.args.query.request c.args.query.body c.args.from c.args.v _ c.none-sides.ensures

pub look_column-requires-clause-looked_value : goal.look_column-requires-clause-looked_value
look_column-requires-clause-looked_value c = c.looked.ensures ∙ looked_is _ _ _ _ _ c.loop-n.invariant

pub returns-in_default : goal.returns-in_default
returns-in_default c = tried_met (space_of c.args.query.world) c.args.query.request c.args.query.body c.args.from c.args.v c.loop-n.invariant c.loop-n-test.true c.in_default.ensures

pub loop-n-preserved : goal.loop-n-preserved
loop-n-preserved c = rw c.answered-sides.ensures (tried_next (space_of c.args.query.world) c.args.query.request c.args.query.body c.args.from c.args.v c.loop-n.invariant c.loop-n-test.true c.in-Some.level c.in-Some.ensures)

pub returns : goal.returns
returns c = tried_over _ _ _ _ _ c.loop-n.invariant (omega arith)
