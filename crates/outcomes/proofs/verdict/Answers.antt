-- `outcomes::verdict` meets its contract. Assumes nothing.
use Rattle.std.proofs.Common.{ap}
use Rattle.outcomes.specs.Outcomes.{answer_of}
use Rattle.outcomes.proofs.Laws.{none_dropped, some_dropped}
use Rattle.outcomes.proofs.verdict.Goals as goal

pub returns-then-c-eq0 : goal.returns-then-c-eq0
returns-then-c-eq0 c = ap (answer_of c.args.c) (none_dropped _ c.if-c-eq0.true)

pub returns-else-c-eq0 : goal.returns-else-c-eq0
returns-else-c-eq0 c = ap (answer_of c.args.c) (some_dropped _ c.if-c-eq0.false)
