-- `pairs::look_column` meets its contract. Assumes nothing.
use Rattle.std.proofs.Common.{Some}
use Rattle.world.specs.Space.{space_of}
use Rattle.steps.specs.Columns.{column_if}
use Rattle.steps.specs.Expansion.{steps_after, heights_left}
use Rattle.pairs.specs.Laws.{Noted}
use Rattle.pairs.proofs.look_column.Given as goal

abbrev pub invariant-loop-y : goal.invariant-loop-y
invariant-loop-y l = Noted l.v l.from (column_if (space_of l.query.world) l.query.request l.query.body l.from l.n) (Some l.level) (steps_after (space_of l.query.world) l.query.request l.query.body l.from l.n l.after)

abbrev pub decreases-loop-y : goal.decreases-loop-y
decreases-loop-y l = heights_left (space_of l.query.world) l.query.request l.query.body l.from l.n l.after
