-- `search::columns::column` meets its contract. The loop's invariant: the steps of the heights gone have been visited, the column's steps are those and the
use Rattle.world.specs.Space.{space_of}
use Rattle.heights.specs.Heights.{tops, sorted}
use Rattle.heights.proofs.BatchLaws.{Batched}
use Rattle.steps.specs.Columns.{column_if}
use Rattle.steps.specs.Expansion.{steps_after, heights_left}
use Rattle.search.specs.Steps.{Went}
use Rattle.search.proofs.Laws.Steps.{Along}
use Rattle.search.proofs.columns.column.Given as goal

-- ones behind the last height, and the batch holds the column's heights from there on. The measure is how many heights are left. Assumes nothing.
abbrev pub invariant-loop-y : goal.invariant-loop-y
invariant-loop-y l = record {
  batched : Batched l.after (sorted (tops (space_of l.task.query.world) l.shaft.band l.shaft.x l.shaft.z)) l.room l.batch;
  along : Along (λ ws. Went l.task.aim l.at l.n ws l.initial.gone l.gone l.initial.nodes l.initial.front l.nodes l.front)
      (column_if (space_of l.task.query.world) l.task.query.request l.task.query.body l.at.point l.n)
      (steps_after (space_of l.task.query.world) l.task.query.request l.task.query.body l.at.point l.n l.after);
}

abbrev pub decreases-loop-y : goal.decreases-loop-y
decreases-loop-y l = heights_left (space_of l.task.query.world) l.task.query.request l.task.query.body l.at.point l.n l.after
