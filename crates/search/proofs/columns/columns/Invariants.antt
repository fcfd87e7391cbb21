-- `search::columns::columns` meets its contract. The loop's invariant: the steps of the columns gone have been visited, the sides are those of the columns gone,
use Rattle.std.proofs.Common.{◌≡◌}
use Rattle.world.specs.Space.{space_of}
use Rattle.steps.specs.Columns.{steps_from}
use Rattle.steps.specs.Expansion.{columns_from, sides_before}
use Rattle.search.specs.Steps.{Stepped}
use Rattle.search.proofs.Laws.Steps.{Along}
use Rattle.search.proofs.columns.columns.Given as goal

-- and the point's steps are those and the ones of the columns left. Assumes nothing.
abbrev pub invariant-loop-n : goal.invariant-loop-n
invariant-loop-n l = record {
  answered : l.gone.sides ≡ sides_before (space_of l.task.query.world) l.task.query.request l.task.query.body l.at.point l.n;
  along : Along (λ ws. Stepped l.task.aim l.at ws l.initial.gone.counts l.gone.counts l.initial.nodes l.initial.front l.nodes l.front)
      (steps_from (space_of l.task.query.world) l.task.query.request l.task.query.body l.at.point)
      (columns_from (space_of l.task.query.world) l.task.query.request l.task.query.body l.at.point l.n);
}
