-- `pairs::has_step` meets its contract. Assumes nothing.
use Rattle.world.specs.Space.{space_of}
use Rattle.pairs.specs.Laws.{Tried}
use Rattle.pairs.proofs.has_step.Given as goal

abbrev pub invariant-loop-n : goal.invariant-loop-n
invariant-loop-n l = Tried (space_of l.query.world) l.query.request l.query.body l.from l.v l.sides l.n
