-- `points::sum` meets its contract. Assumes nothing.
use Rattle.std.proofs.Common.{rules}
use Rattle.world.specs.Boxes.{plus}
use Rattle.points.proofs.sum.Goals as goal

pub returns : goal.returns
unfolding plus
returns c = search rules
