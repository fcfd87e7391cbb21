-- `points::difference` meets its contract. Assumes nothing.
use Rattle.std.proofs.Common.{rules}
use Rattle.world.specs.Boxes.{minus}
use Rattle.points.proofs.difference.Goals as goal

pub returns : goal.returns
unfolding minus
returns c = search rules
