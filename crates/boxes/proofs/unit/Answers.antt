-- `boxes::unit` meets its contract. Assumes nothing.
use Rattle.std.proofs.Common.{rules}
use Rattle.world.specs.Boxes.{cube}
use Rattle.boxes.proofs.unit.Goals as goal

pub returns : goal.returns
unfolding cube
returns c = search rules
