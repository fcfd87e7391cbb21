-- `boxes::offset` meets its contract. Assumes nothing.
use Rattle.world.specs.Boxes.{moved}
use Rattle.boxes.proofs.offset.Goals as goal

pub returns : goal.returns
unfolding moved
returns c = rw (c.sum.ensures, c.sum-2.ensures)
