-- `boxes::from_feet` meets its contract. Assumes nothing.
use Rattle.world.specs.Boxes.{from_feet, plus}
use Rattle.boxes.proofs.from_feet.Goals as goal

pub returns : goal.returns
unfolding from_feet plus
returns c = rw c.sum.ensures
