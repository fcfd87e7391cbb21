-- `boxes::expand_towards` meets its contract. Assumes nothing.
use Rattle.world.specs.Boxes.{expand_towards}
use Rattle.boxes.proofs.expand_towards.Goals as goal

pub returns : goal.returns
unfolding expand_towards
returns c = rw (c.sum.ensures, c.sum-2.ensures, c.span-grown.ensures)
