-- `root::distance` meets its contract: it is the square root of the sum, by definition. Assumes nothing.
use Rattle.root.specs.Distance.{distance}
use Rattle.root.proofs.distance.Goals as goal

pub returns : goal.returns
unfolding distance
returns c = c.square_root.ensures
