-- `segments::far::join_far` meets its contract. Assumes nothing.
use Rattle.support.specs.Joints.{joined_gathered}
use Rattle.segments.proofs.far.join_far.Goals as goal

pub returns : goal.returns
returns c = joined_gathered (rw c.new-parts.ensures at c.keep_all.ensures) c.join.ensures
