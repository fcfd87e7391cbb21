-- `boxes::voxel_at` meets its contract. Assumes nothing.
use Rattle.world.specs.Boxes.{voxel}
use Rattle.boxes.proofs.voxel_at.Goals as goal

pub returns : goal.returns
unfolding voxel
returns c = rw c.sum.ensures
