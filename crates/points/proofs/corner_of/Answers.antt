-- `points::corner_of` meets its contract. Assumes nothing.
use Rattle.std.proofs.Common.{w64, to_z-of_z}
use Rattle.world.specs.Boxes.{corner}
use Rattle.points.proofs.corner_of.Goals as goal

pub returns : goal.returns
unfolding corner
returns c =
    let x = c.float_cell.ensures in
    let y = c.float_cell-2.ensures in
    let z = c.float_cell-3.ensures in
    rw (x, y, z, to_z-of_z {w = w64} c.ranges.x, to_z-of_z {w = w64} c.ranges.y, to_z-of_z {w = w64} c.ranges.z)
