-- When an area is clear (01, The graph, "Clear"): which cells are asked, and what each must be.
use Rattle.std.specs.Prelude.{Bool, true, false, not, ◌&&◌, ◌||◌, List, [], ◌∷◌, pos, ◌-ℤ◌}
use Rattle.cells.specs.Cells.{floor_cell, ceil_cell}
use Rattle.regions.specs.Ranges.{range}
use Rattle.regions.specs.Regions.{cells_of}
use Rattle.regions.specs.declared.Region.{Region}
use Rattle.regions.specs.declared.Spot.{Spot}
use Rattle.world.specs.declared.Point.{Point}
use Rattle.world.specs.declared.Aabb.{Aabb}
use Rattle.world.specs.Boxes.{meets, corner, voxel}
use Rattle.world.specs.Space.{Space, Block}

-- whether a box intersects the area
unfoldable pub hits : Aabb → List Aabb → Bool
hits area [] = false
hits area (b ∷ bs) = meets b area || hits area bs

-- no box of the block intersects the area, and where the voxel does the block may be occupied
unfoldable pub free : Aabb → Point → Block → Bool
free area p b = (b.occupied || not (meets (voxel p) area)) && not (hits area b.boxes)

-- each of some cells is free
unfoldable pub all_free : Space → Aabb → List Spot → Bool
all_free sp area [] = true
all_free sp area (p ∷ ps) = free area (corner p.x p.y p.z) (sp p.x p.y p.z) && all_free sp area ps

-- "the cells from floor(min) to ceil(max) - 1 on each axis, and one layer below"
unfoldable pub around : Aabb → Region
around area = record {
  ys = range (floor_cell area.min.y -ℤ pos 1) (ceil_cell area.max.y -ℤ pos 1);
  xs = range (floor_cell area.min.x) (ceil_cell area.max.x -ℤ pos 1);
  zs = range (floor_cell area.min.z) (ceil_cell area.max.z -ℤ pos 1);
}

-- 01, The graph: "Clear: of the cells from floor(min) to ceil(max) - 1 on each axis, and one layer below, none has a box that intersects the area, and none whose
-- voxel does lacks bit 1."
unfoldable pub clear : Space → Aabb → Bool
clear sp area = all_free sp area (cells_of (around area))
