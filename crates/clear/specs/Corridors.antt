-- The door of an area (02, No. 5): "the state number, as u64, of the first crossed cell that is known, lacks bit 4 and whose voxel intersects a corridor area, taken in
-- lift, crossing, settle order and within each in the clear check's y, x, z order; 4294967295 when there is none." A cell that is known and lacks bit 4 has a door
-- (`door` of a `Block`: world, Space); here is which of an area's cells comes first. The three areas of a way are in `ways`. Definitions only.
use Rattle.std.specs.Prelude.{ℕ, cond, List, [], ◌∷◌, eqb, Option}
use Rattle.std.specs.Bool.{then_some}
use Rattle.regions.specs.Ranges.{along}
use Rattle.regions.specs.declared.Spot.{Spot}
use Rattle.world.specs.declared.Point.{Point}
use Rattle.world.specs.declared.Aabb.{Aabb}
use Rattle.world.specs.Boxes.{meets, corner, voxel}
use Rattle.world.specs.Space.{Space, Block, no_door}
use Rattle.clear.specs.Clear.{around, clear}

-- the first of two: the second where the first is none
unfoldable pub or_else : ℕ → ℕ → ℕ
or_else a b = cond (eqb a no_door) b a

-- "4294967295 when there is none"
unfoldable pub first_door : (Spot → ℕ) → List Spot → ℕ
first_door f [] = no_door
first_door f (p ∷ ps) = or_else (f p) (first_door f ps)

-- the door of a cell "whose voxel intersects" the area
unfoldable pub cell_door : Aabb → Point → Block → ℕ
cell_door area p b = cond (meets (voxel p) area) b.door no_door

-- "the clear check's y, x, z order": the cells that the clear check looks at, z fastest. The layer below is among them: its voxels end at floor(min y), and so none
-- of them intersects the area. (Where the floor stops at the lower end of an i32, that layer lies below every window, and is unknown.)
unfoldable pub crossed_cells : Aabb → List Spot
crossed_cells area =
    along (λ y.
    along (λ x.
    along (λ z. record { x = x; y = y; z = z } ∷ []) (around area).zs.first (around area).zs.last) (around area).xs.first (around area).xs.last)
    (around area).ys.first (around area).ys.last

abbrev pub door_at : Space → Aabb → Spot → ℕ
door_at sp area p = cell_door area (corner p.x p.y p.z) (sp p.x p.y p.z)

unfoldable pub door_in : Space → Aabb → ℕ
door_in sp area = first_door (door_at sp area) (crossed_cells area)

-- a corridor area: the door that it has, where it is clear
unfoldable pub corridor : Space → Aabb → Option ℕ
corridor sp area = then_some (clear sp area) (door_in sp area)
