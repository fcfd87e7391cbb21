-- What a scene's record of kind 6 makes of the cell table (01, "Scenes and walkprint"): the table after it, of the table before. The bytes that it does not
-- name stay.
use Rattle.std.specs.Prelude.{ℕ, ◌+◌, ◌*◌, cond, ℤ, pos, ◌-ℤ◌, nat_abs}
use mathlib.Core.List.{List, foldl}
use Rattle.std.specs.Int.Signed.{lt_z}
use Rattle.fields.specs.Little.{field, signed_field}
use Rattle.regions.specs.declared.Range.{Range}
use Rattle.regions.specs.declared.Region.{Region}
use Rattle.regions.specs.declared.Spot.{Spot}
use Rattle.regions.specs.Ranges.{range}
use Rattle.regions.specs.Regions.{cells_of}
use Rattle.world.specs.declared.Window.{Window}
use Rattle.world.specs.Sizes.{size_above}
use Rattle.scene_tables.specs.Made.{with_entry}

-- "fill: min and max corners inclusive as i32, state, shape; clipped, later ones win, an inverted one fills nothing"

-- "clipped": of so many cells of an axis, those from one to another, both counted from the window's origin
abbrev pub clipped : ℕ → ℤ → ℤ → Range
clipped size from to = range (cond (lt_z from (pos 0)) (pos 0) from) (cond (lt_z to (pos size)) to (pos size -ℤ pos 1))

-- "min and max corners": of an axis, the min at an offset and the max 12 bytes behind it
unfoldable pub axis_of : List ℕ → ℕ → ℤ → ℕ → Range
axis_of s at origin size = clipped size (signed_field s at -ℤ origin) (signed_field s (at + 12) -ℤ origin)

-- the cells that are filled
unfoldable pub region_of : Window → List ℕ → Region
region_of w s = record { ys = axis_of s 12 w.y w.sy; zs = axis_of s 16 w.z w.sz; xs = axis_of s 8 w.x w.sx }

-- "x runs fastest, then z, then y": a cell's record, of the window's sizes in x and z. A cell of the window has no number below 0.
unfoldable pub record_at : ℕ → ℕ → Spot → ℕ
record_at sx sz p = nat_abs p.x + sx * (nat_abs p.z + sz * nat_abs p.y)

-- "state, shape": the table with a cell filled
abbrev pub with_cell : ℕ → ℕ → ℕ → ℕ → List ℕ → Spot → List ℕ
with_cell sx sz state shape t p = with_entry state shape (record_at sx sz p) t

-- every cell that is filled; a window with a size above 256, which no scene has, has no cells
unfoldable pub filled : Window → List ℕ → List ℕ → List ℕ
filled w s t = cond (size_above w) t (foldl (with_cell w.sx w.sz (field 4 s 32) (field 4 s 36)) t (cells_of (region_of w s)))
