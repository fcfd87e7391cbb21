-- The cells of a region, and how a loop goes through them: layer by layer along y, in a layer row by row along z, in a row cell by cell along x,
-- as the cell table has them.
-- Definitions only.
use Rattle.std.specs.Prelude.{◌≡◌, true, ◌&&◌, cond, List, [], ◌∷◌, ◌++◌, Option, Some, None, ℤ, pos, ◌+ℤ◌}
use Rattle.std.specs.Int.Signed.{lt_z, le_z}
use Rattle.regions.specs.declared.Range.{Range}
use Rattle.regions.specs.declared.Region.{Region}
use Rattle.regions.specs.declared.Spot.{Spot}
use Rattle.regions.specs.Ranges.{along}

-- the cells, in that order
unfoldable pub cells_of : Region → List Spot
cells_of r =
    along (λ y.
    along (λ z.
    along (λ x. record { x = x; y = y; z = z } ∷ []) r.xs.first r.xs.last) r.zs.first r.zs.last) r.ys.first r.ys.last

-- the first cell, where each axis has one
unfoldable pub first_in : Region → Option Spot
first_in r =
    cond (le_z r.ys.first r.ys.last && le_z r.zs.first r.zs.last && le_z r.xs.first r.xs.last)
    (Some (record { x = r.xs.first; y = r.ys.first; z = r.zs.first }))
    None

-- after a cell: the next one of its row; past the row's last the first of the next row; past the layer's last the first of the next layer, if there is one
unfoldable pub next_in : Region → Spot → Option Spot
next_in r p =
    cond (lt_z p.x r.xs.last) (Some (record { x = p.x +ℤ pos 1; y = p.y; z = p.z }))
    (cond (lt_z p.z r.zs.last) (Some (record { x = r.xs.first; y = p.y; z = p.z +ℤ pos 1 }))
    (cond (lt_z p.y r.ys.last) (Some (record { x = r.xs.first; y = p.y +ℤ pos 1; z = r.zs.first })) None))

-- ---- what is left from a cell on

module _ (r : Region) where
  -- the cells of a row from x on, those of a layer from the row z on, and those from the layer y on
  unfoldable pub row_from : ℤ → ℤ → ℤ → List Spot
  row_from y z x = along (λ k. record { x = k; y = y; z = z } ∷ []) x r.xs.last

  unfoldable pub layer_from : ℤ → ℤ → List Spot
  layer_from y z = along (λ k. row_from y k r.xs.first) z r.zs.last

  unfoldable pub layers_from : ℤ → List Spot
  layers_from y = along (λ k. layer_from k r.zs.first) y r.ys.last

  -- the rest of the cell's row, of its layer, and of the region
  unfoldable pub from : Spot → List Spot
  from p = row_from p.y p.z p.x ++ (layer_from p.y (p.z +ℤ pos 1) ++ layers_from (p.y +ℤ pos 1))

  -- what a loop has before it, at its next cell
  abbrev pub to_come : Option Spot → List Spot
  to_come None = []
  to_come (Some p) = from p

-- a number is one of a range, and a cell one of a region
pub record Within (r : Range) (k : ℤ) : Type 0 where
  pub low : le_z r.first k ≡ true
  pub high : le_z k r.last ≡ true

pub record Inside (r : Region) (p : Spot) : Type 0 where
  pub y : Within r.ys p.y
  pub z : Within r.zs p.z
  pub x : Within r.xs p.x

-- a loop's next cell, if there is one, is one of the region
abbrev pub Proper : Region → Option Spot → Type 0
Proper r None = Unit {0}
Proper r (Some p) = Inside r p
