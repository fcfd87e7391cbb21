-- Laws that the code goes by in the table of columns.
use Rattle.std.specs.Prelude.{ℕ, ◌≤◌, ◌≡◌, ℤ, pos, ◌+ℤ◌, Float}
use Rattle.std.proofs.Common.{arith, SFits}
use Rattle.std.proofs.Math.ListN.{get_or-eq_default}
use Rattle.std.specs.Int.{w32, w64}
use Rattle.cells.specs.Cells.{floor_cell}
use Rattle.cells.specs.CellLaws.{floor_range}
use Rattle.cells.specs.Parts.{sum, within, over_mag, under_mag, upper, lower}
use Rattle.steps.specs.Columns.{offsets, offset_at}

-- a column's number fits
pub column_fits : (x : Float) (d : ℤ) → SFits w32 d → SFits w64 (floor_cell x +ℤ d)
column_fits x d h =
    within w64 (floor_cell x +ℤ d) (omega (arith, sum (floor_cell x) d, over_mag (floor_cell x), under_mag (floor_cell x), floor_range x, upper w32 d h, lower w32 d h)) (omega (arith, sum (floor_cell x) d, over_mag (floor_cell x), under_mag (floor_cell x), floor_range x, upper w32 d h, lower w32 d h))

-- past the table's end
pub offset_past : (n : ℕ) → 9 ≤ n → offset_at n ≡ (pos 0, pos 0)
unfolding offset_at
offset_past n h = get_or-eq_default offsets (pos 0, pos 0) h
