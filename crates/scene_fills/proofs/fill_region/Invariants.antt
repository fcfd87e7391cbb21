-- `scene_fills::fill_region` meets its contract. Assumes nothing.
use mathlib.Core.List.{foldl}
use Rattle.std.proofs.Common.{◌≡◌, length}
use Rattle.regions.specs.Regions.{cells_of, to_come, Proper}
use Rattle.scene_fills.specs.Fills.{with_cell}
use Rattle.scene_fills.proofs.fill_region.Given as goal

-- the next cell lies in the region, and filling it and those behind it too makes of the table what filling all the region's cells makes of it
abbrev pub invariant-loop-next : goal.invariant-loop-next
invariant-loop-next l = record {
  proper : Proper l.region l.next;
  fills : foldl (with_cell l.w.sx l.w.sz l.state l.shape) l.initial.cells (cells_of l.region) ≡ foldl (with_cell l.w.sx l.w.sz l.state l.shape) l.cells (to_come l.region l.next);
}

abbrev pub decreases-loop-next : goal.decreases-loop-next
decreases-loop-next l = length (to_come l.region l.next)
