-- `clear::all_free` meets its contract. Assumes nothing.
use Rattle.std.proofs.Common.{◌≡◌}
use Rattle.regions.specs.Regions.{cells_of}
use Rattle.world.specs.Space.{space_of}
use Rattle.clear.specs.Laws.{corridor_along, corridor_behind}
use Rattle.clear.proofs.all_free.Given as goal

-- the cells that are left go on behind the first door so far
abbrev pub invariant-loop-at : goal.invariant-loop-at
invariant-loop-at l = corridor_along (space_of l.world) l.area (cells_of l.fn.region) ≡ corridor_behind (space_of l.world) l.area l.door l.at-iterator
