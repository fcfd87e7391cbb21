-- `heights::lowest::column_lowest` meets its contract. Assumes nothing.
use mathlib.Core.List.{foldl}
use Rattle.std.proofs.Common.{◌≤◌, ◌≡◌, length}
use Rattle.regions.specs.Ranges.{along}
use Rattle.world.specs.Space.{space_of}
use Rattle.heights.specs.Heights.{tops_in}
use Rattle.heights.specs.Put.{taken}
use Rattle.heights.proofs.lowest.column_lowest.Given as goal

abbrev pub invariant-loop-y : goal.invariant-loop-y
invariant-loop-y l =
    (length l.room ≡ length l.initial.room) × (l.count ≤ length l.room)
    × (foldl (taken l.after) (l.initial.room, 0) (along (λ y. tops_in l.shaft.band l.shaft.x l.shaft.z (space_of l.world l.cx y l.cz)) l.fn.layers.first l.fn.layers.last)
    ≡ foldl (taken l.after) (l.room, l.count) (along (λ y. tops_in l.shaft.band l.shaft.x l.shaft.z (space_of l.world l.cx y l.cz)) l.y l.fn.layers.last))
