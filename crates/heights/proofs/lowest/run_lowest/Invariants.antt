-- `heights::lowest::run_lowest` meets its contract. Assumes nothing.
use Rattle.std.proofs.Common.{◌≤◌, ◌≡◌, length}
use mathlib.Core.List.{map, foldl}
use Rattle.world.specs.declared.Aabb.{Aabb}
use Rattle.world.specs.Boxes.{moved}
use Rattle.world.specs.Run.{boxes_left}
use Rattle.heights.specs.Heights.{tops_of}
use Rattle.heights.specs.Put.{taken}
use Rattle.heights.proofs.lowest.run_lowest.Given as goal

abbrev pub invariant-loop-b : goal.invariant-loop-b
invariant-loop-b l =
    (length l.room ≡ length l.initial.room) × (l.so_far ≤ length l.room)
    × (foldl (taken l.after) (l.initial.room, l.count) (tops_of l.shaft.band l.shaft.x l.shaft.z (map (λ (b : Aabb). moved b l.by) (boxes_left l.fn.run)))
    ≡ foldl (taken l.after) (l.room, l.so_far) (tops_of l.shaft.band l.shaft.x l.shaft.z (map (λ (b : Aabb). moved b l.by) (boxes_left l.b-iterator))))
