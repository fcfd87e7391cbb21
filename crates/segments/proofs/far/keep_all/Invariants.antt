-- `segments::far::keep_all` meets its contract. Assumes nothing.
use Rattle.std.proofs.Common.{List}
use Rattle.regions.specs.Regions.{cells_of}
use Rattle.world.specs.Space.{space_of}
use Rattle.support.specs.declared.Interval.{Interval}
use Rattle.support.specs.Support.{shapes_at}
use Rattle.support.specs.PassLaws.{found}
use Rattle.support.specs.Joints.{Gathers}
use Rattle.segments.proofs.far.keep_all.Given as goal

-- what the cells left make of the parts, all cells make of the parts at the start
abbrev pub invariant-loop-at : goal.invariant-loop-at
invariant-loop-at l =
    (d : List Interval) → Gathers (found l.way (shapes_at (space_of l.world) l.at-iterator)) l.parts d → Gathers (found l.way (shapes_at (space_of l.world) (cells_of l.fn.region))) l.initial.parts d
