-- `segments::carries` meets its contract. The loop's invariant: what is covered is covered by 01's sentence. The measure is how many intervals end beyond it.
-- Assumes nothing.
use Rattle.regions.specs.Regions.{cells_of}
use Rattle.world.specs.Space.{space_of}
use Rattle.support.specs.Cover.{CoversTo}
use Rattle.support.specs.Support.{shapes_at}
use Rattle.support.specs.PassLaws.{found, left}
use Rattle.segments.proofs.carries.Given as goal

abbrev pub invariant-loop-to : goal.invariant-loop-to
invariant-loop-to l = CoversTo (found l.way (shapes_at (space_of l.world) (cells_of l.region))) l.covered

abbrev pub decreases-loop-to : goal.decreases-loop-to
decreases-loop-to l = left l.way (shapes_at (space_of l.world) (cells_of l.region)) l.covered
