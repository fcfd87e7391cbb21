-- `segments::pass::reach_all` meets its contract. Assumes nothing.
use Rattle.std.proofs.Common.{◌≡◌, Some}
use Rattle.regions.specs.Regions.{cells_of}
use Rattle.world.specs.Space.{space_of}
use Rattle.support.specs.Support.{shapes_at}
use Rattle.support.specs.Pass.{pass}
use Rattle.segments.proofs.pass.reach_all.Given as goal

-- the cells that are left make of the pass what all of them make of it
abbrev pub invariant-loop-at : goal.invariant-loop-at
invariant-loop-at l = pass l.way (Some l.covered) (shapes_at (space_of l.world) (cells_of l.fn.region)) ≡ pass l.way (Some l.to) (shapes_at (space_of l.world) l.at-iterator)
