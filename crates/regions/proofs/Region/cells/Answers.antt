-- `regions::Region::cells` meets its contract. Assumes nothing.
use Rattle.regions.specs.RegionLaws.{begins}
use Rattle.regions.proofs.Region.cells.Goals as goal

pub invariant_of-result : goal.invariant_of-result
invariant_of-result c = rw c.first_in-next.ensures (begins c.args.self).1

pub returns : goal.returns
returns c = rw c.first_in-next.ensures (begins c.args.self).0
