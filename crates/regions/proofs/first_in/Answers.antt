-- `regions::first_in` meets its contract. Assumes nothing.
use Rattle.std.proofs.Common.{arith, to_z-of_z}
use Rattle.std.proofs.lemmas.Int.{ints}
use Rattle.regions.specs.Regions.{first_in}
use Rattle.regions.proofs.first_in.Goals as goal

pub returns-then-more : goal.returns-then-more
unfolding first_in
returns-then-more c = grind (arith, ints, to_z-of_z)

pub returns-else-more : goal.returns-else-more
unfolding first_in
returns-else-more c = grind (arith, ints, to_z-of_z)
