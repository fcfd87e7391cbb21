-- `regions::next_in` meets its contract. Assumes nothing.
use Rattle.std.proofs.Common.{arith, to_z-of_z}
use Rattle.std.proofs.lemmas.Int.{ints}
use Rattle.regions.specs.Regions.{next_in}
use Rattle.regions.proofs.next_in.Goals as goal

pub returns-then-x-xs : goal.returns-then-x-xs
unfolding next_in
returns-then-x-xs c = grind (arith, ints, to_z-of_z)

pub returns-then-z-zs : goal.returns-then-z-zs
unfolding next_in
returns-then-z-zs c = grind (arith, ints, to_z-of_z)

pub returns-then-y-ys : goal.returns-then-y-ys
unfolding next_in
returns-then-y-ys c = grind (arith, ints, to_z-of_z)

pub returns-else-y-ys : goal.returns-else-y-ys
unfolding next_in
returns-else-y-ys c = grind (arith, ints, to_z-of_z)
