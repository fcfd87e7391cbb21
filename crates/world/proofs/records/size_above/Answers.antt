-- `world::records::size_above` meets its contract. Assumes nothing.
use Rattle.std.proofs.Common.{rules}
use Rattle.world.specs.Sizes.{size_above}
use Rattle.world.proofs.records.size_above.Goals as goal

pub returns : goal.returns
unfolding size_above
returns c = search rules
