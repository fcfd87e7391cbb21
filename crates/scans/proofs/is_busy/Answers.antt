-- `scans::is_busy` meets its contract. Assumes nothing.
use Rattle.std.proofs.Common.{◌||◌, eqb}
use Rattle.scans.proofs.is_busy.Goals as goal

pub returns : goal.returns
returns c = λ i. eqb (c.get_node.ensures i).closed 0 || eqb (c.get_entry.ensures i).waiting 1
