-- `reach::put_open` meets its contract. Assumes nothing.
use Rattle.std.proofs.Common.{arith, ℕ, ◌<◌, w32, Fits}
use Rattle.rooms.specs.Rooms.{nobody}
use Rattle.reach.proofs.put_open.Goals as goal

-- from the one fact that it needs: `omega` reads all that is in scope
fits : {k : ℕ} → k < nobody → Fits w32 k
fits h = omega arith

pub overflow_cast-node : goal.overflow_cast-node
overflow_cast-node c = fits c.requires.2

pub returns : goal.returns
returns c = (c.put_node.ensures.wrote c.requires.0, c.put_entry.ensures.wrote c.requires.1)
