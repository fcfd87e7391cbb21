-- `rooms::records::offset_of` meets its contract. Assumes nothing.
use Rattle.std.proofs.Common.{◌*◌, arith}
use Rattle.rooms.proofs.Laws.Fields.{offset_least}
use Rattle.rooms.proofs.records.offset_of.Goals as goal

pub returns : goal.returns
returns c = let a = c.args in offset_least a.room.now (a.size * a.k) (omega arith) (λ h. omega arith) (λ h. omega arith)
