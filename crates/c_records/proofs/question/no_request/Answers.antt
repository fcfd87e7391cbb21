-- `c_records::question::no_request` meets its contract. Assumes nothing.
use Rattle.std.specs.Float.Ieee.{of_bits}
use Rattle.c_records.specs.Asked.{no_request}
use Rattle.c_records.proofs.question.no_request.Goals as goal

pub returns : goal.returns
unfolding no_request of_bits
returns c = rw (c.nowhere.ensures, c.nowhere-2.ensures)
