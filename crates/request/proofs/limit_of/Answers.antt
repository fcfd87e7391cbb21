-- `request::limit_of` meets its contract. Assumes nothing.
use Rattle.std.proofs.Common.{rules}
use Rattle.std.specs.Float.Ieee.{of_bits}
use lib.Ieee.{of_int}
use Rattle.request.specs.Request.{limit}
use Rattle.request.proofs.limit_of.Goals as goal

pub returns : goal.returns
unfolding limit of_int of_bits
returns c = search rules
