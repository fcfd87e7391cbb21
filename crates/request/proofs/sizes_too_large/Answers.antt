-- `request::sizes_too_large` meets its contract. Assumes nothing.
use Rattle.std.proofs.Common.{rules}
use Rattle.std.specs.Float.Ieee.{of_bits}
use lib.Ieee.{of_int}
use Rattle.request.specs.Request.{sizes_too_large}
use Rattle.request.proofs.sizes_too_large.Goals as goal

pub returns : goal.returns
unfolding sizes_too_large of_int of_bits
returns c = search rules
