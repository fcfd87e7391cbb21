-- `c_records::whole::nowhere` meets its contract. Assumes nothing.
use Rattle.std.proofs.Common.{refl}
use Rattle.std.specs.Float.Ieee.{of_bits}
use lib.Ieee.{div}
use Rattle.c_records.specs.Asked.{no_point}
use Rattle.c_records.proofs.whole.nowhere.Goals as goal

pub returns : goal.returns
unfolding no_point div of_bits
returns c = refl
