-- `digits::put_digits` meets its contract: from the last digit to the first, those written and those still to be written are always the same bytes. Assumes nothing.
use Rattle.std.proofs.Common.{◌≡◌}
use lib.Seq.{sets}
use Rattle.digits.specs.Digits.{digits}
use Rattle.digits.proofs.put_digits.Given as goal

abbrev pub invariant-loop-k : goal.invariant-loop-k
invariant-loop-k l = sets l.out l.at (digits l.base l.k l.rest) ≡ sets l.initial.out l.at (digits l.base l.width l.v)
