-- `mob_request::request_of` meets its contract. Assumes nothing.
use Rattle.std.specs.Float.Ieee.{of_bits}
use lib.Ieee.{of_int}
use Rattle.mob_request.specs.Asked.{request_of}
use Rattle.mob_request.proofs.request_of.Goals as goal

pub returns-then-policy : goal.returns-then-policy
unfolding request_of of_int of_bits
returns-then-policy c = rw c.if-policy.true

pub returns-else-policy : goal.returns-else-policy
unfolding request_of of_int of_bits
returns-else-policy c = rw c.if-policy.false
