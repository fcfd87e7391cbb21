-- `lengths::length_of` meets its contract. Assumes nothing.
use Rattle.std.proofs.Common.{◌-◌, ◌/◌, ◌≡◌, length}
use Rattle.lengths.specs.Length.{edge_length, sum_onward, stops_from, length_of}
use Rattle.lengths.proofs.length_of.Given as goal

abbrev pub invariant-loop-k : goal.invariant-loop-k
invariant-loop-k l = length_of l.list ≡ sum_onward edge_length l.total l.from (stops_from l.list l.k (length l.list / 48 - l.k))
