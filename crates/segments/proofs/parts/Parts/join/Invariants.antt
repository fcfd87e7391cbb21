-- `segments::parts::Parts::join` meets its contract. Assumes nothing.
use Rattle.std.proofs.Common.{List}
use Rattle.support.specs.declared.Interval.{Interval}
use Rattle.support.specs.Joints.{Among, Joined}
use Rattle.segments.proofs.parts.Parts.join.Given as goal

-- what is covered is joined of the parts, and so are those that are left
abbrev pub invariant-loop-part : goal.invariant-loop-part
invariant-loop-part l = record {
  joined : Joined l.self l.covered l.so_far;
  left : (is : List Interval) → Among is l.self → Among is l.part-iterator.iter.rest.now;
}
