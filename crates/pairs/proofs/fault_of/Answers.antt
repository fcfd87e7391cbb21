-- `pairs::fault_of` meets its contract. Assumes nothing.
use Rattle.std.proofs.Common.{sym, ◌∙◌}
use Rattle.pairs.specs.Pairs.{pair_fault}
use Rattle.pairs.proofs.fault_of.Goals as goal

pub returns-then-is_joined : goal.returns-then-is_joined
unfolding pair_fault
returns-then-is_joined c = rw (← c.point_of.ensures, ← c.point_of-2.ensures, ← c.edge_check.ensures, c.in-Ok.is, ← c.label_of.ensures, sym c.is_joined.ensures ∙ c.if-is_joined.true)

pub returns-in-Err : goal.returns-in-Err
unfolding pair_fault
returns-in-Err c = rw (← c.point_of.ensures, ← c.point_of-2.ensures, ← c.edge_check.ensures, c.in-Err.is)

pub returns-else-is_joined : goal.returns-else-is_joined
unfolding pair_fault
returns-else-is_joined c = rw (← c.point_of.ensures, ← c.point_of-2.ensures, ← c.edge_check.ensures, c.in-Ok.is, ← c.label_of.ensures, sym c.is_joined.ensures ∙ c.if-is_joined.false)
