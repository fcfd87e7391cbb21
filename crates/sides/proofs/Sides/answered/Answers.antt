-- `sides::Sides::answered` meets its contract. Assumes nothing.
use Rattle.std.proofs.Common.{sym, ◌∙◌, arith}
use Rattle.sides.specs.Laws.{side_range, a_side, no_answer}
use Rattle.sides.proofs.Sides.answered.Goals as goal

pub overflow_sub-k : goal.overflow_sub-k
overflow_sub-k c = omega (arith, (side_range c.args.n (sym c.is_side.ensures ∙ c.if-is_side.true)).0)

pub bounds-self-k : goal.bounds-self-k
bounds-self-k c = omega (arith, (side_range c.args.n (sym c.is_side.ensures ∙ c.if-is_side.true)).1)

pub returns-then-is_side : goal.returns-then-is_side
returns-then-is_side c = sym (a_side _ _ _ (sym c.is_side.ensures ∙ c.if-is_side.true))

pub returns-else-is_side : goal.returns-else-is_side
returns-else-is_side c = sym (no_answer _ _ _ (sym c.is_side.ensures ∙ c.if-is_side.false))
