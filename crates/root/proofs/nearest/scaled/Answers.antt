-- `root::nearest::scaled` meets its contract: the two ways of reading a pattern (`Patterns`). Assumes nothing.
use native.Mathlib.Omega.{arith}
use Rattle.root.proofs.Patterns.{Low, subnormal, normal}
use Rattle.root.proofs.nearest.scaled.Goals as goal
use Rattle.root.proofs.nearest.scaled.Goals.{Then-field-eq0}

low : (c : Then-field-eq0) → Low c.args.b
low c = subnormal c.args.b c.requires.0 c.if-field-eq0.true

pub overflow_cast-z : goal.overflow_cast-z
overflow_cast-z c = omega (arith, low c)

pub overflow_sub-z : goal.overflow_sub-z
overflow_sub-z c = omega (arith, low c)

pub overflow_shl-result : goal.overflow_shl-result
overflow_shl-result c = omega (arith, low c)

pub overflow_sub-result : goal.overflow_sub-result
overflow_sub-result c = omega (arith, low c)

pub returns-then-field-eq0 : goal.returns-then-field-eq0
returns-then-field-eq0 c = (low c).is

pub returns : goal.returns
returns c = normal c.args.b c.requires.1 (omega arith)
