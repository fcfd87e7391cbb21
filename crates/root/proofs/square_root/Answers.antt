-- `root::square_root` meets its contract: the infinity is told apart, and of all else it is what `root` answers. Assumes nothing.
use mathlib.Core.Path.{ap, ◌∙◌}
use Rattle.root.specs.Distance.{or_nan}
use Rattle.root.proofs.Sorts.{of_infinity, of_other, or_no_number}
use Rattle.root.proofs.square_root.Goals as goal

pub returns-then-x-infinity : goal.returns-then-x-infinity
returns-then-x-infinity c = of_infinity c.args.x c.if-x-infinity.true

pub returns : goal.returns
returns c = c.unwrap_or.ensures ∙ or_no_number c.root.result ∙ ap or_nan c.root.ensures.is_answer ∙ of_other c.args.x c.if-x-infinity.false
