-- `segments::far::keep_box` meets its contract. Assumes nothing.
use Rattle.std.proofs.Common.{sym, ◌∙◌}
use Rattle.support.specs.Joints.{found_part, gathers_none}
use Rattle.segments.proofs.far.keep_box.Goals as goal

pub returns-in_default : goal.returns-in_default
returns-in_default c = gathers_none _ _

pub returns-then-covered-i : goal.returns-then-covered-i
returns-then-covered-i c = rw (found_part c.args.way _, sym c.part_over.ensures ∙ c.in-Some.is) c.keep.ensures

pub returns-else-covered-i : goal.returns-else-covered-i
returns-else-covered-i c = gathers_none _ _
