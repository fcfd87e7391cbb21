-- `print_lines::line` meets its contract. Assumes nothing.
use Rattle.report.specs.LineLaws.{nothing_shown}
use Rattle.print_lines.specs.Lines.{line_of}
use Rattle.print_lines.specs.Laws.{past_list, in_list}
use Rattle.print_lines.proofs.line.Goals as goal

pub returns-then-k-eq0 : goal.returns-then-k-eq0
unfolding line_of
returns-then-k-eq0 c = rw c.if-k-eq0.true c.first_line.ensures

pub returns-then-told-k : goal.returns-then-told-k
returns-then-told-k c =
    let w = nothing_shown _ _ (past_list c.args.told c.args.list.now c.args.k c.if-told-k.true) in
    record { count = w.0; bytes = w.1 }

pub returns : goal.returns
returns c = rw (in_list c.args.told c.args.list.now c.args.k c.if-k-eq0.false c.if-told-k.false) c.waypoint_line.ensures
