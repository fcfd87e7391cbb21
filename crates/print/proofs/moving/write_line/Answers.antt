-- `print::moving::write_line` is safe: a line fits in the buffer. Assumes nothing.
use Rattle.std.proofs.Common.{sym}
use Rattle.std.proofs.lemmas.List.{length-take-le}
use Rattle.print_lines.specs.Laws.{count_fits}
use Rattle.print.proofs.moving.write_line.Goals as goal

pub slice_bounds-buffer-end : goal.slice_bounds-buffer-end
slice_bounds-buffer-end g c = rw c.line-n.ensures.count (count_fits _ _ _ c.line-n.ensures.bytes c.line-n.auto.buffer)

pub slice_bounds-write_all-end : goal.slice_bounds-write_all-end
slice_bounds-write_all-end g c = sym (length-take-le _ _ (rw c.line-n.ensures.count (count_fits _ _ _ c.line-n.ensures.bytes c.line-n.auto.buffer)))
