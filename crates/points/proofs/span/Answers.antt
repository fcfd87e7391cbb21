-- `points::span` meets its contract. Assumes nothing.
use Rattle.world.specs.Boxes.{span}
use Rattle.points.proofs.span.Goals as goal

pub returns : goal.returns
unfolding span
returns c = rw (c.min.ensures, c.min-2.ensures, c.min-3.ensures, c.max.ensures, c.max-2.ensures, c.max-3.ensures)
