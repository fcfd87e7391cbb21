-- `request::is_within` meets its contract. Assumes nothing.
use Rattle.request.specs.Request.{within}
use Rattle.request.proofs.is_within.Goals as goal

pub returns : goal.returns
unfolding within
returns c = rw (c.abs.ensures, c.abs-2.ensures, c.abs-3.ensures)
