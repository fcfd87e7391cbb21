-- `request::too_large` meets its contract. Assumes nothing.
use Rattle.request.specs.Request.{too_large}
use Rattle.request.proofs.too_large.Goals as goal

pub returns : goal.returns
unfolding too_large
returns c = rw c.sizes_too_large.ensures
