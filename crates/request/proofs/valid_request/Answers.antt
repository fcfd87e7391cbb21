-- `request::valid_request` meets its contract. Assumes nothing.
use Rattle.request.specs.Request.{sized, not_negative, placed}
use Rattle.request.specs.Laws.{valid_is}
use Rattle.request.proofs.valid_request.Goals as goal

pub returns : goal.returns
unfolding sized not_negative placed
returns c =
    rw (
      c.finite.ensures,
      c.finite-2.ensures,
      c.finite-3.ensures,
      c.finite-4.ensures,
      c.finite-5.ensures,
      c.finite-6.ensures,
      c.finite-7.ensures,
      c.is_within.ensures,
      c.is_within-2.ensures,
      c.limit_of-most.ensures,
    ) (valid_is c.args.r c.args.body)
