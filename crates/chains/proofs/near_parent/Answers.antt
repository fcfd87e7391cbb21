-- `chains::near_parent` meets its contract. Assumes nothing.
use Rattle.std.proofs.Common.{sym, ◌∙◌, arith}
use Rattle.rooms.specs.Records.{node_at}
use Rattle.chains.proofs.near_parent.Goals as goal

pub returns : goal.returns
unfolding node_at
returns c = (omega (arith, c.if-n-parent.false), c.u32_at-parent.ensures, sym c.u32_at-closed.ensures ∙ c.if-closed-ne1.false)
