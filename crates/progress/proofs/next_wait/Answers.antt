-- `progress::next_wait` meets its contract. Assumes nothing.
use Rattle.std.proofs.Common.{◌∙◌}
use Rattle.progress.specs.Laws.{idle_past}
use Rattle.progress.proofs.next_wait.Goals as goal

pub pass_idle-i-requires : goal.pass_idle-i-requires
pass_idle-i-requires c = c.requires

pub returns : goal.returns
returns c = c.first_waiting.ensures ∙ idle_past c.args.front.now c.args.from c.pass_idle-i.result c.args.n c.pass_idle-i.ensures.0 c.pass_idle-i.ensures.1
