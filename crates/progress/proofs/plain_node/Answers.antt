-- `progress::plain_node` meets its contract. Assumes nothing.
use Rattle.std.proofs.Common.{add-zero, arith, refl, ◌*◌}
use Rattle.exploration.proofs.Laws.Lists.{true_false}
use Rattle.rooms.specs.Records.{node_at, entry_at}
use Rattle.progress.specs.Progress.{good_node}
use Rattle.progress.proofs.plain_node.Goals as goal

pub returns-then-not-is_number : goal.returns-then-not-is_number
returns-then-not-is_number c e = absurd (true_false e refl)

pub returns : goal.returns
unfolding good_node node_at entry_at
returns c e = let a = c.args in rw (add-zero (64 * a.k)) (grind (arith, e, c.words_good.ensures, c.u64_at-waiting.ensures, c.u32_at-closed.ensures, c.u64_at-cost.ensures, c.u64_at-movement.ensures, c.u64_at-z.ensures, c.u64_at-y.ensures, c.u64_at-x.ensures))
