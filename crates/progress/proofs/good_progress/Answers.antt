-- `progress::good_progress` meets its contract. Assumes nothing.
use Rattle.std.proofs.Common.{sym, ◌∙◌}
use Rattle.progress.specs.Laws.{waits_first, progress_not, progress_by}
use Rattle.progress.proofs.good_progress.Goals as goal

pub returns-then-not-counts_good : goal.returns-then-not-counts_good
returns-then-not-counts_good c =
    let a = c.args in
    progress_not a.r a.nodes.now a.front.now a.c a.expansions (sym c.counts_good.ensures ∙ c.if-not-counts_good.true)

pub returns : goal.returns
returns c =
    let a = c.args in
    let some = waits_first a.front.now a.c.retained c.next_wait.result c.next_wait.ensures in
    rw (c.waits_good-waiting.ensures, some, c.chains_end-linked.ensures, c.nodes_good-placed.ensures)
    (progress_by a.r a.nodes.now a.front.now a.c a.expansions (sym c.counts_good.ensures ∙ c.if-not-counts_good.false))
