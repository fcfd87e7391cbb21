-- `walk_c::slices::walkprint_begin` meets its contract. Assumes nothing.
use Rattle.walk_c.specs.Slices.{begun_in, sliced}
use Rattle.walk_c.proofs.slices.walkprint_begin.Goals as goal

pub returns : goal.returns
unfolding begun_in
returns c =
    let e = rw c.query_in-query.ensures at c.begin_search-t.ensures.gives in
    sliced c.args.progress.now e (c.put_tick.ensures.value, c.put_tick.ensures.progress_after)
