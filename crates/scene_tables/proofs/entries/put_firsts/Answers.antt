-- `scene_tables::entries::put_firsts` meets its contract. Assumes nothing.
use Rattle.std.proofs.Common.{sym, ◌∙◌}
use Rattle.scene_tables.specs.Laws.{turn_done, turn_more}
use Rattle.scene_tables.specs.Made.{with_entry, empty_shapes}
use Rattle.scene_tables.proofs.entries.put_firsts.Goals as goal

pub loop-i-preserved : goal.loop-i-preserved
loop-i-preserved c = rw c.put_entry.ensures (c.loop-i.invariant ∙ turn_more (with_entry c.args.first 0) c.loop-i.i c.args.end c.loop-i.table c.loop-i-test.true)

pub returns : goal.returns
unfolding empty_shapes
returns c = sym (c.loop-i.invariant ∙ turn_done (with_entry c.args.first 0) c.loop-i.i c.args.end c.loop-i.table c.loop-i-test.false)
