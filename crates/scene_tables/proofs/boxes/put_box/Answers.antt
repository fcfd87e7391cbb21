-- `scene_tables::boxes::put_box` meets its contract. Assumes nothing.
use Rattle.std.proofs.Common.{sym, ◌∙◌}
use Rattle.scene_tables.specs.Laws.{turn_done, turn_more}
use Rattle.scene_tables.specs.Made.{box_number, with_box}
use Rattle.scene_tables.proofs.boxes.put_box.Goals as goal

pub loop-j-preserved : goal.loop-j-preserved
unfolding box_number
loop-j-preserved c =
    rw (c.put_u64.ensures, c.u64_at-word.ensures) (c.loop-j.invariant ∙ turn_more (box_number c.args.bytes.now c.args.k) c.loop-j.j 6 c.loop-j.boxes c.loop-j-test.true)

pub returns : goal.returns
unfolding with_box
returns c = sym (c.loop-j.invariant ∙ turn_done (box_number c.args.bytes.now c.args.k) c.loop-j.j 6 c.loop-j.boxes c.loop-j-test.false)
