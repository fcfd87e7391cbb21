-- `read_scene::read_scene` meets its contract: what reading all records comes to is what taking in the rest comes to, from the progress so far.
use Rattle.std.proofs.Common.{◌≡◌, length, min, sym, ap, ◌∙◌, arith, take_all}
use Rattle.std.specs.Slice.Iter.{chunks_rest}
use Rattle.scene.specs.Scene.{Read}
use Rattle.scene_state.specs.Answers.{progress_answer}
use Rattle.scene.specs.Progress.{tables_of}
use Rattle.scene.specs.Laws.{takes_whole}
use Rattle.read_scene.specs.Whole.{records}
use Rattle.read_scene.specs.Laws.{goes_on, ends}
use Rattle.read_scene.proofs.read_scene.Goals as goal

pub loop-piece-init : goal.loop-piece-init
loop-piece-init c =
    let a = c.args in
    let t = tables_of a.cells.now a.perms.now a.shapes.now a.boxes.now in
    let all : chunks_rest c.chunks-piece-items.result ≡ a.bytes.now = grind (arith, c.chunks-piece-items.ensures.rest, take_all) in
    rw c.into_iter-piece-iterator.ensures.into_iter_gives (record {
      size = c.chunks-piece-items.ensures.size;
      so_far = rw all (sym (takes_whole t (records a.bytes.now) (progress_answer c.begin-so_far.result) c.begin-so_far.ensures));
    })

pub loop-piece-preserved : goal.loop-piece-preserved
loop-piece-preserved c =
    let l = c.loop-piece in
    let r = c.take_record-so_far.ensures in
    let steps = c.in-Some.ensures.steps in
    let size : length c.in-Some.piece.now ≡ min 64 (length (chunks_rest l.piece-iterator)) = rw l.invariant.size at steps.1.1 in
    record {
      size = steps.0 ∙ l.invariant.size;
      so_far = l.invariant.so_far ∙ goes_on (progress_answer l.so_far) (progress_answer c.take_record-so_far.result) (tables_of l.cells l.perms l.shapes l.boxes) _ c.in-Some.piece.now _ steps.1.0 size steps.1.2 r.answer _ _ _ _ r.cells r.permissions r.shapes r.boxes;
    }

pub returns : goal.returns
returns c =
    let l = c.loop-piece in
    let q = sym (l.invariant.so_far ∙ ends (progress_answer l.so_far) (tables_of l.cells l.perms l.shapes l.boxes) _ c.in-None.ensures.steps.1.0) in
    record {
      result_value = c.end.ensures ∙ ap (λ (x : Read). x.answer) q;
      cells_after = ap (λ (x : Read). x.tables.cells) q;
      perms_after = ap (λ (x : Read). x.tables.perms) q;
      shapes_after = ap (λ (x : Read). x.tables.shapes) q;
      boxes_after = ap (λ (x : Read). x.tables.boxes) q;
    }
