-- `read_scene::read_scene` meets its contract: what reading all records comes to is what taking in the rest comes to, from the progress so far. Assumes nothing.
use Rattle.std.proofs.Common.{◌≡◌}
use Rattle.std.specs.Slice.Iter.{chunks_rest, chunks_size}
use Rattle.scene.specs.Scene.{read_all}
use Rattle.scene_state.specs.Answers.{progress_answer}
use Rattle.scene.specs.Progress.{tables_of, taken_in}
use Rattle.read_scene.specs.Whole.{records}
use Rattle.read_scene.proofs.read_scene.Given as goal

abbrev pub invariant-loop-piece : goal.invariant-loop-piece
invariant-loop-piece l = record {
  size : chunks_size l.piece-iterator ≡ 64;
  so_far : read_all (tables_of l.initial.cells l.initial.perms l.initial.shapes l.initial.boxes) (records l.bytes)
      ≡ taken_in (progress_answer l.so_far) (tables_of l.cells l.perms l.shapes l.boxes) (records (chunks_rest l.piece-iterator));
}
