-- `walk_c::scenes::walkprint_read_scene` meets its contract. Assumes nothing.
use Rattle.c_answers.specs.Laws.{told}
use Rattle.c_scene.specs.Scenes.{scene_number, scene_written}
use Rattle.walk_c.proofs.scenes.walkprint_read_scene.Goals as goal

pub returns : goal.returns
returns c =
    let e = c.read_scene-a.ensures in
    let w = told scene_number scene_written c.args.made.now e.result_value (c.put_answer.ensures.value, c.put_answer.ensures.made_after) in
    record { number = w.0; made = w.1; cells = e.cells_after; permissions = e.perms_after; shapes = e.shapes_after; boxes = e.boxes_after }
