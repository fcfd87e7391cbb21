-- `find_path::find::find_path` meets its contract. Assumes nothing.
use Rattle.std.proofs.lemmas.Result.{err_from_is_err_and}
use Rattle.find_path.specs.Laws.{agree, differ, searched, unsearched}
use Rattle.find_path.proofs.find.find_path.Goals as goal

pub returns-in_err-fill_permissions : goal.returns-in_err-fill_permissions
returns-in_err-fill_permissions c =
    let a = c.args in
    let m = a.mob in
    let w =
    unsearched m.policy m.in_water a.flags.now m.window a.cells.now a.perms.now a.shapes.now a.boxes.now m.start m.goal m.body a.nodes.now a.front.now a.index.now a.out.now
    (differ a.flags.now a.perms.now c.in_err-fill_permissions.ensures.answer) c.in_err-fill_permissions.ensures.written in
    let p = err_from_is_err_and c.from_residual.result c.from_residual.ensures.1 in
    record { answer = rw (p.1, p.2) w.0; permissions = w.1.0; nodes = w.1.1.0; front = w.1.1.1.0; index = w.1.1.1.1.0; out = w.1.1.1.1.1 }

pub returns : goal.returns
returns c =
    let a = c.args in
    let m = a.mob in
    let fill = c.in_ok-fill_permissions.ensures in
    let f = c.find_walk_path.ensures in
    let w =
    searched m.policy m.in_water a.flags.now m.window a.cells.now a.perms.now a.shapes.now a.boxes.now m.start m.goal m.body a.nodes.now a.front.now a.index.now a.out.now
    (agree a.flags.now a.perms.now fill.answer) fill.written c.request_of.ensures
    (f.result_value, (f.nodes_after, (f.front_after, (f.index_after, f.out_after)))) in
    record { answer = w.0; permissions = w.1.0; nodes = w.1.1.0; front = w.1.1.1.0; index = w.1.1.1.1.0; out = w.1.1.1.1.1 }
