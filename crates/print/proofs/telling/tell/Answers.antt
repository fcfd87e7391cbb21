-- `print::telling::tell` meets its contract. Assumes nothing.
use Rattle.print.specs.Laws.{tells, error_tells}
use Rattle.print.proofs.telling.tell.Goals as goal

pub returns-in-Err : goal.returns-in-Err
returns-in-Err c =
    let a = c.args in
    let w = error_tells a.cells.now a.perms.now a.shapes.now a.boxes.now a.nodes.now a.front.now a.index.now a.out.now _ _ c.in-Err.is c.refused.ensures in
    record { answer = w.0; nodes = w.1.0; front = w.1.1.0; index = w.1.1.1.0; out = w.1.1.1.1 }

pub returns-in-Ok : goal.returns-in-Ok
returns-in-Ok c =
    let a = c.args in
    let e = c.find_walk_path-a.ensures in
    let w = tells a.cells.now a.perms.now a.shapes.now a.boxes.now a.nodes.now a.front.now a.index.now a.out.now c.in-Ok.s
    c.front_of.ensures c.front_of-in-Ok.ensures c.front_of-in-Ok-2.ensures c.front_of-in-Ok-3.ensures
    (e.result_value, (e.nodes_after, (e.front_after, (e.index_after, e.out_after)))) c.told_of.ensures in
    rw c.in-Ok.is (record { answer = w.0; nodes = w.1.0; front = w.1.1.0; index = w.1.1.1.0; out = w.1.1.1.1 })
