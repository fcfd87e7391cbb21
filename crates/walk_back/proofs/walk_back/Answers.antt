-- `walk_back::walk_back` meets its contract. Assumes nothing.
use Rattle.std.proofs.lemmas.Result.{err_from_is_err_and}
use Rattle.walk_back.proofs.Laws.{by_question}
use Rattle.walk_back.proofs.walk_back.Goals as goal

pub returns-in_err-judge : goal.returns-in_err-judge
returns-in_err-judge c =
    let p = err_from_is_err_and c.from_residual.result c.from_residual.ensures.1 in
    rw (p.1, p.2, ← by_question c.args.query.world.window c.args.query.world.cells.now c.args.query.world.perms.now c.args.query.world.shapes.now c.args.query.world.boxes.now c.args.query.request c.args.query.body c.args.list.now, ← c.judge.ensures, c.in_err-judge.was)

pub returns-in_err-walk_list : goal.returns-in_err-walk_list
returns-in_err-walk_list c =
    let p = err_from_is_err_and c.from_residual-in_err-walk_list.result c.from_residual-in_err-walk_list.ensures.1 in
    rw (p.1, p.2, ← by_question c.args.query.world.window c.args.query.world.cells.now c.args.query.world.perms.now c.args.query.world.shapes.now c.args.query.world.boxes.now c.args.query.request c.args.query.body c.args.list.now, ← c.judge.ensures, c.in_ok-judge.was, ← c.walk_list.ensures, c.in_err-walk_list.was)

pub returns : goal.returns
returns c = rw (← by_question c.args.query.world.window c.args.query.world.cells.now c.args.query.world.perms.now c.args.query.world.shapes.now c.args.query.world.boxes.now c.args.query.request c.args.query.body c.args.list.now, ← c.judge.ensures, c.in_ok-judge.was, ← c.walk_list.ensures, c.in_ok-walk_list.was)
