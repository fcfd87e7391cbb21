-- `walk_c::mob::walkprint_find_path` meets its contract. Assumes nothing.
use Rattle.outcomes.specs.Outcomes.{path_number}
use Rattle.c_answers.specs.Answers.{path_written}
use Rattle.c_answers.specs.Laws.{told}
use Rattle.c_records.specs.Asked.{mob_in}
use Rattle.walk_c.proofs.mob.walkprint_find_path.Goals as goal

pub returns : goal.returns
unfolding mob_in
returns c =
    let e = rw c.mob_in-m.ensures at c.find_path-a.ensures in
    let w = told path_number path_written c.args.answer.now e.answer (c.put_path.ensures.value, c.put_path.ensures.answer_after) in
    record { number = w.0; answer = w.1; permissions = e.permissions; nodes = e.nodes; front = e.front; index = e.index; out = e.out }
