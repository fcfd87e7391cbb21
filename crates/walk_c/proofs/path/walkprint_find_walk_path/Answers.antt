-- `walk_c::path::walkprint_find_walk_path` meets its contract. Assumes nothing.
use Rattle.outcomes.specs.declared.Answer.{Answer}
use Rattle.outcomes.specs.Outcomes.{outcome_number}
use Rattle.c_answers.specs.Answers.{answer_written}
use Rattle.c_answers.specs.Laws.{told}
use Rattle.walk_c.proofs.path.walkprint_find_walk_path.Goals as goal

pub returns : goal.returns
returns c =
    let e = rw c.query_in-query.ensures at c.find_walk_path-a.ensures in
    let w = told (λ (a : Answer). outcome_number a.outcome) answer_written c.args.answer.now e.result_value (c.put_answer.ensures.value, c.put_answer.ensures.answer_after) in
    record { outcome = w.0; answer = w.1; nodes = e.nodes_after; front = e.front_after; index = e.index_after; out = e.out_after }
