-- `walk_c::edge::walkprint_edge` meets its contract. Assumes nothing.
use Rattle.std.proofs.Common.{ℕ, ◌≡◌, sym, ◌∙◌, ap, Result, Err}
use Rattle.moves.specs.Moves.{check_number}
use Rattle.questions.specs.declared.Judgement.{Judgement}
use Rattle.questions.specs.Questions.{judged}
use Rattle.questions.proofs.Laws.{said_of, said}
use Rattle.c_records.specs.Records.{window_in, body_in}
use Rattle.c_records.specs.Asked.{asked}
use Rattle.walk_c.proofs.edge.walkprint_edge.Goals as goal
use Rattle.walk_c.proofs.edge.walkprint_edge.Goals.{After-judge}

-- what is answered by each judgement
judged_so : (c : After-judge) (edge : ℕ) {k : Result (Unit {0}) Judgement} → c.judge.result ≡ k → let a = c.args in
    said_of 3 1 4 edge k ≡ judged (window_in a.window.now) a.cells.now a.shapes.now a.boxes.now (asked a.window.now a.request.now a.body.now) (body_in a.body.now) 3 1 4 edge
judged_so c edge t = said 3 1 4 edge _ _ _ _ _ _ (sym (rw c.query_in-query.ensures at c.judge.ensures) ∙ t)

pub returns-in-Ok : goal.returns-in-Ok
returns-in-Ok c = (c.edge_number.ensures ∙ ap check_number (rw c.query_in-query.ensures at c.edge_check.ensures)) ∙ judged_so (goal.at.returns-in-Ok c).After-judge _ c.in-Ok.is

pub returns-in-Err-BadWorld : goal.returns-in-Err-BadWorld
returns-in-Err-BadWorld c = judged_so (goal.at.returns-in-Err-BadWorld c).After-judge _ (c.in-Err-BadWorld.is ∙ ap Err c.in-Err-BadWorld.field-0-is)

pub returns-in-Err-Invalid : goal.returns-in-Err-Invalid
returns-in-Err-Invalid c = judged_so (goal.at.returns-in-Err-Invalid c).After-judge _ (c.in-Err-Invalid.is ∙ ap Err c.in-Err-Invalid.field-0-is)

pub returns-in-Err-TooLarge : goal.returns-in-Err-TooLarge
returns-in-Err-TooLarge c = judged_so (goal.at.returns-in-Err-TooLarge c).After-judge _ (c.in-Err-TooLarge.is ∙ ap Err c.in-Err-TooLarge.field-0-is)
