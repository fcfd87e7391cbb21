-- `conclusion::conclude` meets its contract. Assumes nothing.
use Rattle.std.proofs.Common.{◌∙◌}
use Rattle.conclusion.specs.Laws.{concludes_quiet, concludes_at, concludes_by}
use Rattle.conclusion.proofs.conclude.Goals as goal

pub returns-in-At : goal.returns-in-At
returns-in-At c =
    let a = c.args in
    let r = concludes_at a.nodes.now a.goal a.turn _ a.out.now _ _ _ c.in-At.is c.list_at.ensures in
    record { result_value = c.found.ensures ∙ r.0; out_after = r.1; front_after = c.zero.ensures }

pub returns-in-By : goal.returns-in-By
returns-in-By c =
    let a = c.args in
    let r = concludes_by a.nodes.now a.goal a.turn _ a.out.now _ _ _ _ c.in-By.is c.list_by.ensures in
    record { result_value = c.found-in-By.ensures ∙ r.0; out_after = r.1; front_after = c.zero.ensures }

pub returns-in-Rest : goal.returns-in-Rest
returns-in-Rest c =
    let a = c.args in
    let r = concludes_quiet a.nodes.now a.goal a.turn c.in-Rest.c a.out.now _ c.in-Rest.is c.verdict.ensures in
    record { result_value = r.0; out_after = r.1; front_after = c.zero.ensures }
