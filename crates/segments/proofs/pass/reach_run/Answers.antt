-- `segments::pass::reach_run` meets its contract. Assumes nothing.
use Rattle.std.proofs.Common.{Some, sym, ap, ◌∙◌, List}
use Rattle.world.specs.declared.Aabb.{Aabb}
use Rattle.support.specs.Pass.{pass, run_shapes}
use Rattle.support.specs.PassLaws.{run_on, run_refused}
use Rattle.segments.proofs.pass.reach_run.Goals as goal

pub loop-b-preserved : goal.loop-b-preserved
loop-b-preserved c =
    let a = c.args in
    c.loop-b.invariant ∙ run_on a.way a.support a.by _ _ c.in-Some.b _ _ c.in-Some.ensures.steps (sym (rw c.offset.ensures at c.reach_shape.ensures) ∙ c.in_ok-to.was)

pub returns-in_err-to : goal.returns-in_err-to
returns-in_err-to c =
    let a = c.args in
    c.from_residual.ensures
    ∙ sym (c.loop-b.invariant ∙ run_refused a.way a.support a.by _ _ c.in-Some.b _ c.in-Some.ensures.steps (sym (rw c.offset.ensures at c.reach_shape.ensures) ∙ c.in_err-to.was))

pub returns : goal.returns
returns c =
    let a = c.args in
    sym (c.loop-b.invariant ∙ ap (λ (bs : List Aabb). pass a.way (Some c.loop-b.to) (run_shapes a.support a.by bs)) c.in-None.ensures.steps.0)
