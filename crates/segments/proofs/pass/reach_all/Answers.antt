-- `segments::pass::reach_all` meets its contract. Assumes nothing.
use Rattle.std.proofs.Common.{sym, ◌∙◌}
use Rattle.world.specs.Space.{space_of}
use Rattle.support.specs.Support.{shapes_at}
use Rattle.support.specs.PassLaws.{pass_on, pass_refused}
use Rattle.segments.proofs.pass.reach_all.Goals as goal

pub loop-at-init : goal.loop-at-init
loop-at-init c = rw (c.into_iter-at-iterator.ensures.into_iter_gives, c.cells-at-items.ensures)

pub loop-at-preserved : goal.loop-at-preserved
loop-at-preserved c =
    c.loop-at.invariant ∙ pass_on c.args.way (space_of c.args.world) _ _ c.in-Some.at _ _ c.in-Some.ensures.steps (sym c.reach_cell.ensures ∙ c.in_ok-to.was)

pub returns-in_err-to : goal.returns-in_err-to
returns-in_err-to c =
    c.from_residual.ensures
    ∙ sym (c.loop-at.invariant ∙ pass_refused c.args.way (space_of c.args.world) _ _ c.in-Some.at _ c.in-Some.ensures.steps (sym c.reach_cell.ensures ∙ c.in_err-to.was))

pub returns : goal.returns
unfolding shapes_at
returns c = sym (rw c.in-None.ensures.steps.0 at c.loop-at.invariant)
