-- `next` of a run meets its contract: it gives the boxes of `run`, in order. Assumes nothing.
use Rattle.std.proofs.Common.{◌≡◌, arith, sym, ◌∙◌, [], ◌∷◌, ◌-◌}
use Rattle.std.proofs.lemmas.Grind.{common_steps}
use Rattle.world.specs.Space.{run}
use Rattle.world.specs.Laws.{run_none, run_end, run_first}
use Rattle.world.proofs.run.RunIterator.next.Goals as goal
use Rattle.world.proofs.run.RunIterator.next.Goals.{After-part_from-self}

pub returns-then-self-eq0-clause-steps : goal.returns-then-self-eq0-clause-steps
returns-then-self-eq0-clause-steps c =
    let none : run c.args.self.now.left c.args.self.now.part.now 0 ≡ [] = rw c.if-self-eq0.true (run_none c.args.self.now.part.now 0) in
    (none, none)

pub returns-in_err-b-clause-steps : goal.returns-in_err-b-clause-steps
returns-in_err-b-clause-steps c =
    let none : run c.args.self.now.left c.args.self.now.part.now 0 ≡ [] = run_end c.args.self.now.part.now 0 c.args.self.now.left (sym c.box_at.ensures ∙ c.in_err-b.was) in
    rw c.from_residual.ensures (none, none)

-- a box comes first, and the run behind it has one less
first : (c : After-part_from-self) →
    run c.args.self.now.left c.args.self.now.part.now 0 ≡ c.in_ok-b.b ∷ run (c.args.self.now.left - 1) c.part_from-self.result.now 0
first c =
    rw c.part_from-self.ensures (run_first c.args.self.now.left c.args.self.now.part.now c.in_ok-b.b (omega (arith, c.if-self-eq0.false)) (sym c.box_at.ensures ∙ c.in_ok-b.was))

pub returns-clause-steps : goal.returns-clause-steps
returns-clause-steps c = first (goal.at.returns-clause-steps c).After-part_from-self

pub returns-clause-goes : goal.returns-clause-goes
returns-clause-goes c = grind (arith, common_steps, first (goal.at.returns-clause-goes c).After-part_from-self)
