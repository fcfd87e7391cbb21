-- `regions::Cells::next` meets the contract of an iterator whose state is the list of what is left. Assumes nothing.
use Rattle.std.proofs.Common.{sym, ◌∙◌, rules}
use Rattle.regions.specs.RegionLaws.{turn}
use Rattle.regions.proofs.CellsIterator.next.Goals as goal

pub invariant_of-self : goal.invariant_of-self
invariant_of-self c = (turn c.self.inside.region _ _ _ c.in_ok-at.was c.self.invariant c.next_in-self-inside.ensures).1

pub returns-clause-steps : goal.returns-clause-steps
returns-clause-steps c = sym c.self.view_is ∙ (turn c.self.inside.region _ _ _ c.in_ok-at.was c.self.invariant c.next_in-self-inside.ensures).0

pub returns-clause-goes : goal.returns-clause-goes
returns-clause-goes c =
    rw (sym c.self.view_is ∙ (turn c.self.inside.region _ _ _ c.in_ok-at.was c.self.invariant c.next_in-self-inside.ensures).0) (search rules)
