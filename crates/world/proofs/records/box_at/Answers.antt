-- `world::records::box_at` meets its contract. Assumes nothing.
use Rattle.std.proofs.Common.{arith, ◌+◌, ◌≤◌, sym, ap, ◌∙◌, length, leb-true}
use Rattle.world.specs.Space.{box_here}
use Rattle.std.specs.Prelude.{Some}
use Rattle.world.specs.Laws.{a_box, two_corners}
use Rattle.world.proofs.records.box_at.Goals as goal
use Rattle.world.proofs.records.box_at.Goals.{Else-not-fits}

room : (c : Else-not-fits) → c.args.at + 48 ≤ length c.args.s.now
room c = leb-true _ _ (sym c.fits.ensures ∙ c.if-not-fits.false)

pub returns-then-not-fits : goal.returns-then-not-fits
unfolding box_here
returns-then-not-fits c = rw (sym c.fits.ensures ∙ c.if-not-fits.true)

pub overflow_add-at : goal.overflow_add-at
overflow_add-at c = record { fits = omega (arith, room (goal.at.overflow_add-at c).Else-not-fits) }

pub returns : goal.returns
returns c =
    rw (c.point_at.ensures, c.point_at-2.ensures)
    (ap Some (two_corners c.args.s.now c.args.at) ∙ sym (a_box c.args.s.now c.args.at (room (goal.at.returns c).Else-not-fits)))
