-- `clear::all_free` meets its contract. Assumes nothing.
use Rattle.std.proofs.Common.{◌≡◌, sym, ◌∙◌, w64, SFits, to_z-of_z, rules}
use Rattle.world.specs.Boxes.{corner}
use Rattle.world.specs.Space.{space_of}
use Rattle.clear.specs.Laws.{cell_corridor, begins, ends, stops, goes_on}
use Rattle.clear.proofs.all_free.Goals as goal
use Rattle.clear.proofs.all_free.Goals.{After-cell_corridor}

-- what the cell of a turn is
one : (c : After-cell_corridor) → let a = c.args in let at = c.in-Some.at in
    c.cell_corridor.result ≡ cell_corridor a.area (corner at.z at.y at.x) (space_of a.world at.z at.y at.x)
one c =
    let f : SFits w64 c.in-Some.at.x = search rules in
    let g : SFits w64 c.in-Some.at.y = search rules in
    let h : SFits w64 c.in-Some.at.z = search rules in
    simp (to_z-of_z {w = w64}, f, g, h) at c.cell_corridor.ensures

pub loop-at-init : goal.loop-at-init
loop-at-init c = rw (c.into_iter-at-iterator.ensures.into_iter_gives, c.cells-at-items.ensures) (begins _ _ _)

pub returns-in_err-here : goal.returns-in_err-here
returns-in_err-here c =
    c.from_residual.ensures ∙ sym (c.loop-at.invariant ∙ rw c.in-Some.ensures.steps (stops _ _ _ _ _ (sym (one (goal.at.returns-in_err-here c).After-cell_corridor) ∙ c.in_err-here.was)))

pub loop-at-preserved : goal.loop-at-preserved
loop-at-preserved c =
    c.loop-at.invariant ∙ rw (c.in-Some.ensures.steps, c.or_else-door.ensures) (goes_on _ _ _ _ _ _ (sym (one (goal.at.loop-at-preserved c).After-cell_corridor) ∙ c.in_ok-here.was))

pub returns : goal.returns
returns c = sym (c.loop-at.invariant ∙ rw c.in-None.ensures.steps.0 (ends _ _ _))
