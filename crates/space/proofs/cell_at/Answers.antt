-- `space::cell_at` meets its contract. Assumes nothing.
use Rattle.std.proofs.Common.{arith, ◌≡◌, ◌<◌, ◌≤◌, sym, ap, ◌∙◌, length, get_or, w64, SFits, to_z-of_z, ltb-false}
use Rattle.std.proofs.lemmas.Grind.{common_steps}
use Rattle.std.specs.Prelude.{Some}
use Rattle.world.specs.Space.{record_of, entry_in, cell_at}
use Rattle.space.specs.Laws.{by_entry, no_state, by_shape}
use Rattle.space.proofs.cell_at.Goals as goal
use Rattle.space.proofs.cell_at.Goals.{After-entry_of}

-- which record it is: signed numbers are what the machine reads back from their bits
here : (c : After-entry_of) → entry_in c.args.world.cells.now (record_of c.args.world.window c.args.x c.args.y c.args.z) ≡ c.entry_of.result
here c =
    let f : SFits w64 c.args.x = c.ranges.x in
    let g : SFits w64 c.args.y = c.ranges.y in
    let h : SFits w64 c.args.z = c.ranges.z in
    sym (simp (to_z-of_z, f, g, h) at c.entry_of.ensures)

pub returns-in_err-state : goal.returns-in_err-state
unfolding cell_at
returns-in_err-state c = rw (c.from_residual.ensures, by_entry _ _ _ _, here (goal.at.returns-in_err-state c).After-entry_of ∙ c.in_err-state.was)

pub returns-in_err-permission : goal.returns-in_err-permission
unfolding cell_at
returns-in_err-permission c =
    let past : length c.args.world.perms.now ≤ c.in_ok-state.state = ltb-false _ _ (sym c.in_err-permission.ensures.lookup.0) in
    rw (c.from_residual-in_err-permission.ensures, by_entry _ _ _ _, here (goal.at.returns-in_err-permission c).After-entry_of ∙ c.in_ok-state.was) (sym (no_state _ _ _ _ past))

pub returns-in_err-first : goal.returns-in_err-first
unfolding cell_at
returns-in_err-first c =
    let state : c.in_ok-state.state < length c.args.world.perms.now = grind (arith, common_steps) in
    rw
    (c.from_residual-in_err-first.ensures, by_entry _ _ _ _, here (goal.at.returns-in_err-first c).After-entry_of ∙ c.in_ok-state.was, by_shape _ _ _ _ state, sym c.entry_at.ensures ∙ c.in_err-first.was)

pub returns : goal.returns
unfolding cell_at
returns c =
    let state : c.in_ok-state.state < length c.args.world.perms.now = grind (arith, common_steps) in
    let byte : c.in_ok-permission.permission.now ≡ get_or c.args.world.perms.now c.in_ok-state.state 0 = grind (arith, common_steps) in
    rw
    (by_entry _ _ _ _, here (goal.at.returns c).After-entry_of ∙ c.in_ok-state.was, by_shape _ _ _ _ state, sym c.entry_at.ensures ∙ c.in_ok-first.was)
    (ap Some (rw byte at c.of_parts.ensures))
