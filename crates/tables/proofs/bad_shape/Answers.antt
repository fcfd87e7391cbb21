-- `tables::bad_shape` meets its contract. Assumes nothing.
use Rattle.std.proofs.Common.{refl, sym, ◌∙◌}
use Rattle.world.specs.Laws.{an_entry}
use Rattle.tables.specs.Laws.{run_is}
use Rattle.tables.proofs.bad_shape.Goals as goal

pub unwrap-first-requires : goal.unwrap-first-requires
unwrap-first-requires c = rw (c.entry_at.ensures, an_entry _ _ c.requires) refl

pub returns : goal.returns
returns c = c.bad_run.ensures ∙ run_is _ _ _ _ _ (sym c.entry_at.ensures ∙ c.unwrap-first.ensures)
