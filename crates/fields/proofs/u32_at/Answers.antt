-- `fields::u32_at` meets its contract. Assumes nothing.
use Rattle.std.proofs.Common.{sym, ◌∙◌}
use Rattle.fields.proofs.Laws.{field_out}
use Rattle.fields.proofs.Pieces.{whole_bytes}
use Rattle.fields.proofs.u32_at.Goals as goal

pub returns-in-Some : goal.returns-in-Some
returns-in-Some c = c.from_le_bytes.ensures ∙ whole_bytes 3 c.args.s.now c.args.at _ c.in-Some.ensures.0 c.in-Some.ensures.1

pub returns-in-None : goal.returns-in-None
returns-in-None c = sym (field_out 4 _ _ c.in-None.ensures)
