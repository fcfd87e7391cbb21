-- `world::records::entry_at` meets its contract. Assumes nothing.
use Rattle.std.proofs.Common.{◌+◌, ◌*◌, ◌≤◌, ◌<◌, arith, sym, ◌∙◌, length, get_or}
use Rattle.world.specs.Laws.{no_entry, an_entry, own_part, low_half, high_half}
use Rattle.world.proofs.records.entry_at.Goals as goal
use Rattle.world.proofs.records.entry_at.Goals.{Else-s-i}

-- the record lies in the table
room : (c : Else-s-i) → 8 * c.args.i + 8 ≤ length c.args.s.now
room c = omega (arith, c.if-s-i.false)

pub returns-then-s-i : goal.returns-then-s-i
returns-then-s-i c = sym (no_entry _ _ c.if-s-i.true)

pub overflow_mul-at : goal.overflow_mul-at
overflow_mul-at c = record { fits = omega (arith, room c) }

pub overflow_add-at : goal.overflow_add-at
overflow_add-at c = record { fits = omega (arith, room c) }

pub overflow_cast-low : goal.overflow_cast-low
overflow_cast-low c = record { fits = omega arith }

pub overflow_cast-high : goal.overflow_cast-high
overflow_cast-high c = record { fits = omega arith }

pub returns : goal.returns
returns c =
    let bytes : (j : _) → get_or c.args.s.now j 0 < 256 = λ j. omega (arith, c.type_inv.s j) in
    let in_table = room (goal.at.returns c).Else-s-i in
    let low = low_half c.args.s.now (8 * c.args.i) in_table bytes in
    let high = high_half c.args.s.now (8 * c.args.i) in_table bytes in
    rw (c.u64_at-both.ensures ∙ own_part c.args.s.now (8 * c.args.i), low, high) (sym (an_entry c.args.s.now c.args.i c.if-s-i.false))
