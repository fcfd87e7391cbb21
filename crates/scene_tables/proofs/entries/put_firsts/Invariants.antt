-- `scene_tables::entries::put_firsts` meets its contract. Assumes nothing.
use Rattle.std.proofs.Common.{◌≡◌, ◌-◌}
use Rattle.scene_tables.specs.Made.{in_turn, with_entry}
use Rattle.scene_tables.proofs.entries.put_firsts.Given as goal

abbrev pub invariant-loop-i : goal.invariant-loop-i
invariant-loop-i l = in_turn (with_entry l.first 0) l.from (l.end - l.from) l.initial.table ≡ in_turn (with_entry l.first 0) l.i (l.end - l.i) l.table
