-- `scene_tables::boxes::put_box` meets its contract. Assumes nothing.
use Rattle.std.proofs.Common.{◌≡◌, ◌-◌}
use Rattle.scene_tables.specs.Made.{in_turn, box_number}
use Rattle.scene_tables.proofs.boxes.put_box.Given as goal

abbrev pub invariant-loop-j : goal.invariant-loop-j
invariant-loop-j l = in_turn (box_number l.bytes l.k) 0 6 l.initial.boxes ≡ in_turn (box_number l.bytes l.k) l.j (6 - l.j) l.boxes
