-- `heights::lowest::lowest_tops` meets its contract. Assumes nothing.
use Rattle.std.proofs.Common.{arith, ℕ, ◌≡◌, ap, ◌∙◌, List, rules, Float, w64, to_z, of_z, to_z-of_z}
use mathlib.Core.List.{foldl}
use Rattle.cells.specs.Cells.{floor_cell}
use Rattle.world.specs.Space.{space_of}
use Rattle.heights.specs.Heights.{tops}
use Rattle.heights.specs.Put.{taken}
use Rattle.heights.proofs.Put.{all_taken}
use Rattle.heights.proofs.Laws.{numbers}
use Rattle.heights.proofs.lowest.lowest_tops.Goals as goal

pub returns : goal.returns
unfolding tops
returns c =
    let a = c.args in
    let f : to_z w64 (of_z w64 c.floor_cell-cx.result) ≡ floor_cell a.shaft.x = to_z-of_z {w = w64} (search rules) ∙ c.floor_cell-cx.ensures in
    let g : to_z w64 (of_z w64 c.floor_cell-cz.result) ≡ floor_cell a.shaft.z = to_z-of_z {w = w64} (search rules) ∙ c.floor_cell-cz.ensures in
    let s = space_of a.world in
    let gathered : ◌≡◌ {A = List Float × ℕ} (c.column_lowest.new.room, c.column_lowest.result) (foldl (taken a.after) (a.room.now, 0) (tops s a.shaft.band a.shaft.x a.shaft.z)) =
    let first : to_z w64 (of_z w64 c.floors-layers.result.first) ≡ c.floors-layers.result.first = to_z-of_z {w = w64} (search rules) in
    let last : to_z w64 (of_z w64 c.floors-layers.result.last) ≡ c.floors-layers.result.last = to_z-of_z {w = w64} (search rules) in
    grind (arith, f, g, first, last, c.floors-layers.ensures, c.column_lowest.ensures) in
    let e = gathered ∙ all_taken a.room.now a.after (tops s a.shaft.band a.shaft.x a.shaft.z) (numbers a.shaft.band a.shaft.x a.shaft.z s) in
    record { value = ap (λ (s : List Float × ℕ). s.1) e; room_after = ap (λ (s : List Float × ℕ). s.0) e }
