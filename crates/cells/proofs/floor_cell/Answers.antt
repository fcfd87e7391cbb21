-- `cells::floor_cell` meets its contract. Assumes nothing.
use Rattle.std.proofs.Common.{◌≡◌, ◌∙◌, to_z-of_z, w64, to_z, of_z, rules}
use lib.Ieee.{of_bits, neg, to_signed}
use Rattle.cells.specs.CellLaws.{Inside, part_asked, part_range, floor_is, floor_low, floor_high, floor_none, floor_range}
use Rattle.cells.specs.Whole.{bit, cell_fits, exact_cell}
use Rattle.cells.proofs.floor_cell.Goals as goal
use Rattle.cells.proofs.floor_cell.Goals.{After-truncating_f64_to_i64-whole, Then-x-2}

inside : (c : Then-x-2) → Inside c.args.x
unfolding of_bits neg
inside c = record { over = c.if-x-2.true; under = c.if-x.true }

part : (c : After-truncating_f64_to_i64-whole) → to_z w64 (of_z w64 c.truncating_f64_to_i64-whole.result) ≡ to_signed 63 c.args.x
part c = to_z-of_z {w = w64} (search rules) ∙ c.truncating_f64_to_i64-whole.ensures

pub truncating_f64_to_i64-whole-requires : goal.truncating_f64_to_i64-whole-requires
truncating_f64_to_i64-whole-requires c = let p = part_asked _ (inside c) in record { lower_bound = p.0; upper_bound = p.1 }

pub int_to_float-result : goal.int_to_float-result
int_to_float-result c = rw (part (goal.at.int_to_float-result c).After-truncating_f64_to_i64-whole) (exact_cell _ (part_range _ (inside (goal.at.int_to_float-result c).Then-x-2)))

pub overflow_sub-result : goal.overflow_sub-result
overflow_sub-result c = rw (part (goal.at.overflow_sub-result c).After-truncating_f64_to_i64-whole, bit, floor_is _ (inside (goal.at.overflow_sub-result c).Then-x-2)) (cell_fits _ (floor_range _))

pub returns-then-x-2 : goal.returns-then-x-2
returns-then-x-2 c = rw (part (goal.at.returns-then-x-2 c).After-truncating_f64_to_i64-whole, bit, floor_is _ (inside (goal.at.returns-then-x-2 c).Then-x-2)) (to_z-of_z {w = w64} (cell_fits _ (floor_range _)))

pub returns-else-x-2 : goal.returns-else-x-2
unfolding of_bits neg
returns-else-x-2 c = floor_low _ c.if-x.true c.if-x-2.false

pub returns-then-x-3 : goal.returns-then-x-3
unfolding of_bits
returns-then-x-3 c = floor_high _ c.if-x.false c.if-x-3.true

pub returns-else-x-3 : goal.returns-else-x-3
unfolding of_bits
returns-else-x-3 c = floor_none _ c.if-x.false c.if-x-3.false
