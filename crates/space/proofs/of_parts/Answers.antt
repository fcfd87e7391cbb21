-- `space::of_parts` meets its contract. Assumes nothing.
use Rattle.std.proofs.Common.{◌/◌, ◌%◌, arith}
use Rattle.world.specs.Space.{of_parts}
use Rattle.space.specs.Laws.{bit_least, bit_times, bit_not}
use Rattle.space.proofs.of_parts.Goals as goal

pub overflow_mul-result : goal.overflow_mul-result
overflow_mul-result c = record { fits = omega (arith, bit_least (c.args.p / 4 % 2) c.args.count (omega arith)) }

pub returns : goal.returns
unfolding of_parts
returns c = rw (bit_times (c.args.p / 4 % 2) c.args.count (omega arith), bit_not (c.args.p / 4 % 2) (omega arith))
