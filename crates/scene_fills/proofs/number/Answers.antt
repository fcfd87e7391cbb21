-- `scene_fills::number` meets its contract. Assumes nothing.
use Rattle.std.proofs.Common.{arith}
use Rattle.scene_fills.specs.Fills.{record_at}
use Rattle.scene_fills.specs.Laws.{low_is, layer_small, row_small}
use Rattle.scene_fills.proofs.number.Goals as goal

pub overflow_mul-result : goal.overflow_mul-result
overflow_mul-result c =
    rw (low_is c.args.at.y c.requires.2.y)
    (record { fits = omega (arith, layer_small c.args.sx c.args.sz _ _ c.requires.0 c.requires.1 c.requires.2.y.1 c.requires.2.z.1) })

pub overflow_add-result : goal.overflow_add-result
overflow_add-result c =
    rw (low_is c.args.at.y c.requires.2.y, low_is c.args.at.z c.requires.2.z)
    (record { fits = omega (arith, c.requires.2.z.1, layer_small c.args.sx c.args.sz _ _ c.requires.0 c.requires.1 c.requires.2.y.1 c.requires.2.z.1) })

pub overflow_mul-result-2 : goal.overflow_mul-result-2
overflow_mul-result-2 c =
    rw (low_is c.args.at.y c.requires.2.y, low_is c.args.at.z c.requires.2.z)
    (record { fits = omega (arith, row_small c.args.sx c.args.sz _ _ c.requires.0 c.requires.1 c.requires.2.y.1 c.requires.2.z.1) })

pub overflow_add-result-2 : goal.overflow_add-result-2
overflow_add-result-2 c =
    rw (low_is c.args.at.y c.requires.2.y, low_is c.args.at.z c.requires.2.z, low_is c.args.at.x c.requires.2.x)
    (record { fits = omega (arith, c.requires.2.x.1, row_small c.args.sx c.args.sz _ _ c.requires.0 c.requires.1 c.requires.2.y.1 c.requires.2.z.1) })

pub returns : goal.returns
unfolding record_at
returns c = rw (low_is c.args.at.y c.requires.2.y, low_is c.args.at.z c.requires.2.z, low_is c.args.at.x c.requires.2.x)
