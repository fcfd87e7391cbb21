-- `pairs::is_joined` meets its contract. Assumes nothing.
use Rattle.world.specs.Space.{space_of}
use Rattle.pairs.specs.Laws.{joined_is}
use Rattle.pairs.proofs.is_joined.Goals as goal

pub returns-then-has_step : goal.returns-then-has_step
returns-then-has_step c =
    rw (← joined_is (space_of c.args.query.world) c.args.query.request c.args.query.body c.args.from c.args.v c.args.last, ← c.point_of-point.ensures, ← c.has_step.ensures, c.if-has_step.true)

pub returns-then-last-same_feet : goal.returns-then-last-same_feet
returns-then-last-same_feet c =
    rw (← joined_is (space_of c.args.query.world) c.args.query.request c.args.query.body c.args.from c.args.v c.args.last, ← c.point_of-point.ensures, ← c.has_step.ensures, c.if-has_step.false, ← c.same_feet.ensures, c.if-last-same_feet.true, c.labelled_by.ensures, c.connector.ensures)

pub returns-else-last-same_feet : goal.returns-else-last-same_feet
returns-else-last-same_feet c =
    rw (← joined_is (space_of c.args.query.world) c.args.query.request c.args.query.body c.args.from c.args.v c.args.last, ← c.point_of-point.ensures, ← c.has_step.ensures, c.if-has_step.false, ← c.same_feet.ensures, c.if-last-same_feet.false)
