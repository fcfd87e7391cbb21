-- `writes::put_waypoint` meets its contract. Assumes nothing.
use Rattle.rooms.specs.Records.{with_waypoint}
use Rattle.writes.proofs.put_waypoint.Goals as goal

pub returns : goal.returns
unfolding with_waypoint
returns c = c.put_record.ensures
