-- `rooms::records::get_waypoint` meets its contract. Assumes nothing.
use Rattle.std.proofs.Common.{ap, ◌∙◌}
use Rattle.rooms.specs.Records.{waypoint_from, waypoint_layout, waypoint_at}
use Rattle.rooms.proofs.records.get_waypoint.Goals as goal

pub returns : goal.returns
unfolding waypoint_at
returns c = c.waypoint_at.ensures ∙ ap waypoint_from (c.offset_of.ensures.reads waypoint_layout)
