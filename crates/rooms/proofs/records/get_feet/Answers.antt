-- `rooms::records::get_feet` meets its contract. Assumes nothing.
use Rattle.std.proofs.Common.{ap, ◌∙◌}
use Rattle.rooms.specs.Records.{feet_from, waypoint_layout, node_at}
use Rattle.rooms.proofs.records.get_feet.Goals as goal

pub returns : goal.returns
unfolding node_at
returns c = c.feet_at.ensures ∙ ap feet_from (c.offset_of.ensures.reads waypoint_layout)
