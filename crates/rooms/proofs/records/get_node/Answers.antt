-- `rooms::records::get_node` meets its contract. Assumes nothing.
use Rattle.std.proofs.Common.{ap, ◌∙◌}
use Rattle.rooms.specs.Records.{node_layout, node_from, node_at}
use Rattle.rooms.proofs.Laws.Fields.{node_read}
use Rattle.rooms.proofs.records.get_node.Goals as goal

pub returns : goal.returns
unfolding node_at
returns c =
    node_read c.args.nodes.now c.offset_of-at.result c.waypoint_at.ensures c.u64_at-cost.ensures c.u32_at-parent.ensures c.u32_at-closed.ensures
    ∙ ap node_from (c.offset_of-at.ensures.reads node_layout)
