-- `writes::put_node` meets its contract. Assumes nothing.
use Rattle.std.proofs.Common.{rules}
use Rattle.fields.specs.Records.{Fill}
use Rattle.rooms.specs.Records.{node_layout, node_words}
use Rattle.writes.specs.Laws.{put_node}
use Rattle.writes.proofs.put_node.Goals as goal

pub returns : goal.returns
returns c =
    let a = c.args in
    let fill : Fill node_layout (node_words a.r) = search rules in
    put_node a.nodes.now a.k a.r fill (rw (c.from.ensures, c.from-2.ensures) at c.put_record.ensures)
