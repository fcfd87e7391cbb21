-- `rooms::records::get_entry` meets its contract. Assumes nothing.
use Rattle.std.proofs.Common.{ap, ◌∙◌}
use Rattle.rooms.specs.Records.{entry_layout, entry_from, entry_at}
use Rattle.rooms.proofs.Laws.Fields.{entry_read}
use Rattle.rooms.proofs.records.get_entry.Goals as goal

pub returns : goal.returns
unfolding entry_at
returns c =
    entry_read c.args.front.now c.offset_of-at.result c.u64_at-estimate.ensures c.u64_at-order.ensures c.u64_at-waiting.ensures
    ∙ ap entry_from (c.offset_of-at.ensures.reads entry_layout)
