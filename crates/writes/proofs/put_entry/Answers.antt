-- `writes::put_entry` meets its contract. Assumes nothing.
use Rattle.std.proofs.Common.{rules}
use Rattle.fields.specs.Records.{Fill}
use Rattle.rooms.specs.Records.{entry_layout, entry_words, with_entry}
use Rattle.writes.specs.Laws.{put_entry}
use Rattle.writes.proofs.put_entry.Goals as goal

pub returns : goal.returns
unfolding with_entry
returns c =
    let a = c.args in
    let fill : Fill entry_layout (entry_words a.e) = search rules in
    put_entry a.front.now a.k a.e fill c.put_record.ensures
