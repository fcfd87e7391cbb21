-- `records::put_record` meets its contract. Assumes nothing.
use Rattle.std.proofs.Common.{◌≡◌, length}
use Rattle.fields.specs.Records.{with_words}
use Rattle.records.specs.Laws.{rest}
use Rattle.records.proofs.put_record.Given as goal

abbrev pub invariant-loop-i : goal.invariant-loop-i
invariant-loop-i l = (length l.s ≡ length l.initial.s) × (with_words l.initial.s l.k l.words ≡ rest l.initial.s l.k l.words l.i l.s)
