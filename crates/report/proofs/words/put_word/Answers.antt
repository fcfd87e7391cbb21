-- `report::words::put_word` meets its contract. Assumes nothing.
use Rattle.std.proofs.Common.{◌≡◌, ◌+◌, ◌-◌, length, arith}
use Rattle.std.proofs.lemmas.List.{drop-drop}
use Rattle.report.specs.Words.{word_field}
use Rattle.report.proofs.words.put_word.Goals as goal

pub returns : goal.returns
returns c =
    let a = c.args in
    let size : a.at + length a.word.now - a.at ≡ length a.word.now = omega arith in
    rw (c.copy_from_slice.ensures.after, size, drop-drop) (word_field a.out.now a.word.now a.at 32 (omega arith) c.requires.1)
