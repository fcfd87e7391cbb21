-- `answer_words::put_words` meets its contract. The loop's invariant: the first k bytes are the words', and the others are as they were. Assumes nothing.
use Rattle.std.proofs.Common.{◌≡◌, drop, take, ◌++◌}
use Rattle.answer_words.proofs.put_words.Given as goal

abbrev pub invariant-loop-k : goal.invariant-loop-k
invariant-loop-k l = l.out ≡ take l.k l.words ++ drop l.k l.initial.out
