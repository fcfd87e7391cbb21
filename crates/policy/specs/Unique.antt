-- Each answer's number tells it apart: a contract that gives it allows one answer. Assumes nothing.
use Rattle.std.specs.Prelude.{◌≡◌, refl, Result, Ok, Err}
use Rattle.std.proofs.Common.{arith}
use Rattle.policy.specs.declared.doors.Passage.{Passage}
use Rattle.policy.specs.declared.doors.Passage.TheVariants.{Shape, Through, Wall}
use Rattle.policy.specs.declared.policy.BadTable.{BadTable}
use Rattle.policy.specs.Answers.{passage_number, filled_number}

pub one_passage : (a b : Passage) → passage_number a ≡ passage_number b → a ≡ b
one_passage Shape Shape e = refl
one_passage Shape Through e = absurd (omega arith)
one_passage Shape Wall e = absurd (omega arith)
one_passage Through Shape e = absurd (omega arith)
one_passage Through Through e = refl
one_passage Through Wall e = absurd (omega arith)
one_passage Wall Shape e = absurd (omega arith)
one_passage Wall Through e = absurd (omega arith)
one_passage Wall Wall e = refl

pub one_filled : (a b : Result (Unit {0}) BadTable) → filled_number a ≡ filled_number b → a ≡ b
one_filled (Ok _) (Ok _) e = refl
one_filled (Ok _) (Err _) e = absurd (omega arith)
one_filled (Err _) (Ok _) e = absurd (omega arith)
one_filled (Err _) (Err _) e = refl
