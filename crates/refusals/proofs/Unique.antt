-- What `judge` answers is told apart by its number: its contract allows one answer without a search, or none. Assumes nothing.
use Rattle.std.specs.Prelude.{◌≡◌, refl, Result, Ok, Err}
use Rattle.std.proofs.Common.{sym, ap}
use Rattle.std.proofs.Math.Option.{Option, none, some}
use Rattle.exploration.proofs.Laws.Lists.{none_some}
use Rattle.outcomes.specs.declared.Outcome.{Outcome}
use Rattle.outcomes.specs.Outcomes.{outcome_number}
use Rattle.outcomes.proofs.Unique.{one_outcome}
use Rattle.refusals.specs.Refusals.{number_if, judged_number, refused_with}

same_number : (o p : Outcome) → some (outcome_number o) ≡ some (outcome_number p) → o ≡ p
same_number o p e = one_outcome o p cc

pub one_judged : (a b : Result (Unit {0}) Outcome) → judged_number a ≡ judged_number b → a ≡ b
one_judged (Err o) (Err p) e = ap Err (same_number o p e)
one_judged (Err o) (Ok u) e = absurd (none_some (sym e))
one_judged (Ok u) (Err p) e = absurd (none_some e)
one_judged (Ok u) (Ok v) e = refl

-- and the number is that of one answer without a search, or of none
pub one_way : (x y : Option Outcome) → number_if x ≡ number_if y → x ≡ y
one_way (some o) (some p) e = ap some (same_number o p e)
one_way (some o) none e = absurd (none_some (sym e))
one_way none (some p) e = absurd (none_some e)
one_way none none e = refl

-- the number of what is answered is that of what is meant
pub judged_told : (x : Option Outcome) → judged_number (refused_with x) ≡ number_if x
judged_told (some o) = refl
judged_told none = refl

pub refused_as : (o : Outcome) (x : Option Outcome) → Err o ≡ refused_with x → some o ≡ x
refused_as o (some p) e = let z : o ≡ p = cc in ap some z
refused_as o none e = cc

pub not_refused : (u : Unit {0}) (x : Option Outcome) → Ok u ≡ refused_with x → none ≡ x
not_refused u (some p) e = cc
not_refused u none e = refl
