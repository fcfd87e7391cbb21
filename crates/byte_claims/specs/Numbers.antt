-- 01's numbers 0 and 1, back to their words.
use Rattle.std.proofs.Common.{arith}
use Rattle.std.specs.Prelude.{◌≡◌, refl}
use Rattle.outcomes.specs.declared.Outcome.{Outcome}
use Rattle.outcomes.specs.declared.Outcome.TheVariants.{Found, Unreachable, BudgetExceeded, BadWorld, TooLarge, NoRoom}
use Rattle.outcomes.specs.Outcomes.{outcome_number}

pub is_found : (o : Outcome) → outcome_number o ≡ 0 → o ≡ Found
is_found Found e = refl
is_found Unreachable e = absurd (omega arith)
is_found BudgetExceeded e = absurd (omega arith)
is_found BadWorld e = absurd (omega arith)
is_found TooLarge e = absurd (omega arith)
is_found NoRoom e = absurd (omega arith)

pub is_unreachable : (o : Outcome) → outcome_number o ≡ 1 → o ≡ Unreachable
is_unreachable Found e = absurd (omega arith)
is_unreachable Unreachable e = refl
is_unreachable BudgetExceeded e = absurd (omega arith)
is_unreachable BadWorld e = absurd (omega arith)
is_unreachable TooLarge e = absurd (omega arith)
is_unreachable NoRoom e = absurd (omega arith)
