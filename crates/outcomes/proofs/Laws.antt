-- How a search ended that found no list, as the code tests it.
use Rattle.std.specs.Prelude.{◌≡◌, refl, ◌≢◌, ℕ, zero, suc}
use Rattle.std.proofs.Common.{sym, ap}
use Rattle.exploration.specs.Explore.{Unreachable, BudgetExceeded}
use Rattle.outcomes.specs.Outcomes.{end_quiet}

pub none_dropped : (d : ℕ) → d ≡ 0 → Unreachable ≡ end_quiet d
none_dropped d h = sym (ap end_quiet h)

pub some_dropped : (d : ℕ) → d ≢ 0 → BudgetExceeded ≡ end_quiet d
some_dropped zero h = absurd (h refl)
some_dropped (suc d) h = refl
