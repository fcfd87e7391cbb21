-- What a search's answers give tells them apart, because each can be read back: a contract that says it allows one answer. Assumes nothing.
use Rattle.std.specs.Prelude.{◌≡◌, refl, false, cond, List, [], ◌∷◌, ℕ, eqb, get_or, Ok, Err}
use Rattle.std.proofs.Common.{sym, ap, ◌∙◌}
use Rattle.rooms.specs.declared.Counts.{Counts}
use Rattle.outcomes.specs.declared.Outcome.{Outcome}
use Rattle.outcomes.specs.declared.Outcome.TheVariants.{Found, Unreachable, BudgetExceeded, BadWorld, TooLarge, NoRoom}
use Rattle.outcomes.specs.declared.Answer.{Answer}
use Rattle.outcomes.specs.declared.Slice.TheVariants.{Searching, Ended}
use Rattle.outcomes.specs.declared.Refusal.TheVariants.{Judged, BadProgress}
use Rattle.outcomes.specs.Outcomes.{Path, outcome_number, answer_given, path_given}
use Rattle.outcomes.specs.Ticks.{Tick, tick_given}

-- ---- an outcome, by its number

abbrev outcome : ℕ → Outcome
outcome n =
    cond (eqb n (outcome_number Found)) Found
    (cond (eqb n (outcome_number Unreachable)) Unreachable
    (cond (eqb n (outcome_number BudgetExceeded)) BudgetExceeded
    (cond (eqb n (outcome_number BadWorld)) BadWorld
    (cond (eqb n (outcome_number TooLarge)) TooLarge
    NoRoom))))

outcome_back : (o : Outcome) → outcome (outcome_number o) ≡ o
outcome_back Found = refl
outcome_back Unreachable = refl
outcome_back BudgetExceeded = refl
outcome_back BadWorld = refl
outcome_back TooLarge = refl
outcome_back NoRoom = refl

pub one_outcome : (a b : Outcome) → outcome_number a ≡ outcome_number b → a ≡ b
one_outcome a b e = sym (outcome_back a) ∙ ap outcome e ∙ outcome_back b

-- ---- an answer, by its number and its three values

abbrev answer : ℕ × List ℕ → Answer
answer (n, values) = record { outcome = outcome n; count = get_or values 0 0; retained = get_or values 1 0; closed = get_or values 2 0 }

answer_back : (a : Answer) → answer (answer_given a) ≡ a
unfolding answer_given
answer_back a = ap (λ (o : Outcome). record { outcome = o; count = a.count; retained = a.retained; closed = a.closed }) (outcome_back a.outcome)

pub one_answer : (a b : Answer) → answer_given a ≡ answer_given b → a ≡ b
one_answer a b e = sym (answer_back a) ∙ ap answer e ∙ answer_back b

-- ---- of a mob's search: 8 is no outcome's number

other : (o : Outcome) → eqb (outcome_number o) 8 ≡ false
other Found = refl
other Unreachable = refl
other BudgetExceeded = refl
other BadWorld = refl
other TooLarge = refl
other NoRoom = refl

abbrev path : ℕ × List ℕ → Path
path (n, values) = cond (eqb n 8) (Err (record {})) (Ok (answer (n, values)))

path_back : (p : Path) → path (path_given p) ≡ p
unfolding path_given answer_given
path_back (Ok a) = rw (other a.outcome) (ap Ok (answer_back a))
path_back (Err e) = refl

pub one_path : (a b : Path) → path_given a ≡ path_given b → a ≡ b
one_path a b e = sym (path_back a) ∙ ap path e ∙ path_back b

-- ---- of a search in slices: a refusal has no values

abbrev counts_from : List ℕ → Counts
counts_from values = record { retained = get_or values 1 0; closed = get_or values 2 0; pushed = get_or values 3 0; dropped = get_or values 4 0 }

abbrev tick_from : ℕ → List ℕ → Tick
tick_from n [] = Err (cond (eqb n 12) BadProgress (Judged (outcome n)))
tick_from n (count ∷ counts) = Ok (cond (eqb n 100) (Searching (counts_from (count ∷ counts))) (Ended (outcome n) count (counts_from (count ∷ counts))))

abbrev tick : ℕ × List ℕ → Tick
tick (n, values) = tick_from n values

not_progress : (o : Outcome) → eqb (outcome_number o) 12 ≡ false
not_progress Found = refl
not_progress Unreachable = refl
not_progress BudgetExceeded = refl
not_progress BadWorld = refl
not_progress TooLarge = refl
not_progress NoRoom = refl

not_searching : (o : Outcome) → eqb (outcome_number o) 100 ≡ false
not_searching Found = refl
not_searching Unreachable = refl
not_searching BudgetExceeded = refl
not_searching BadWorld = refl
not_searching TooLarge = refl
not_searching NoRoom = refl

tick_back : (t : Tick) → tick (tick_given t) ≡ t
unfolding tick_given
tick_back (Err (Judged o)) = rw (not_progress o) (ap (λ (p : Outcome). Err (Judged p)) (outcome_back o))
tick_back (Err BadProgress) = refl
tick_back (Ok (Searching c)) = refl
tick_back (Ok (Ended o n c)) = rw (not_searching o) (ap (λ (p : Outcome). Ok (Ended p n c)) (outcome_back o))

pub one_tick : (a b : Tick) → tick_given a ≡ tick_given b → a ≡ b
one_tick a b e = sym (tick_back a) ∙ ap tick e ∙ tick_back b
