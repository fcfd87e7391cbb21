-- What is judged before a question about a world is answered (01, Modules 5). Definitions only.
use Rattle.std.specs.Prelude.{ℕ, not, cond, List, Result, Ok, Err}
use Rattle.std.proofs.Math.Option.{Option, none, some}
use Rattle.world.specs.declared.Body.{Body}
use Rattle.world.specs.declared.Request.{Request}
use Rattle.world.specs.declared.Window.{Window}
use Rattle.tables.specs.BadWorld.{bad_world}
use Rattle.request.specs.Request.{valid_request, sizes_too_large}
use Rattle.questions.specs.declared.Judgement.{Judgement}
use Rattle.questions.specs.declared.Judgement.TheVariants.{BadWorld, Invalid, TooLarge}

-- "3; `valid_request` (else no); 4, the budget not read; then": of what is said in each of the four cases, the first that comes
abbrev pub judged : {A : Type 0} → Window → List ℕ → List ℕ → List ℕ → Request → Body → A → A → A → A → A
judged w cells shapes boxes r body bad invalid large answer =
    cond (bad_world w cells shapes boxes) bad
    (cond (not (valid_request r body)) invalid
    (cond (sizes_too_large r body) large
    answer))

-- what keeps a question from its answer, if anything
abbrev pub question : Window → List ℕ → List ℕ → List ℕ → Request → Body → Result (Unit {0}) Judgement
question w cells shapes boxes r body = judged w cells shapes boxes r body (Err BadWorld) (Err Invalid) (Err TooLarge) (Ok tt)

-- 01's number of what keeps a question from its answer, or none where it is answered. An invalid request is 1; the walk-back, whose list is then no route, tells it as no.
unfoldable pub judgement_number : Result (Unit {0}) Judgement → Option ℕ
judgement_number (Err BadWorld) = some 3
judgement_number (Err Invalid) = some 1
judgement_number (Err TooLarge) = some 4
judgement_number (Ok _) = none

abbrev pub question_number : Window → List ℕ → List ℕ → List ℕ → Request → Body → Option ℕ
question_number w cells shapes boxes r body = judged w cells shapes boxes r body (some 3) (some 1) (some 4) none
