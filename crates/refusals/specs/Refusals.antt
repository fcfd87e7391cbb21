-- What is answered without a search (01, "Numbers given back"). Definitions only.
use Rattle.std.specs.Prelude.{ℕ, ◌+◌, ◌*◌, Bool, not, ◌||◌, cond, List, eqb, ltb, Result, Ok, Err}
use Rattle.std.proofs.Math.Option.{Option, none, some}
use Rattle.world.specs.declared.Body.{Body}
use Rattle.world.specs.declared.Query.{Query}
use Rattle.world.specs.declared.Request.{Request}
use Rattle.world.specs.declared.Window.{Window}
use Rattle.world.specs.Space.{space}
use Rattle.tables.specs.BadWorld.{bad_world}
use Rattle.request.specs.Request.{valid_request, too_large}
use Rattle.ends.specs.Ends.{ends_good}
use Rattle.outcomes.specs.declared.Outcome.{Outcome}
use Rattle.outcomes.specs.Outcomes.{outcome_number}
use Rattle.outcomes.specs.declared.Outcome.TheVariants.{Unreachable, BudgetExceeded, BadWorld, TooLarge, NoRoom}

-- "5 NoRoom: node or frontier room under node_budget records, output under node_budget + 1"; 02, No. 5: "Rooms are counted in the new sizes". Of
-- rooms of so many bytes.
unfoldable pub no_room : ℕ → ℕ → ℕ → ℕ → Bool
no_room budget nodes front out = ltb nodes (64 * budget) || ltb front (24 * budget) || ltb out (48 * (budget + 1))

-- "3; `valid_request` (else 1); 4; 5", which a search and one that is continued are judged by alike (02, No. 10: "continue judges 3, `valid_request` (1), 4, 5"):
-- what is said of the first that holds, or what comes after them. Of the rooms only the sizes count. 02, No. 7: "5 also for an index room of a wrong size"; a
-- call without an index passes false.
abbrev pub call_judged : {A : Type 0} → Window → List ℕ → List ℕ → List ℕ → Request → Body → ℕ → ℕ → ℕ → Bool → (Outcome → A) → A → A
call_judged w cells shapes boxes r body nodes front out wrong_index says after =
    cond (bad_world w cells shapes boxes) (says BadWorld)
    (cond (not (valid_request r body)) (says Unreachable)
    (cond (too_large r body) (says TooLarge)
    (cond (no_room r.node_budget nodes front out || wrong_index) (says NoRoom)
    after)))

-- what is answered by these alone, or none
unfoldable pub without_call : Window → List ℕ → List ℕ → List ℕ → Request → Body → ℕ → ℕ → ℕ → Bool → Option Outcome
without_call w cells shapes boxes r body nodes front out wrong_index = call_judged w cells shapes boxes r body nodes front out wrong_index some none

-- "Search order: 3; `valid_request` (else 1); 4; 5; goal in range, start standable, goal standable (else 1); budget 0 (2); search": what is answered
-- without a search, or none where it begins
unfoldable pub without_search : Window → List ℕ → List ℕ → List ℕ → List ℕ → Request → Body → ℕ → ℕ → ℕ → Bool → Option Outcome
without_search w cells perms shapes boxes r body nodes front out wrong_index =
    call_judged w cells shapes boxes r body nodes front out wrong_index some
    (cond (not (ends_good (space w cells perms shapes boxes) r body)) (some Unreachable)
    (cond (eqb r.node_budget 0) (some BudgetExceeded)
    none))

-- the number of that, where there is one
abbrev pub number_if : Option Outcome → Option ℕ
number_if (some o) = some (outcome_number o)
number_if none = none

-- the number of what the code answers; its cases have no other values
abbrev pub judged_number : Result (Unit {0}) Outcome → Option ℕ
judged_number (Err o) = some (outcome_number o)
judged_number (Ok u) = none

-- ---- what the code answers of a query: nothing where there is no such answer, else that answer as its refusal

abbrev pub refused_with : Option Outcome → Result (Unit {0}) Outcome
refused_with (some o) = Err o
refused_with none = Ok tt

abbrev pub call_answer : Query → ℕ → ℕ → ℕ → Bool → Result (Unit {0}) Outcome
call_answer q nodes front out wrong_index =
    refused_with (without_call q.world.window q.world.cells.now q.world.shapes.now q.world.boxes.now q.request q.body nodes front out wrong_index)

abbrev pub search_answer : Query → ℕ → ℕ → ℕ → Bool → Result (Unit {0}) Outcome
search_answer q nodes front out wrong_index =
    refused_with (without_search q.world.window q.world.cells.now q.world.perms.now q.world.shapes.now q.world.boxes.now q.request q.body nodes front out wrong_index)
