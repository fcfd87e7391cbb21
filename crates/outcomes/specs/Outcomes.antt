-- 01's outcomes and their numbers ("Numbers given back"), what an answer gives, and what the end of a run is told as. Definitions only.
use Rattle.std.specs.Prelude.{ℕ, zero, suc, List, [], ◌∷◌, length, Result, Ok, Err}
use Rattle.exploration.specs.Explore as explore
use Rattle.rooms.specs.declared.Feet.{Feet}
use Rattle.rooms.specs.declared.Label.{Label}
use Rattle.rooms.specs.declared.Counts.{Counts}
use Rattle.rooms.specs.Lists.{list_of}
use Rattle.policy.specs.declared.policy.BadTable.{BadTable}
use Rattle.outcomes.specs.declared.Outcome.{Outcome}
use Rattle.outcomes.specs.declared.Outcome.TheVariants.{Found, Unreachable, BudgetExceeded, BadWorld, TooLarge, NoRoom}
use Rattle.outcomes.specs.declared.Answer.{Answer}
use Rattle.outcomes.specs.declared.Turn.{Turn}
use Rattle.outcomes.specs.declared.Turn.TheVariants.{Rest, Going, At, By}

-- 01, "Numbers given back", the table's first six rows: 0 Found, 1 Unreachable, 2 BudgetExceeded, 3 BadWorld, 4 TooLarge, 5 NoRoom
abbrev pub outcome_number : Outcome → ℕ
outcome_number Found = 0
outcome_number Unreachable = 1
outcome_number BudgetExceeded = 2
outcome_number BadWorld = 3
outcome_number TooLarge = 4
outcome_number NoRoom = 5

-- what a mob's search answers: the search's answer, or that the flag and permission tables differ in length
abbrev pub Path : Type 0
Path = Result Answer BadTable

-- of it: "`find_path` gives the outcome number", or the table's 8 BadTable
abbrev pub path_number : Path → ℕ
path_number (Ok a) = outcome_number a.outcome
path_number (Err e) = 8

-- the theory's outcome in 01's words; no search ends `Searching` (claims, `a_search_ends`), which is told as 2 for want of another
abbrev pub told_by : explore.Outcome (Feet × Label) → Outcome
told_by (explore.Found t) = Found
told_by explore.Unreachable = Unreachable
told_by explore.BudgetExceeded = BudgetExceeded
told_by explore.Searching = BudgetExceeded

-- "list written": the list that was found, and none else
abbrev pub list_in : explore.Outcome (Feet × Label) → List (Feet × Label)
list_in (explore.Found t) = t
list_in explore.Unreachable = []
list_in explore.BudgetExceeded = []
list_in explore.Searching = []

-- the answer where no search began: "retained nodes, closed nodes (0 if no search began)", "On 1 to 5 .. its count is 0"
abbrev pub unsearched : Outcome → Answer
unsearched o = record { outcome = o; count = 0; retained = 0; closed = 0 }

-- ---- what an answer gives

-- 01: "Each enum answer has a definition that gives this paper's number and values for each of its cases. The promises use that definition." Of a search it
-- is the outcome's number, and the values are "waypoints, retained nodes, closed nodes".
unfoldable pub answer_given : Answer → ℕ × List ℕ
answer_given a = (outcome_number a.outcome, a.count ∷ a.retained ∷ a.closed ∷ [])

-- of a mob's search the same; 8 has no values
unfoldable pub path_given : Path → ℕ × List ℕ
path_given (Ok a) = answer_given a
path_given (Err e) = (path_number (Err e), [])

-- ---- the end of a run

abbrev pub counts_of : Turn → Counts
counts_of (Rest c) = c
counts_of (Going c) = c
counts_of (At c k) = c
counts_of (By c k l) = c

-- where nothing waits, and so many points were dropped: 1 is "search ended with nothing dropped", 2 "search ended after a new point was dropped"
abbrev pub end_quiet : ℕ → explore.Outcome (Feet × Label)
end_quiet zero = explore.Unreachable
end_quiet (suc d) = explore.BudgetExceeded

-- on the node room; a run as long as the budget that is still `Going` has nothing that waits either (search's Laws.Whole, `going_quiet`)
abbrev pub end_at : List ℕ → Feet → Turn → explore.Outcome (Feet × Label)
end_at a goal (Rest c) = end_quiet c.dropped
end_at a goal (Going c) = end_quiet c.dropped
end_at a goal (At c k) = explore.Found (list_of a c.retained k [])
end_at a goal (By c k l) = explore.Found (list_of a c.retained k ((goal, l) ∷ []))

-- an outcome with the counts of its run
abbrev pub answer_of : Counts → explore.Outcome (Feet × Label) → Answer
answer_of c e = record { outcome = told_by e; count = length (list_in e); retained = c.retained; closed = c.closed }
