-- What a search in slices answers (02, No. 10), and what it leaves in its rooms. Definitions only.
use Rattle.std.specs.Prelude.{ℕ, ◌*◌, ◌≡◌, List, [], ◌∷◌, ◌++◌, length, drop, replicate, Result, Ok, Err}
use Rattle.exploration.specs.Policy.{Node}
use Rattle.exploration.specs.Explore as explore
use Rattle.exploration.specs.Explore.{State}
use Rattle.rooms.specs.declared.Feet.{Feet}
use Rattle.rooms.specs.declared.Label.{Label}
use Rattle.rooms.specs.declared.Counts.{Counts}
use Rattle.rooms.specs.Lists.{list_bytes}
use Rattle.rooms.specs.Rooms.{Note, state_of, node_room, front_room, counts_in}
use Rattle.outcomes.specs.declared.Slice.{Slice}
use Rattle.outcomes.specs.declared.Slice.TheVariants.{Searching, Ended}
use Rattle.outcomes.specs.declared.Refusal.{Refusal}
use Rattle.outcomes.specs.declared.Refusal.TheVariants.{Judged, BadProgress}
use Rattle.outcomes.specs.Outcomes.{outcome_number, told_by, list_in}

-- ---- what an answer gives

-- a slice of the search, or why it was refused
abbrev pub Tick : Type 0
Tick = Result Slice Refusal

-- 01's numbers, 02's 12 BadProgress, and for "still searching" a number of our own
abbrev pub tick_number : Tick → ℕ
tick_number (Err (Judged o)) = outcome_number o
tick_number (Err BadProgress) = 12
tick_number (Ok (Searching c)) = 100
tick_number (Ok (Ended o n c)) = outcome_number o

-- "the counts (retained, closed, pushed, dropped)"
abbrev pub counts_given : Counts → List ℕ
counts_given c = c.retained ∷ c.closed ∷ c.pushed ∷ c.dropped ∷ []

-- An answer without an expansion has no values (1 to 5 of begin, but for its 100; 3, 1, 4, 5 and 12 of continue); else they are the list's count, which is 0 while the search goes on, and the counts.
unfoldable pub tick_given : Tick → ℕ × List ℕ
tick_given (Err r) = (tick_number (Err r), [])
tick_given (Ok (Searching c)) = (tick_number (Ok (Searching c)), 0 ∷ counts_given c)
tick_given (Ok (Ended o n c)) = (tick_number (Ok (Ended o n c)), n ∷ counts_given c)

-- ---- what a call leaves

-- its answer, and the node room, the frontier room and the output
pub record Ticked : Type 0 where
  pub tick : Tick
  pub nodes : List ℕ
  pub front : List ℕ
  pub out : List ℕ

-- "nothing written"
abbrev pub nothing_written : Tick → List ℕ → List ℕ → List ℕ → Ticked
nothing_written t nodes front out = record { tick = t; nodes = nodes; front = front; out = out }

-- "it answers the outcome or 'still searching'", with the counts
abbrev pub tick_by : explore.Outcome (Feet × Label) → Counts → Tick
tick_by (explore.Found t) c = Ok (Ended (told_by (explore.Found t)) (length t) c)
tick_by explore.Unreachable c = Ok (Ended (told_by explore.Unreachable) 0 c)
tick_by explore.BudgetExceeded c = Ok (Ended (told_by explore.BudgetExceeded) 0 c)
tick_by explore.Searching c = Ok (Searching c)

-- "The frontier room is zeroed when it ends."
abbrev pub front_by : explore.Outcome (Feet × Label) → List ℕ → List (Node Feet Label Note) → List ℕ
front_by (explore.Found t) old ns = replicate (length old) 0
front_by explore.Unreachable old ns = replicate (length old) 0
front_by explore.BudgetExceeded old ns = replicate (length old) 0
front_by explore.Searching old ns = front_room old ns

-- what a call leaves in rooms with old bytes, where the search is in state s and that has come to e: the list is written where one was found
abbrev pub ticked_by : explore.Outcome (Feet × Label) → State Feet Label Note ℕ → List ℕ → List ℕ → List ℕ → Ticked
ticked_by e s nodes front out = record {
  tick = tick_by e (counts_in s);
  nodes = node_room nodes s.nodes;
  front = front_by e front s.nodes;
  out = list_bytes (list_in e) ++ drop (48 * length (list_in e)) out;
}

-- ---- the promises of begin and continue

-- what was answered and what the rooms hold is that
pub record Gives (h : Ticked) (t : Tick) (nodes front out : List ℕ) : Type 0 where
  pub answer : tick_given t ≡ tick_given h.tick
  pub node_room_lem : nodes ≡ h.nodes
  pub front_room_lem : front ≡ h.front
  pub output : out ≡ h.out

-- while the search goes on, its rooms and counts, read as a state, are that state: so the next call goes on from it
abbrev pub GoesFrom : State Feet Label Note ℕ → Tick → List ℕ → List ℕ → Type 0
GoesFrom s (Err r) nodes front = Unit {0}
GoesFrom s (Ok (Searching c)) nodes front = state_of nodes front c ≡ s
GoesFrom s (Ok (Ended o n c)) nodes front = Unit {0}
