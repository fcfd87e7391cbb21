-- What a search looks for in its rooms (01, "Search"): the node at a point, and the next of the frontier. Definitions only.
use Rattle.std.specs.Prelude.{ℕ, zero, suc, Bool, ◌||◌, cond, List, eqb, ltb, Float}
use Rattle.std.proofs.Math.Option.{Option, none, some}
use Rattle.std.specs.Float.{binary64}
use Rattle.std.specs.Float.Ieee.{of_bits, lt, eq}
use Rattle.exploration.specs.Choose.{choose}
use Rattle.exploration.specs.Estimates as estimates
use Rattle.fields.specs.Records.{firsts}
use Rattle.rooms.specs.declared.Feet.{Feet}
use Rattle.rooms.specs.declared.Entry.{Entry}
use Rattle.rooms.specs.Waypoints.{same_point}
use Rattle.rooms.specs.Records.{node_at, entry_at}

-- the first of n numbers, from k on, that passes a test, or the number behind them
abbrev pub first_of : (ℕ → Bool) → ℕ → ℕ → ℕ
first_of p k zero = k
first_of p k (suc n) = cond (p k) k (first_of p (suc k) n)

abbrev pub is_at : List ℕ → Feet → ℕ → Bool
is_at a q k = same_point (node_at a k).feet q

-- the first of n nodes at a point, or n
unfoldable pub first_at : List ℕ → ℕ → Feet → ℕ
first_at a n q = first_of (is_at a q) 0 n

-- "waiting u64 (1; all zero when node k doesn't wait)"
abbrev pub waits : Entry → Bool
waits e = eqb e.waiting 1

abbrev pub idle : Entry
idle = record { estimate = 0; order = 0; waiting = 0 }

abbrev pub estimate_of : Entry → Float
estimate_of e = of_bits binary64 e.estimate

-- "lowest estimate first, then earliest push"
abbrev pub sooner : Entry → Entry → Bool
sooner = estimates.sooner lt eq estimate_of (λ e. e.order)

abbrev pub index_or : {A : Type 0} → ℕ → Option (ℕ × A) → ℕ
index_or n none = n
index_or n (some r) = r.0

-- the next of n nodes, or n where none waits
unfoldable pub next_of : ℕ → List ℕ → ℕ
next_of n f = index_or n (choose waits sooner (firsts n (entry_at f)))

-- the same among the nodes from `low` on: the entries before count as idle
unfoldable pub entry_from : ℕ → List ℕ → ℕ → Entry
entry_from low f k = cond (ltb k low) idle (entry_at f k)

unfoldable pub next_from : ℕ → ℕ → List ℕ → ℕ
next_from low n f = index_or n (choose waits sooner (firsts n (entry_from low f)))

-- whether node j is not at rest: it is open, or waits
abbrev pub busy : List ℕ → List ℕ → ℕ → Bool
busy a f j = eqb (node_at a j).closed 0 || waits (entry_at f j)
