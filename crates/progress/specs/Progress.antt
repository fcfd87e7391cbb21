-- With how many expansions, on what counts and on what rooms a search can be continued (02, No. 10; else it is 12 BadProgress), a definition a clause, in 02's
-- order. Definitions only.
use Rattle.std.specs.Prelude.{ℕ, ◌/◌, Bool, ◌&&◌, ◌||◌, not, List, eqb, leb, ltb, length}
use Rattle.std.specs.Float.{binary64}
use Rattle.std.specs.Float.Ieee.{of_bits}
use Rattle.std.specs.Float.Ieee.Scale.{finite}
use Rattle.world.specs.declared.Point.{Point}
use Rattle.world.specs.declared.Request.{Request}
use Rattle.places.specs.Places.{in_range}
use Rattle.rooms.specs.declared.Feet.{Feet}
use Rattle.rooms.specs.declared.Counts.{Counts}
use Rattle.rooms.specs.Records.{node_at, entry_at}
use Rattle.rooms.specs.Scans.{waits, estimate_of}
use Rattle.chains.specs.Chains.{each_below, good_chains}

-- "for expansions outside 1 to 4,096"
abbrev pub good_asked : ℕ → Bool
good_asked n = leb 1 n && leb n 4096

-- "retained is 1 to budget"
abbrev pub good_retained : ℕ → Counts → Bool
good_retained budget c = leb 1 c.retained && leb c.retained budget

-- "closed at most that": the count, which need not be that of the closed marks
abbrev pub good_closed : Counts → Bool
good_closed c = leb c.closed c.retained

-- "pushed and dropped below 2^32"
abbrev pub good_pushed : Counts → Bool
good_pushed c = ltb c.pushed 4294967296

abbrev pub good_dropped : Counts → Bool
good_dropped c = ltb c.dropped 4294967296

unfoldable pub good_counts : ℕ → Counts → ℕ → Bool
good_counts budget c n = good_asked n && (good_retained budget c && good_closed c) && good_pushed c && good_dropped c

-- "each retained point in range": node k's, with the record's own bits
abbrev pub stands_at : Feet → Point
stands_at p = record { x = of_bits binary64 p.x; y = of_bits binary64 p.y; z = of_bits binary64 p.z }

abbrev pub good_point : Request → List ℕ → ℕ → Bool
good_point r a k = in_range r (stands_at (node_at a k).feet)

-- "with finite cost"
abbrev pub good_cost : List ℕ → ℕ → Bool
good_cost a k = finite (of_bits binary64 (node_at a k).cost)

-- "movement at most 3"
abbrev pub good_movement : List ℕ → ℕ → Bool
good_movement a k = leb (node_at a k).label.movement 3

-- "and marks 0 or 1": the closed mark of its node record, the waiting one of its frontier record
abbrev pub good_marks : List ℕ → List ℕ → ℕ → Bool
good_marks a f k = leb (node_at a k).closed 1 && leb (entry_at f k).waiting 1

unfoldable pub good_node : Request → List ℕ → List ℕ → ℕ → Bool
good_node r a f k = good_point r a k && good_cost a k && good_movement a k && good_marks a f k

-- "some node waits": of n nodes not each is idle. A search that has ended left a frontier room of zeros, so this is also "a search already ended": nothing else
-- in the rooms or the counts tells it.
abbrev pub is_idle : List ℕ → ℕ → Bool
is_idle f k = not (waits (entry_at f k))

unfoldable pub some_waits : List ℕ → ℕ → Bool
some_waits f n = not (each_below (is_idle f) n)

-- "each that does retained, open and of finite estimate": frontier record k
unfoldable pub good_wait : List ℕ → List ℕ → ℕ → ℕ → Bool
good_wait a f n k = is_idle f k || (ltb k n && eqb (node_at a k).closed 0 && finite (estimate_of (entry_at f k)))

-- All of it; the parents and their chains are `good_chains`, which asks besides for at most 4,096 nodes, as many as 4 lets a search have. Of the frontier room every whole record is asked, past the budget too, as it is zeroed whole.
unfoldable pub good_progress : Request → List ℕ → List ℕ → Counts → ℕ → Bool
good_progress r a f c n =
    good_counts r.node_budget c n
    && (each_below (good_node r a f) c.retained && good_chains a c.retained && some_waits f c.retained && each_below (good_wait a f c.retained) (length f / 24))
