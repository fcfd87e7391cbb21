-- Costs and estimates of 01's search, over the patterns of f64. Definitions only.
use Rattle.std.specs.Prelude.{ℕ, Bool, true, false, not, ◌||◌, Float}
use Rattle.std.specs.Float.{binary64}
use Rattle.std.specs.Float.Ieee.{of_bits, to_bits, add, sub, mul, lt}
use Rattle.floats.specs.Floats.{E}
use Rattle.root.specs.Distance.{distance}
use Rattle.rooms.specs.declared.Feet.{Feet}
use Rattle.rooms.specs.declared.Entry.{Entry}
use Rattle.rooms.specs.Scans.{waits}

abbrev pub float : ℕ → Float
float n = of_bits binary64 n

abbrev pub less : ℕ → ℕ → Float
less a b = sub binary64 (float a) (float b)

-- "distance is the root of x² + y² + z² summed left to right", of the differences of two points
unfoldable pub apart : Feet → Feet → Float
apart p q = distance (less p.x q.x) (less p.y q.y) (less p.z q.z)

-- a point's cost is the cost of the node that it is reached from, and the distance from there
unfoldable pub cost_by : ℕ → Feet → Feet → ℕ
cost_by walked from to = to_bits binary64 (add binary64 (float walked) (apart from to))

-- "Estimate = cost + 1.5 × distance to goal"
unfoldable pub estimate_by : Feet → ℕ → Feet → ℕ
estimate_by goal cost to = to_bits binary64 (add binary64 (float cost) (mul binary64 (float 0x3ff8_0000_0000_0000) (apart to goal)))

-- "only if new cost + E < old cost"
unfoldable pub cheaper : ℕ → ℕ → Bool
cheaper new old = lt (add binary64 (float new) E) (float old)

abbrev pub pushed_as : ℕ → ℕ → Entry
pushed_as e g = record { estimate = e; order = g; waiting = 1 }

-- "one waiting entry a node, replaced only by a lower estimate"; a node that does not wait has none
abbrev pub lowers : ℕ → Entry → Bool
lowers e old = not (waits old) || lt (float e) (float old.estimate)

abbrev pub lowered_by : Bool → ℕ → Entry → ℕ → Entry
lowered_by true e old g = pushed_as e g
lowered_by false e old g = pushed_as old.estimate old.order

unfoldable pub lowered : ℕ → Entry → ℕ → Entry
lowered e old g = lowered_by (lowers e old) e old g
