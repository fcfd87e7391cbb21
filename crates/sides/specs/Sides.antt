-- 01, The graph, "Graph step": the four sides of a point, and the diagonals between them. Definitions only.
use Rattle.std.specs.Prelude.{ℕ, ◌-◌, Bool, true, false, ◌&&◌, cond, List, [], ◌∷◌, ltb, get_or, set}
use Rattle.std.specs.Float.{binary64}
use Rattle.std.specs.Float.Ieee.{le, add}
use Rattle.floats.specs.Floats.{E}
use Rattle.world.specs.declared.Point.{Point}
use Rattle.sides.specs.declared.SidePair.{SidePair}
use Rattle.sides.specs.declared.Sides.{Sides}

-- "an edge to a y at most this y + E"
unfoldable pub level_to : Point → Point → Bool
level_to from to = le to.y (add binary64 from.y E)

-- "Diagonals need two sides: (0,1), (2,1), (2,3), (0,3), numbered from 0 at (1,0)."
abbrev pub side_pairs : List SidePair
side_pairs = (0, 1) ∷ (2, 1) ∷ (2, 3) ∷ (0, 3) ∷ []

unfoldable pub pair_at : ℕ → SidePair
pair_at d = get_or side_pairs d (0, 0)

-- whether column n is looked at: the point's own and the sides always, a diagonal between two sides that say yes
unfoldable pub looked_by : Sides → ℕ → Bool
looked_by s n = cond (ltb n 5) true (get_or s.level (pair_at (n - 5)).0 false && get_or s.level (pair_at (n - 5)).1 false)

-- whether column n is a side: the columns 1 to 4 are
abbrev pub side_at : ℕ → Bool
side_at n = ltb 0 n && ltb n 5

-- the answers before any side has answered, and with the answer of column n, where that is a side
unfoldable pub no_sides : Sides
no_sides = record { level = false ∷ false ∷ false ∷ false ∷ [] }

unfoldable pub answered_by : Sides → ℕ → Bool → Sides
answered_by s n b = cond (side_at n) (record { level = set s.level (n - 1) b }) s
