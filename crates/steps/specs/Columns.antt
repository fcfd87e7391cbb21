-- 01, The graph, "Graph step": the columns around a point, their heights, and the edges to them. Definitions only.
use Rattle.std.specs.Prelude.{Option, Some, None, ℕ, ◌+◌, Bool, false, ◌||◌, cond, List, [], ◌∷◌, ℤ, pos, negsuc, ◌+ℤ◌, get_or, Float}
use Rattle.std.specs.Float.{binary64}
use Rattle.std.specs.Float.Ieee.{add, sub, of_int}
use Rattle.floats.specs.Floats.{smaller, larger}
use Rattle.cells.specs.Cells.{floor_cell}
use Rattle.regions.specs.Ranges.{gather}
use Rattle.world.specs.declared.Point.{Point}
use Rattle.world.specs.declared.Body.{Body}
use Rattle.world.specs.declared.Request.{Request}
use Rattle.world.specs.Space.{Space}
use Rattle.support.specs.Support.{half_one}
use Rattle.heights.specs.declared.Band.{Band}
use Rattle.heights.specs.Heights.{heights}
use Rattle.moves.specs.declared.answer.Waypoint.{Waypoint}
use Rattle.moves.specs.Moves.{step_height}
use Rattle.edges.specs.Edges.{edge}
use Rattle.sides.specs.declared.Sides.{Sides}
use Rattle.sides.specs.Sides.{level_to, looked_by}
use Rattle.steps.specs.declared.columns.Offset.{Offset}
use Rattle.steps.specs.declared.columns.Centre.{Centre}

-- ---- the columns

abbrev pub less1 : ℤ
less1 = negsuc 0

-- "the nine column offsets in this order: (0,0) (1,0) (0,1) (-1,0) (0,-1) (1,1) (-1,1) (-1,-1) (1,-1)", in x and z
abbrev pub offsets : List Offset
offsets =
    (pos 0, pos 0)
    ∷ (pos 1, pos 0) ∷ (pos 0, pos 1) ∷ (less1, pos 0) ∷ (pos 0, less1)
    ∷ (pos 1, pos 1) ∷ (less1, pos 1) ∷ (less1, less1) ∷ (pos 1, less1) ∷ []

unfoldable pub offset_at : ℕ → Offset
offset_at n = get_or offsets n (pos 0, pos 0)

-- "The column is the floor of x and z plus the offset, its centre 0.5 further."
unfoldable pub centre : Float → ℤ → Float
centre x d = add binary64 (of_int binary64 (floor_cell x +ℤ d)) half_one

unfoldable pub centre_of : Point → ℕ → Centre
centre_of from n = record { x = centre from.x (offset_at n).0; z = centre from.z (offset_at n).1 }

-- ---- the steps

-- "Low is the larger of y - max_drop and start y - range, high the smaller of y + max(step, jump) and start y + range."
unfoldable pub band_of : Request → Body → Point → Band
band_of r body from = record {
  low = larger (sub binary64 from.y r.max_drop) (sub binary64 r.start.y r.max_range);
  high = smaller (add binary64 from.y (larger (step_height r body) r.jump_height)) (add binary64 r.start.y r.max_range);
}

-- a height of a column
abbrev pub target : Centre → Float → Point
target c y = record { x = c.x; y = y; z = c.z }

abbrev pub ahead : Option Waypoint → List Waypoint → List Waypoint
ahead None ws = ws
ahead (Some w) ws = w ∷ ws

-- whether one of the edges does not climb
unfoldable pub level : Point → List Waypoint → Bool
level from [] = false
level from (w ∷ ws) = level_to from w.feet || level from ws

module _ (sp : Space) (r : Request) (body : Body) (from : Point) where
  -- "A step goes to any kept height with an edge."
  unfoldable pub edges_at : Centre → List Float → List Waypoint
  edges_at c [] = []
  edges_at c (y ∷ ys) = ahead (edge sp r body from (target c y)) (edges_at c ys)

  unfoldable pub column_steps : ℕ → List Waypoint
  column_steps n = let c = centre_of from n in edges_at c (heights sp (band_of r body from) c.x c.z)

  -- "The four side answers of one expansion say whether that side has an edge to a y at most this y + E; a closed side still answers."
  abbrev pub side : ℕ → Bool
  side k = level from (column_steps (k + 1))

  unfoldable pub sides : Sides
  sides = record { level = side 0 ∷ side 1 ∷ side 2 ∷ side 3 ∷ [] }

  unfoldable pub column_if : ℕ → List Waypoint
  column_if n = cond (looked_by sides n) (column_steps n) []

  -- "Graph step from a point": the nine columns in order, the heights of each upwards
  unfoldable pub steps_from : List Waypoint
  steps_from = gather column_if 0 9
