-- The code's way: a pass over all shapes carries how far the centre line is covered, and ends where a shape refuses. `PassLaws` proves that passes decide
-- `supported`. Definitions only.
use Rattle.std.specs.Prelude.{Bool, cond, Float, Option, Some, None}
use mathlib.Core.List.{List, foldl, map}
use Rattle.world.specs.declared.Point.{Point}
use Rattle.world.specs.declared.Aabb.{Aabb}
use Rattle.world.specs.Boxes.{moved}
use Rattle.support.specs.declared.Interval.{Interval}
use Rattle.support.specs.declared.Way.{Way}
use Rattle.support.specs.Cover.{reach_one}
use Rattle.support.specs.Support.{Shape, counts, interval}

abbrev pub reach_by : Float → Option Interval → Float
reach_by c None = c
reach_by c (Some i) = reach_one c i

-- what one more shape makes of a pass: how far it covers the line from 0 on, or none, which stays so, where a shape has refused it
unfoldable pub step : Way → Option Float → Shape → Option Float
step w None s = None
step w (Some c) s =
    cond (counts w.under s.box)
    (cond s.support (Some (reach_by c (interval s.box w.from w.to))) None)
    (Some c)

abbrev pub pass : Way → Option Float → List Shape → Option Float
pass w r ss = foldl (step w) r ss

-- boxes of a cell as shapes
abbrev pub shapes : Bool → List Aabb → List Shape
shapes support bs = map (λ (b : Aabb). record { support = support; box = b }) bs

-- the same, each moved by a point
abbrev pub run_shapes : Bool → Point → List Aabb → List Shape
run_shapes support by bs = shapes support (map (λ (b : Aabb). moved b by) bs)
