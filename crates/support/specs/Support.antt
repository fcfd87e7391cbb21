-- 01, The graph, "Supported segment". Definitions only.
use Rattle.std.specs.Prelude.{Bool, true, ◌&&◌, ◌||◌, cond, List, [], ◌∷◌, ◌++◌, map, pos, ◌-ℤ◌, Float, Option, Some, None}
use Rattle.std.specs.Float.{binary64}
use Rattle.std.specs.Float.Ieee.{lt, le, eq, add, sub, mul, div, of_bits}
use Rattle.floats.specs.Floats.{E, nought, smaller, larger}
use Rattle.cells.specs.Cells.{floor_cell, ceil_cell}
use Rattle.regions.specs.Ranges.{range}
use Rattle.regions.specs.Regions.{cells_of}
use Rattle.regions.specs.declared.Region.{Region}
use Rattle.regions.specs.declared.Spot.{Spot}
use Rattle.world.specs.declared.Point.{Point}
use Rattle.world.specs.declared.Aabb.{Aabb}
use Rattle.world.specs.Boxes.{one, span}
use Rattle.world.specs.Space.{Space, Block}
use Rattle.support.specs.declared.Interval.{Interval}
use Rattle.support.specs.Cover.{covers}

-- 0.5
abbrev pub half_one : Float
half_one = of_bits binary64 0x3fe0_0000_0000_0000

-- "the footprint is both feet's span widened by half the width": as a box, whose least and greatest y are the feet's, not widened
unfoldable pub footprint : Float → Point → Point → Aabb
footprint width from to =
    let half = mul binary64 width half_one in
    let feet = span from to in
    record {
      min = record { x = sub binary64 feet.min.x half; y = feet.min.y; z = sub binary64 feet.min.z half };
      max = record { x = add binary64 feet.max.x half; y = feet.max.y; z = add binary64 feet.max.z half };
    }

-- a box of a cell, and whether the cell has bit 2
pub record Shape : Type 0 where
  pub support : Bool
  pub box : Aabb

unfoldable pub shapes_of : Block → List Shape
shapes_of b = map (λ (x : Aabb). record { support = b.support; box = x }) b.boxes

-- the shapes of some cells, one after the other
unfoldable pub shapes_at : Space → List Spot → List Shape
shapes_at sp [] = []
shapes_at sp (p ∷ ps) = shapes_of (sp p.x p.y p.z) ++ shapes_at sp ps

-- "cells run from floor(low y) - 2 to floor(high y), in x and z from its floor(min) to ceil(max) - 1"
unfoldable pub beneath : Aabb → Region
beneath f = record {
  ys = range (floor_cell f.min.y -ℤ pos 2) (floor_cell f.max.y);
  xs = range (floor_cell f.min.x) (ceil_cell f.max.x -ℤ pos 1);
  zs = range (floor_cell f.min.z) (ceil_cell f.max.z -ℤ pos 1);
}

unfoldable pub shapes_under : Space → Aabb → List Shape
shapes_under sp f = shapes_at sp (cells_of (beneath f))

-- "A shape counts if its top is within E of the span and it overlaps the footprint strictly in x and z."
unfoldable pub counts : Aabb → Aabb → Bool
counts f b =
    le (sub binary64 f.min.y E) b.max.y && le b.max.y (add binary64 f.max.y E)
    && lt b.min.x f.max.x && lt f.min.x b.max.x
    && lt b.min.z f.max.z && lt f.min.z b.max.z

-- the part of the centre line above a box, along one axis: of a line that does not move there all or nothing, borders included
unfoldable pub narrowed : Float → Float → Float → Float → Interval → Option Interval
narrowed start delta least greatest i =
    cond (eq delta nought)
    (cond (lt start least || lt greatest start) None (Some i))
    (let a = div binary64 (sub binary64 least start) delta in
    let b = div binary64 (sub binary64 greatest start) delta in
    Some (record { begin = larger i.begin (smaller a b); end = smaller i.end (larger a b) }))

abbrev pub and_then : {A B : Type 0} → Option A → (A → Option B) → Option B
and_then None f = None
and_then (Some a) f = f a

-- in x, then in z; an interval that begins behind its end is none
unfoldable pub interval : Aabb → Point → Point → Option Interval
interval b from to =
    and_then (narrowed from.x (sub binary64 to.x from.x) b.min.x b.max.x (record { begin = nought; end = one })) (λ i.
    and_then (narrowed from.z (sub binary64 to.z from.z) b.min.z b.max.z i) (λ j.
    cond (le j.begin j.end) (Some j) None))

-- the shapes that count, their intervals, and whether each of them has bit 2
unfoldable pub counting : Aabb → List Shape → List Shape
counting f [] = []
counting f (s ∷ ss) = cond (counts f s.box) (s ∷ counting f ss) (counting f ss)

abbrev pub ahead : Option Interval → List Interval → List Interval
ahead None is = is
ahead (Some i) is = i ∷ is

unfoldable pub intervals : Point → Point → List Shape → List Interval
intervals from to [] = []
intervals from to (s ∷ ss) = ahead (interval s.box from to) (intervals from to ss)

-- "One that counts and lacks bit 2 refuses the segment."
unfoldable pub all_support : List Shape → Bool
all_support [] = true
all_support (s ∷ ss) = s.support && all_support ss

-- the shapes under a footprint carry a body from one foot to the other
unfoldable pub carried : Aabb → Point → Point → List Shape → Bool
carried f from to ss = all_support (counting f ss) && covers (intervals from to (counting f ss))

-- 01, The graph, "Supported segment": no shape that counts lacks bit 2, and the intervals cover the centre line (`covers` is true exactly where `Covers`, 01's
-- sentence, holds: `covers_sound` and `covers_complete` of `Laws`)
unfoldable pub supported : Space → Float → Point → Point → Bool
supported sp width from to =
    let f = footprint width from to in
    carried f from to (shapes_under sp f)
