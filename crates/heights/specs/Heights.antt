-- 01, Graph step: the heights of a column that a step may go to. Definitions only.
use Rattle.std.specs.Prelude.{Option, Some, None, Bool, ◌&&◌, ◌||◌, cond, List, [], ◌∷◌, pos, ◌-ℤ◌, Float}
use Rattle.std.specs.Float.{binary64}
use Rattle.std.specs.Float.Ieee.{le, add, sub}
use Rattle.floats.specs.Floats.{E}
use Rattle.cells.specs.Cells.{floor_cell}
use Rattle.regions.specs.Ranges.{along}
use Rattle.world.specs.declared.Aabb.{Aabb}
use Rattle.world.specs.Space.{Space, Block}
use Rattle.heights.specs.declared.Band.{Band}

-- "box tops from low to high, E allowed, .. whose box spans the centre, borders included"
unfoldable pub reaches : Band → Float → Float → Aabb → Bool
reaches band x z b =
    le b.min.x x && le x b.max.x && le b.min.z z && le z b.max.z
    && le (sub binary64 band.low E) b.max.y && le b.max.y (add binary64 band.high E)

unfoldable pub tops_of : Band → Float → Float → List Aabb → List Float
tops_of band x z [] = []
tops_of band x z (b ∷ bs) = cond (reaches band x z b) (b.max.y ∷ tops_of band x z bs) (tops_of band x z bs)

-- "of that column's cells with bit 2"
unfoldable pub tops_in : Band → Float → Float → Block → List Float
tops_in band x z b = cond b.support (tops_of band x z b.boxes) []

-- "from floor(low) - 2 to floor(high)"; the centre (x, z) lies in the column's own cells
unfoldable pub tops : Space → Band → Float → Float → List Float
tops sp band x z =
    along (λ y. tops_in band x z (sp (floor_cell x) y (floor_cell z))) (floor_cell band.low -ℤ pos 2) (floor_cell band.high)

-- "sorted"
unfoldable pub insert : Float → List Float → List Float
insert t [] = t ∷ []
insert t (u ∷ us) = cond (le t u) (t ∷ (u ∷ us)) (u ∷ insert t us)

unfoldable pub sorted : List Float → List Float
sorted [] = []
sorted (t ∷ ts) = insert t (sorted ts)

-- "one within E of the last kept is dropped": of sorted ones none is below the last kept
unfoldable pub within : Float → Float → Bool
within kept t = le t kept || le (sub binary64 t kept) E

unfoldable pub thinned_after : Float → List Float → List Float
thinned_after kept [] = []
thinned_after kept (t ∷ ts) = cond (within kept t) (thinned_after kept ts) (t ∷ thinned_after t ts)

unfoldable pub thinned : List Float → List Float
thinned [] = []
thinned (t ∷ ts) = t ∷ thinned_after t ts

-- 01, Graph step: "Heights are box tops from low to high, E allowed, of that column's cells with bit 2 from floor(low) - 2 to floor(high) whose box spans
-- the centre, borders included; sorted; one within E of the last kept is dropped."
unfoldable pub heights : Space → Band → Float → Float → List Float
heights sp band x z = thinned (sorted (tops sp band x z))

-- ---- one after the other: those left once the last kept is given, and the first of them

unfoldable pub kept_after : Option Float → List Float → List Float
kept_after None ts = thinned ts
kept_after (Some kept) ts = thinned_after kept ts

abbrev pub first_of : List Float → Option Float
first_of [] = None
first_of (t ∷ ts) = Some t

-- the next of the heights after the last kept one, the first of all where none is kept yet
unfoldable pub next_after : Space → Band → Float → Float → Option Float → Option Float
next_after sp band x z after = first_of (kept_after after (sorted (tops sp band x z)))
