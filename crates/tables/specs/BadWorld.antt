-- Bad worlds (01, "Numbers given back"): "3 BadWorld: a size above 256, cell table not 8 bytes a cell, shape or box table not whole records, count
-- above 16, first + count above the boxes, a box off its rule". Every record counts, used or not.
use Rattle.std.specs.Prelude.{ℕ, zero, suc, ◌+◌, ◌*◌, ◌/◌, ◌%◌, Bool, false, not, ◌&&◌, ◌||◌, List, ltb, eqb, length, Float}
use Rattle.std.specs.Float.{binary64}
use Rattle.std.specs.Float.Ieee.{of_bits, neg, le}
use Rattle.std.specs.Float.Ieee.Scale.{finite}
use Rattle.world.specs.declared.Point.{Point}
use Rattle.world.specs.declared.Aabb.{Aabb}
use Rattle.world.specs.declared.Window.{Window}
use Rattle.world.specs.Space.{first_of, count_of, box_at}
use Rattle.world.specs.Sizes.{size_above}

-- ---- the box rule: "finite, min ≤ max, each from -16 to 16"

-- 16.0
abbrev pub sixteen : Float
sixteen = of_bits binary64 0x4030_0000_0000_0000

-- "from -16 to 16"
unfoldable pub from_to : Float → Bool
from_to x = le (neg sixteen) x && le x sixteen

-- a test of each number of a point, and of a box
unfoldable pub each_of : (Float → Bool) → Point → Bool
each_of f p = f p.x && f p.y && f p.z

unfoldable pub each : (Float → Bool) → Aabb → Bool
each f b = each_of f b.min && each_of f b.max

-- "min ≤ max", as numbers: 0.0 and -0.0 are equal
unfoldable pub ordered : Aabb → Bool
ordered b = le b.min.x b.max.x && le b.min.y b.max.y && le b.min.z b.max.z

-- 01, Tables: "finite, min ≤ max, each from -16 to 16"
unfoldable pub box_rule : Aabb → Bool
box_rule b = each finite b && ordered b && each from_to b

-- ---- the tables

-- "8 bytes a cell"
abbrev pub cell_bytes : Window → ℕ
cell_bytes w = 8 * (w.sx * w.sy * w.sz)

-- "not whole records" of n bytes
abbrev pub not_whole : ℕ → List ℕ → Bool
not_whole n s = not (eqb (length s % n) 0)

-- how many whole records of n bytes a table has
abbrev pub records : ℕ → List ℕ → ℕ
records n s = length s / n

-- f is true of one of the numbers below n
unfoldable pub some : (ℕ → Bool) → ℕ → Bool
some f zero = false
some f (suc n) = some f n || f n

-- of shape record i, "count above 16"
abbrev pub count_above : List ℕ → ℕ → Bool
count_above shapes i = ltb 16 (count_of shapes i)

-- of shape record i, "first + count above the boxes", at count 0 too
abbrev pub run_past : List ℕ → ℕ → ℕ → Bool
run_past shapes boxes i = ltb boxes (first_of shapes i + count_of shapes i)

-- box record i is "off its rule"
abbrev pub off_rule : List ℕ → ℕ → Bool
off_rule boxes i = not (box_rule (box_at boxes (48 * i)))

-- 01, number 3 BadWorld: "a size above 256, cell table not 8 bytes a cell, shape or box table not whole records, count above 16, first + count above the boxes,
-- a box off its rule"
unfoldable pub bad_world : Window → List ℕ → List ℕ → List ℕ → Bool
bad_world w cells shapes boxes =
    size_above w || not (eqb (length cells) (cell_bytes w)) || not_whole 8 shapes || not_whole 48 boxes ||
    some (count_above shapes) (records 8 shapes) || some (run_past shapes (records 48 boxes)) (records 8 shapes) ||
    some (off_rule boxes) (records 48 boxes)

-- ---- for the code's parts

-- both of a shape's conditions at once: of its two numbers, and of record i
unfoldable pub bad_run : ℕ → ℕ → ℕ → Bool
bad_run boxes first count = ltb 16 count || ltb boxes (first + count)

abbrev pub bad_shape : List ℕ → ℕ → ℕ → Bool
bad_shape shapes boxes i = bad_run boxes (first_of shapes i) (count_of shapes i)
