-- What a search may be asked (01, "Numbers given back"): `valid_request`, and the limits of 4 TooLarge. Comparisons are of numbers: of a NaN none holds.
use Rattle.std.specs.Prelude.{ℕ, Bool, ◌&&◌, ◌||◌, ltb, pos, Float}
use Rattle.std.specs.Float.{binary64}
use Rattle.std.specs.Float.Ieee.{of_int, add, sub, lt, le}
use Rattle.std.specs.Float.Ieee.Scale.{finite}
use Rattle.floats.specs.Floats.{nought, absolute}
use Rattle.world.specs.declared.Point.{Point}
use Rattle.world.specs.declared.Body.{Body}
use Rattle.world.specs.declared.Request.{Request}

-- a whole number as f64
abbrev pub number : ℕ → Float
number n = of_int binary64 (pos n)

-- ---- "valid_request"

-- "all numbers finite"
unfoldable pub finite_point : Point → Bool
finite_point p = finite p.x && finite p.y && finite p.z

unfoldable pub all_finite : Request → Body → Bool
all_finite r body =
    finite_point r.start && finite_point r.goal
    && (finite r.max_range && finite r.step_height && finite r.jump_height && finite r.max_drop)
    && (finite body.width && finite body.height && finite body.step_height)

-- "width and height above 0"
unfoldable pub sized : Body → Bool
sized body = lt nought body.width && lt nought body.height

-- "range, both steps, jump and drop at least 0"
unfoldable pub not_negative : Request → Body → Bool
not_negative r body =
    le nought r.max_range && le nought r.step_height && le nought body.step_height
    && le nought r.jump_height && le nought r.max_drop

-- "2147483647 - (max_range + width + height + 4)", the sum from left to right
unfoldable pub limit : Request → Body → Float
limit r body =
    sub binary64 (number 2147483647)
    (add binary64 (add binary64 (add binary64 r.max_range body.width) body.height) (number 4))

-- "every .. coordinate smaller in size than" a number
unfoldable pub within : Float → Point → Bool
within most p = lt (absolute p.x) most && lt (absolute p.y) most && lt (absolute p.z) most

-- "every start and goal coordinate smaller in size than [the limit], itself above 0"
unfoldable pub placed : Request → Float → Bool
placed r most = lt nought most && within most r.start && within most r.goal

unfoldable pub valid_request : Request → Body → Bool
valid_request r body = all_finite r body && sized body && not_negative r body && placed r (limit r body)

-- ---- "4 TooLarge: max_range > 64, width > 8, height > 16 or node_budget > 4,096"

-- "4, the budget not read"
unfoldable pub sizes_too_large : Request → Body → Bool
sizes_too_large r body = lt (number 64) r.max_range || lt (number 8) body.width || lt (number 16) body.height

unfoldable pub too_large : Request → Body → Bool
too_large r body = sizes_too_large r body || ltb 4096 r.node_budget
