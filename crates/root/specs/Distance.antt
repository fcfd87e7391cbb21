-- The square root of IEEE 754, which answers every number, and the distance that is made with it. Document 01: "distance is the root of x² + y² + z² summed left to right".
-- Definitions only; `Laws` shows that it is the root of `Root` (`square_root_right`).
use Rattle.std.specs.Prelude.{true, false, Float}
use Rattle.std.specs.Float.{nan, inf, fin, binary64}
use Rattle.std.specs.Float.Ieee.{add, mul}
use Rattle.root.specs.Root.{Given, value, refusal}
use Rattle.root.specs.Method.{answer}

-- The value, and NaN for a refusal.
abbrev pub or_nan : Given → Float
or_nan (value r) = r
or_nan (refusal n) = nan

-- IEEE 754: the root where `root` has one; the infinity of the infinity; NaN of all else, that is of NaN and of what is below 0.
unfoldable pub square_root : Float → Float
square_root nan = nan
square_root (inf false) = inf false
square_root (inf true) = nan
square_root (fin s m e) = or_nan (answer (fin s m e))

-- How far apart two points are whose coordinates differ by x, y and z. Each of the six operations rounds once. It is NaN where a difference is NaN, and else the infinity where one is infinite or the sum too large.
unfoldable pub distance : Float → Float → Float → Float
distance x y z = square_root (add binary64 (add binary64 (mul binary64 x x) (mul binary64 y y)) (mul binary64 z z))
