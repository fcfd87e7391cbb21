-- What 01 asks of floats beside the operations of IEEE 754, which are lib.Ieee's. 0.0 is the float of the bit pattern 0.
use Rattle.std.specs.Prelude.{zero, suc, false, cond, pos, Float}
use Rattle.std.specs.Float.{nan, inf, fin, binary64}
use Rattle.std.specs.Float.Ieee.{of_bits, lt, neg}

-- 01, The graph: "E is 1.0e-7 as f64"
abbrev pub E : Float
E = of_bits binary64 0x3e7a_d7f2_9abc_af48

abbrev pub nought : Float
nought = of_bits binary64 0

-- "the smaller", "the larger": as Rust's `min` and `max` on all but NaN, up to the sign of a zero. Where the two are equal, or one is a NaN, it is the
-- second one; so the larger of a zero and 0.0 is 0.0.
unfoldable pub smaller : Float → Float → Float
smaller a b = cond (lt a b) a b

unfoldable pub larger : Float → Float → Float
larger a b = cond (lt b a) a b

-- "in size": as Rust's `abs`, up to the sign of a zero. A zero and NaN stay as they are.
unfoldable pub absolute : Float → Float
absolute x = cond (lt x nought) (neg x) x

-- "-0.0 as 0": the one zero that stands for both, and every other float itself
unfoldable pub canonical : Float → Float
canonical nan = nan
canonical (inf s) = inf s
canonical (fin s zero e) = fin false zero (pos zero)
canonical (fin s (suc m) e) = fin s (suc m) e
