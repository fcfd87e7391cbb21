-- 01, Supported segment: "The centre-line intervals, borders included, must cover 0 to 1, each joint within E; 1 - E suffices." Definitions only.
use Rattle.std.specs.Prelude.{ℕ, zero, suc, ◌≡◌, Bool, true, cond, length, Float}
use mathlib.Core.List.{List, [], ◌∷◌, Memᴰ}
use Rattle.std.specs.Float.{binary64}
use Rattle.std.specs.Float.Ieee.{le, add, sub}
use Rattle.floats.specs.Floats.{E, nought, larger}
use Rattle.world.specs.Boxes.{one}
use Rattle.support.specs.declared.Interval.{Interval}

-- it joins what is covered from 0 to c: it begins at most E behind
unfoldable pub joins : Float → Interval → Bool
joins c i = le i.begin (add binary64 c E)

-- "1 - E suffices"
unfoldable pub enough : Float → Bool
enough c = le (sub binary64 one E) c

-- how far the intervals cover the line from 0 on: one after the other, each joint within E
pub data CoversTo (is : List Interval) : Float → Type 0 where
  nothing : CoversTo is nought
  joint : {c : Float} {i : Interval} → CoversTo is c → Memᴰ i is → joins c i ≡ true → CoversTo is (larger i.end c)

-- they "cover 0 to 1"
abbrev pub Covers : List Interval → Type 0
Covers is = (c : Float) × CoversTo is c × (enough c ≡ true)

-- ---- the same as a test: reach until nothing grows, which is after as many rounds as there are intervals at the latest

-- what one more interval makes of what is covered
unfoldable pub reach_one : Float → Interval → Float
reach_one c i = cond (joins c i) (larger i.end c) c

-- one round: each interval in turn
unfoldable pub round : Float → List Interval → Float
round c [] = c
round c (i ∷ is) = round (reach_one c i) is

unfoldable pub rounds : ℕ → Float → List Interval → Float
rounds zero c is = c
rounds (suc n) c is = rounds n (round c is) is

-- `Laws` proves: covers is ≡ true exactly where Covers is
unfoldable pub covers : List Interval → Bool
covers is = enough (rounds (length is) nought is)
