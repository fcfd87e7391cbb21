-- A top put in its place among the lowest of a room, turn by turn; and that so, of a column's tops in any order, the room has the lowest.
use Rattle.std.specs.Prelude.{Option, ℕ, zero, suc, ◌+◌, cond, ltb, get_or, drop}
use mathlib.Core.List.{List, ◌∷◌, ◌++◌}
use Rattle.std.proofs.Math.ListN.{length, take}
use Rattle.std.specs.Float.Ieee.{Float, lt}
use Rattle.std.specs.Float.{nan}
use Rattle.heights.specs.Lowest.{beyond}

-- ---- one top more

-- its place among the first k of a room, sought from behind: after the last that is not above it
abbrev pub place_of : Float → List Float → ℕ → ℕ
place_of t room zero = zero
place_of t room (suc k) = cond (lt t (get_or room k nan)) (place_of t room k) (suc k)

-- how many there are then, of n places
abbrev pub one_more : ℕ → ℕ → ℕ
one_more n k = cond (ltb k n) (k + 1) k

-- a list with t before its place p
abbrev pub put_before : ℕ → Float → List Float → List Float
put_before p t ts = take p ts ++ (t ∷ drop p ts)

-- a room whose first places are those of another list
abbrev pub with_front : ℕ → List Float → List Float → List Float
with_front k ts room = take k ts ++ drop k room

-- a room and how many of its places are filled, after one top
abbrev pub put : List Float × ℕ → Float → List Float × ℕ
put s t = (with_front (one_more (length s.0) s.1) (put_before (place_of t s.0 s.1) t s.0) s.0, one_more (length s.0) s.1)

-- where it is not within E of the last kept
abbrev pub taken : Option Float → List Float × ℕ → Float → List Float × ℕ
taken after s t = cond (beyond after t) (put s t) s
