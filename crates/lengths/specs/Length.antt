-- The length of a list of waypoint records. Document 01, "Scenes and walkprint", has "the f64 sum, from 0.0 in list order, of straight distances between neighbours".
-- 02, No. 2 amends what is summed: "The guide lifts, crosses and settles; document 01 sums straight lines. The length of an edge becomes lift, plus the root of
-- dx² + dz², plus the size of to.y - (from.y + lift), added in that order, then added to the sum. This amends 01's length only, not the search's cost."
-- Each operation rounds once.
use Rattle.std.specs.Prelude.{ℕ, zero, suc, ◌+◌, ◌*◌, ◌/◌, List, [], ◌∷◌, length, Float}
use Rattle.std.specs.Float.{binary64}
use Rattle.std.specs.Float.Ieee.{add, sub, mul}
use Rattle.fields.specs.Little.{float_field}
use Rattle.floats.specs.Floats.{nought, absolute}
use Rattle.root.specs.Distance.{square_root}
use Rattle.world.specs.declared.Point.{Point}
use Rattle.world.specs.Space.{point_at}
use Rattle.lengths.specs.declared.Stop.{Stop}

-- ---- an edge

-- "the root of dx² + dz²": the way across
abbrev pub crossing_length : Point → Point → Float
crossing_length from to =
    let dx = sub binary64 to.x from.x in
    let dz = sub binary64 to.z from.z in square_root (add binary64 (mul binary64 dx dx) (mul binary64 dz dz))

-- "the size of to.y - (from.y + lift)": the way up or down from the raised height to the target
abbrev pub settle_length : Point → Point → Float → Float
settle_length from to lift = absolute (sub binary64 to.y (add binary64 from.y lift))

-- "lift, plus .., plus .., added in that order": of an edge from one stop to another, which has the lift of the later one
unfoldable pub edge_length : Stop → Stop → Float
edge_length from to = add binary64 (add binary64 to.lift (crossing_length from.feet to.feet)) (settle_length from.feet to.feet to.lift)

-- ---- a list

-- "then added to the sum", "in list order": a sum so far at a stop, and the edges through the stops that follow, each as long as `edge` says
abbrev pub sum_onward : (Stop → Stop → Float) → Float → Stop → List Stop → Float
sum_onward edge total p [] = total
sum_onward edge total p (q ∷ qs) = sum_onward edge (add binary64 total (edge p q)) q qs

-- "from 0.0"
abbrev pub sum_through : (Stop → Stop → Float) → List Stop → Float
sum_through edge [] = nought
sum_through edge (p ∷ ps) = sum_onward edge nought p ps

-- "Waypoint record .. bytes: feet x, y, z, lift, ..": of the record that begins at an offset its feet and its lift
unfoldable pub stop_at : List ℕ → ℕ → Stop
stop_at list at = record { feet = point_at list at; lift = float_field list (at + 24) }

-- the stops of n records from record k on, 48 bytes each by 02, No. 5
abbrev pub stops_from : List ℕ → ℕ → ℕ → List Stop
stops_from list k zero = []
stops_from list k (suc n) = stop_at list (48 * k) ∷ stops_from list (suc k) n

-- the length of the whole records of a list: a partial one at its end is not read
unfoldable pub length_of : List ℕ → Float
length_of list = sum_through edge_length (stops_from list 0 (length list / 48))
