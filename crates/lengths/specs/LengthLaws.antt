-- The length, as the code works it out: an edge from its three parts, and a list by a loop over its records.
use Rattle.std.specs.Prelude.{ℕ, zero, suc, ◌+◌, ◌-◌, ◌*◌, ◌/◌, ◌<◌, ◌≤◌, ◌≡◌, refl, List, length, Float}
use Rattle.std.proofs.Common.{arith, add-one}
use Rattle.std.specs.Float.{binary64}
use Rattle.std.specs.Float.Ieee.{add}
use Rattle.floats.specs.Floats.{nought}
use Rattle.lengths.specs.declared.Stop.{Stop}
use Rattle.lengths.specs.Length.{crossing_length, settle_length, edge_length, sum_onward, sum_through, stop_at, stops_from, length_of}

-- an edge added to a sum, from its way across and its settling
pub edge_added : (total : Float) (from to : Stop) (a s : Float) → a ≡ crossing_length from.feet to.feet → s ≡ settle_length from.feet to.feet to.lift →
    add binary64 total (add binary64 (add binary64 to.lift a) s) ≡ add binary64 total (edge_length from to)
unfolding edge_length
edge_added total from to a s e f = rw (e, f)

-- at the first record, whether there is one or not
pub sum_begins : (list : List ℕ) → length_of list ≡ sum_onward edge_length nought (stop_at list 0) (stops_from list 1 (length list / 48 - 1))
unfolding length_of
sum_begins list = go (length list / 48)
  where
    go : (n : ℕ) → sum_through edge_length (stops_from list 0 n) ≡ sum_onward edge_length nought (stop_at list 0) (stops_from list 1 (n - 1))
    go zero = refl
    go (suc n) = let e : suc n - 1 ≡ n = omega arith in rw e

-- one record further
pub sum_goes_on : (list : List ℕ) (n k : ℕ) (total : Float) (p : Stop) → k < n →
    sum_onward edge_length total p (stops_from list k (n - k))
    ≡ sum_onward edge_length (add binary64 total (edge_length p (stop_at list (48 * k)))) (stop_at list (48 * k)) (stops_from list (k + 1) (n - (k + 1)))
sum_goes_on list n k total p h =
    let e : n - k ≡ suc (n - (k + 1)) = omega arith in rw (e, add-one k)

-- and behind the last one
pub sum_ends : (list : List ℕ) (n k : ℕ) (total : Float) (p : Stop) → n ≤ k → sum_onward edge_length total p (stops_from list k (n - k)) ≡ total
sum_ends list n k total p h = let e : n - k ≡ 0 = omega arith in rw e
