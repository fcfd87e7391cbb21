-- The parents of a search's nodes (02, No. 10), on the node room. Definitions only.
use Rattle.std.specs.Prelude.{ℕ, zero, suc, Bool, true, ◌&&◌, cond, List, eqb, leb, ltb}
use Rattle.rooms.specs.Records.{node_at}
use Rattle.rooms.specs.Rooms.{nobody}

-- whether each number below n passes a test
abbrev pub each_below : (ℕ → Bool) → ℕ → Bool
each_below p zero = true
each_below p (suc n) = each_below p n && p n

-- "each parent is retained and closed": node 0 has none (its chain ends there), and that of any other is one of the n nodes and has the closed word 1
unfoldable pub good_parent : List ℕ → ℕ → ℕ → Bool
good_parent a n k =
    cond (eqb k 0) (eqb (node_at a k).parent nobody)
    (ltb (node_at a k).parent n && eqb (node_at a (node_at a k).parent).closed 1)

-- one parent back; at node 0 the chain stays
unfoldable pub parent_back : List ℕ → ℕ → ℕ
parent_back a k = cond (eqb k 0) 0 (node_at a k).parent

-- so many parents back
abbrev pub parents_back : List ℕ → ℕ → ℕ → ℕ
parents_back a zero k = k
parents_back a (suc m) k = parents_back a m (parent_back a k)

-- "each parent chain ends at node 0": of n nodes a chain that ends passes each at most once (`chain_short`), so n parents back it has ended
unfoldable pub ends_at_start : List ℕ → ℕ → ℕ → Bool
ends_at_start a n k = eqb (parents_back a n k) 0

-- both, of n nodes; a search has at most 4,096
unfoldable pub good_chains : List ℕ → ℕ → Bool
good_chains a n = leb n 4096 && (each_below (good_parent a n) n && each_below (ends_at_start a n) n)
