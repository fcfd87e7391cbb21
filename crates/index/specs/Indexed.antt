-- What an index of nodes is. Definitions only.
use Rattle.std.specs.Prelude.{◌≡◌, ℕ, suc, ◌<◌, ◌≤◌, List}
use Rattle.rooms.specs.Records.{node_at}
use Rattle.index.specs.Index.{home, slots, slot_at, next_slot}

-- whoever goes from slot s over at most f slots comes to node k, and before it only to nodes of smaller numbers: there is no free slot on the way
pub data Leads (x : List ℕ) (k : ℕ) : ℕ → ℕ → Type 0 where
  here : {s f : ℕ} → slot_at x s ≡ suc k → Leads x k s (suc f)
  on : {s f : ℕ} → 0 < slot_at x s → slot_at x s ≤ k → Leads x k (next_slot (slots x) s) f → Leads x k s (suc f)

-- The room x is an index of the first m nodes of a: no slot has another number than theirs, and from its point's own slot on each of them is found.
pub record Indexed (x a : List ℕ) (m : ℕ) : Type 0 where
  pub few : (s : ℕ) → slot_at x s ≤ m
  pub led : (k : ℕ) → k < m → Leads x k (home (slots x) (node_at a k).feet) (slots x)
