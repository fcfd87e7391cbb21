-- What a record written means: it is read back, every other record is as it was, and so are the bytes past it. Definitions only: `writes` proves them.
use Rattle.std.specs.Prelude.{◌≡◌, List, ◌≢◌, ℕ, ◌+◌, ◌*◌, ◌≤◌, ◌<◌, length, drop}
use Rattle.rooms.specs.declared.NodeRecord.{NodeRecord}
use Rattle.rooms.specs.declared.Entry.{Entry}
use Rattle.rooms.specs.Records.{node_at, with_node, entry_at, with_entry}

pub record WroteNode (a : List ℕ) (k : ℕ) (r : NodeRecord) (b : List ℕ) : Type 0 where
  pub here : node_at b k ≡ r
  pub there : (j : ℕ) → j ≢ k → node_at b j ≡ node_at a j
  pub past : (m : ℕ) → k < m → drop (64 * m) b ≡ drop (64 * m) a

pub record WroteEntry (a : List ℕ) (k : ℕ) (e : Entry) (b : List ℕ) : Type 0 where
  pub here : entry_at b k ≡ e
  pub there : (j : ℕ) → j ≢ k → entry_at b j ≡ entry_at a j
  pub past : (m : ℕ) → k < m → drop (24 * m) b ≡ drop (24 * m) a

-- the room after a write, and what that means where the record is inside the room
pub record PutNode (a : List ℕ) (k : ℕ) (r : NodeRecord) (b : List ℕ) : Type 0 where
  pub is : b ≡ with_node a k r
  pub wrote : 64 * k + 64 ≤ length a → WroteNode a k r b

pub record PutEntry (a : List ℕ) (k : ℕ) (e : Entry) (b : List ℕ) : Type 0 where
  pub is : b ≡ with_entry a k e
  pub wrote : 24 * k + 24 ≤ length a → WroteEntry a k e b
