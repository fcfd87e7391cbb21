-- Where a record is read. Definitions only.
use Rattle.std.specs.Prelude.{◌≡◌, List, ℕ, ◌≤◌, length}
use Rattle.fields.specs.Records.{record_at}

-- where the record at an offset is read: inside the room or at its end, from where every record reads as from the offset
pub record Offset (a : List ℕ) (at r : ℕ) : Type 0 where
  pub within : r ≤ length a
  pub reads : (ws : List ℕ) → record_at ws a r ≡ record_at ws a at
