-- A whole scene in one list of bytes (01, "Scenes and walkprint"). What each record says and makes is `scene`'s. Definitions only.
use Rattle.std.specs.Prelude.{ℕ, zero, suc, ◌+◌, ◌*◌, ◌/◌, List, [], ◌∷◌, length, take, drop}
use Rattle.scene.specs.Scene.{Read, read_all}
use Rattle.scene.specs.Progress.{tables_of}

-- "Scene records are 64 bytes, no header": how many so many bytes are, a last partial one counted
abbrev pub record_count : ℕ → ℕ
record_count n = (n + 63) / 64

-- record k: 64 bytes, or as many as are left, for "A missing or partial record is bad at its own number"
unfoldable pub record_at : List ℕ → ℕ → List ℕ
record_at s k = take 64 (drop (64 * k) s)

-- n records from record k on, and all of them
unfoldable pub records_from : List ℕ → ℕ → ℕ → List (List ℕ)
records_from s k zero = []
records_from s k (suc n) = record_at s k ∷ records_from s (k + 1) n

unfoldable pub records : List ℕ → List (List ℕ)
records s = records_from s 0 (record_count (length s))

-- what reading these bytes into these tables answers, and what it leaves in them: "after 7 the scene's tables hold what the records before it made, else old
-- bytes"
abbrev pub read : List ℕ → List ℕ → List ℕ → List ℕ → List ℕ → Read
read bytes cells perms shapes boxes = read_all (tables_of cells perms shapes boxes) (records bytes)
