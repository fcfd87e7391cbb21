-- The sum of the counts of shapes, and what 01 says of it: "a first box is the sum of the counts before it". Here no record of a scene is spoken of, only
-- tables.
use Rattle.std.specs.Prelude.{ℕ, zero, suc, ◌+◌, ◌<◌, ◌≡◌, List}
use Rattle.world.specs.Space.{first_of, count_of}
use Rattle.tables.specs.BadWorld.{records}

-- the sum of the counts of the shapes before shape i
unfoldable pub counts_before : List ℕ → ℕ → ℕ
counts_before shapes zero = 0
counts_before shapes (suc i) = counts_before shapes i + count_of shapes i

-- "a first box is the sum of the counts before it", for each shape of a table; and all counts together are all boxes, so each box is in a shape's run
pub record Summed (shapes boxes : List ℕ) : Type 0 where
  pub firsts : (i : ℕ) → i < records 8 shapes → first_of shapes i ≡ counts_before shapes i
  pub all : counts_before shapes (records 8 shapes) ≡ records 48 boxes
