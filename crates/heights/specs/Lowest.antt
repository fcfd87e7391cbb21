-- The lowest of a column's tops beyond the last kept height, as many as a room has places for; and a batch of them, gone through one after the other.
-- Definitions only.
use Rattle.std.specs.Prelude.{Option, Some, None, ℕ, zero, suc, ◌+◌, ◌-◌, Bool, true, not, ◌&&◌, ◌||◌, cond, List, [], ◌∷◌, ◌++◌, ltb, length, get_or, take, drop, Float}
use Rattle.std.specs.Float.{nan}
use Rattle.heights.specs.declared.batches.Batch.{Batch}
use Rattle.heights.specs.Heights.{sorted, within}

-- not within E of the last kept
unfoldable pub beyond : Option Float → Float → Bool
beyond None t = true
beyond (Some kept) t = not (within kept t)

abbrev pub beyonds : Option Float → List Float → List Float
beyonds after [] = []
beyonds after (t ∷ ts) = cond (beyond after t) (t ∷ beyonds after ts) (beyonds after ts)

-- the lowest n of the tops that are not within E of the last kept, upwards
unfoldable pub lowest : ℕ → Option Float → List Float → List Float
lowest n after ts = take n (beyonds after (sorted ts))

-- a room, with some written over its first places
abbrev pub laid_over : List Float → List Float → List Float
laid_over ts room = ts ++ drop (length ts) room

-- ---- a batch: the room's first `count` places, of which those before `at` are gone

-- the place of the first from one on, so many looked at, that is not within E of the last kept
unfoldable pub first_from : Option Float → List Float → ℕ → ℕ → ℕ
first_from after room at zero = at
first_from after room at (suc left) = cond (beyond after (get_or room at nan)) at (first_from after room (at + 1) left)

-- no more than the room has
abbrev pub batch_count : List Float → Batch → ℕ
batch_count room b = cond (ltb b.count (length room)) b.count (length room)

abbrev pub place_in : Option Float → List Float → Batch → ℕ
place_in after room b = first_from after room b.at (batch_count room b - b.at)

-- the batch at the next height, filled again from the column's tops where it is used up and was full
unfoldable pub moved_on : List Float → Option Float → List Float → Batch → List Float × Batch
moved_on ts after room b =
    cond (ltb (place_in after room b) (batch_count room b) || ltb b.count (length room))
    (room, record { count = batch_count room b; at = place_in after room b })
    (laid_over (lowest (length room) after ts) room, record { count = length (lowest (length room) after ts); at = 0 })

-- the height that a batch is at
unfoldable pub height_at : List Float → Batch → Option Float
height_at room b = cond (ltb b.at b.count && ltb b.at (length room)) (Some (get_or room b.at nan)) None
