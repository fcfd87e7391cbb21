-- When a scene record is good (01, "Scenes and walkprint").
use Rattle.std.specs.Prelude.{ℕ, ◌+◌, Bool, true, not, ◌&&◌, cond, List, ltb, leb, eqb, length, drop}
use Rattle.world.specs.Sizes.{size_above}
use Rattle.tables.specs.BadWorld.{box_rule}
use Rattle.scene_rules.specs.declared.Counts.{Counts}
use Rattle.scene_records.specs.Layout.{kind_of, three_zeros, number_of, by_kind, unused_from, zeros, window_of, cell_count, box_of, permission_of}

-- "In order: one kind 1 .., one 2 .., one 3 .., then 4 .., 5 .., 6": after a record of the last kind, of which 0 is none
unfoldable pub in_order : ℕ → ℕ → Bool
in_order last k = cond (ltb last 3) (eqb k (last + 1)) (leb 4 k && leb last k && leb k 6)

-- kind 3: "n is 0", "sizes each at most 256; at most 4,096 cells"
unfoldable pub window_rule : List ℕ → Bool
window_rule s = eqb (number_of s) 0 && not (size_above (window_of s)) && leb (cell_count (window_of s)) 4096

-- kind 4: "n the shape, not falling, at most 255", "At most 256 boxes, 16 a shape, each by the box rule"
abbrev pub room_in_shape : Counts → ℕ → Bool
room_in_shape c n = cond (eqb (n + 1) c.shapes) (ltb c.last 16) true

unfoldable pub shape_rule : Counts → List ℕ → Bool
shape_rule c s =
    leb (number_of s) 255 && leb c.shapes (number_of s + 1) && room_in_shape c (number_of s) && ltb c.boxes 256 && box_rule (box_of s)

-- kind 5: "n the state, counting from 0 to at most 255; permission byte at most 7"
unfoldable pub state_rule : Counts → List ℕ → Bool
state_rule c s = eqb (number_of s) c.states && leb (number_of s) 255 && leb (permission_of s) 7

-- kind 1: "n the budget, at most 512"; "In kinds 2, 3 and 6 n is 0"
unfoldable pub rule : ℕ → Counts → List ℕ → Bool
rule k c s =
    by_kind k (leb (number_of s) 512) (eqb (number_of s) 0) (window_rule s) (shape_rule c s) (state_rule c s) (eqb (number_of s) 0)

-- a whole record, in order, its zeros zero, by its kind's rule
unfoldable pub good : ℕ → Counts → List ℕ → Bool
good last c s =
    eqb (length s) 64 && in_order last (kind_of s) && three_zeros s && zeros (drop (unused_from (kind_of s)) s) && rule (kind_of s) c s
