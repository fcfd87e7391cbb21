-- The layout of scene records (01, "Scenes and walkprint"): "Scene records are 64 bytes, no header: kind byte, three zeros, u32 n, payload; unused
-- bytes zero". What each kind's fields are and where they stand, for those who read scenes and those who write them.
use Rattle.std.specs.Prelude.{ℕ, ◌+◌, ◌*◌, Bool, ◌&&◌, cond, List, eqb, Float, get_or}
use Rattle.std.specs.List.{list_all}
use Rattle.fields.specs.Little.{field, signed_field, float_field}
use Rattle.world.specs.declared.Point.{Point}
use Rattle.world.specs.declared.Aabb.{Aabb}
use Rattle.world.specs.declared.Body.{Body}
use Rattle.world.specs.declared.Window.{Window}
use Rattle.world.specs.Space.{point_at, box_at}
use Rattle.world.specs.Sizes.{size_above}

-- ---- every kind

-- "kind byte"
abbrev pub kind_of : List ℕ → ℕ
kind_of s = get_or s 0 0

-- "three zeros"
unfoldable pub three_zeros : List ℕ → Bool
three_zeros s = eqb (get_or s 1 0) 0 && eqb (get_or s 2 0) 0 && eqb (get_or s 3 0) 0

-- "u32 n"
abbrev pub number_of : List ℕ → ℕ
number_of s = field 4 s 4

-- one of six by a kind's number: 1, 2, 3, 4, 5 and else
unfoldable pub by_kind : {A : Type 0} → ℕ → A → A → A → A → A → A → A
by_kind k a b c d e f = cond (eqb k 1) a (cond (eqb k 2) b (cond (eqb k 3) c (cond (eqb k 4) d (cond (eqb k 5) e f))))

-- where the bytes begin that a kind does not use
unfoldable pub unused_from : ℕ → ℕ
unused_from k = by_kind k 64 56 32 56 9 40

-- every byte is zero
unfoldable pub zeros : List ℕ → Bool
zeros = list_all (λ b. eqb b 0)

-- ---- a body and a window from an offset on, as these records have them and those that a C call is handed

-- width, height and step, three f64
unfoldable pub body_at : List ℕ → ℕ → Body
body_at s at = record { width = float_field s at; height = float_field s (at + 8); step_height = float_field s (at + 16) }

-- "Window: origin three i32, sizes three u32"
unfoldable pub window_at : List ℕ → ℕ → Window
window_at s at = record {
  x = signed_field s at;
  y = signed_field s (at + 4);
  z = signed_field s (at + 8);
  sx = field 4 s (at + 12);
  sy = field 4 s (at + 16);
  sz = field 4 s (at + 20);
}

-- ---- the payloads

-- kind 1: "start, goal, max_range; n the budget"
abbrev pub start_of : List ℕ → Point
start_of s = point_at s 8

abbrev pub goal_of : List ℕ → Point
goal_of s = point_at s 32

abbrev pub range_of : List ℕ → Float
range_of s = float_field s 56

-- kind 2: "step, jump, drop, width, height, body step"; the first three are the request's
abbrev pub body_of : List ℕ → Body
body_of s = body_at s 32

-- kind 3: "window origin, sizes"
abbrev pub window_of : List ℕ → Window
window_of s = window_at s 8

-- a window's cells; one with a size above 256, which no scene has, has none
abbrev pub volume : Window → ℕ
volume w = w.sx * w.sy * w.sz

unfoldable pub cell_count : Window → ℕ
cell_count w = cond (size_above w) 0 (volume w)

-- kind 4: "n the shape .. six box numbers"
unfoldable pub box_of : List ℕ → Aabb
box_of s = box_at s 8

-- kind 5: "n the state .. permission byte"
abbrev pub permission_of : List ℕ → ℕ
permission_of s = get_or s 8 0
