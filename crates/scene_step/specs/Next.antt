-- The state behind a record (01, "Scenes and walkprint"). The layout of the records is `scene_records`', their rules are `scene_rules`'.
use Rattle.std.specs.Prelude.{◌≡◌, ℕ, ◌+◌, ◌%◌, ◌^◌, ◌<◌, ◌≤◌, Bool, true, cond, List, ◌==◌}
use Rattle.fields.specs.Little.{float_field}
use Rattle.world.specs.declared.Request.{Request}
use Rattle.world.specs.declared.Body.{Body}
use Rattle.world.specs.declared.Window.{Window}
use Rattle.scene_records.specs.Layout.{kind_of, number_of, start_of, goal_of, range_of, body_of, window_of, cell_count}
use Rattle.scene_rules.specs.declared.Counts.{Counts}
use Rattle.scene_rules.specs.Rules.{room_in_shape, good}
use Rattle.scene_state.specs.declared.state.Reading.{Reading}
use Rattle.scene_state.specs.Answers.{Answer, given, refused}

-- ---- the state behind a good record of kind k

-- kind 1: "start, goal, max_range; n the budget"; kind 2: "step, jump, drop"
unfoldable pub request_after : ℕ → Request → List ℕ → Request
request_after k r s =
    cond (k == 1)
    (record {
      start = start_of s;
      goal = goal_of s;
      max_range = range_of s;
      node_budget = number_of s;
      step_height = r.step_height;
      jump_height = r.jump_height;
      max_drop = r.max_drop;
    })
    (cond (k == 2)
    (record {
      start = r.start;
      goal = r.goal;
      max_range = r.max_range;
      node_budget = r.node_budget;
      step_height = float_field s 8;
      jump_height = float_field s 16;
      max_drop = float_field s 24;
    })
    r)

-- kind 2: "width, height, body step"
unfoldable pub body_after : ℕ → Body → List ℕ → Body
body_after k b s = cond (k == 2) (body_of s) b

-- kind 3: "window origin, sizes"
unfoldable pub window_after : ℕ → Window → List ℕ → Window
window_after k w s = cond (k == 3) (window_of s) w

-- kind 4: the boxes of shape n with one more: n is the last shape, or a new one
unfoldable pub count_after : Counts → ℕ → ℕ
count_after c n = cond (n + 1 == c.shapes) (c.last + 1) 1

unfoldable pub with_box_counted : Counts → ℕ → Counts
with_box_counted c n = record { cells = c.cells; states = c.states; shapes = n + 1; boxes = c.boxes + 1; last = count_after c n }

unfoldable pub counts_after : ℕ → Counts → List ℕ → Counts
counts_after k c s =
    cond (k == 3) (record { cells = cell_count (window_of s); states = c.states; shapes = c.shapes; boxes = c.boxes; last = c.last })
    (cond (k == 4) (with_box_counted c (number_of s))
    (cond (k == 5) (record { cells = c.cells; states = number_of s + 1; shapes = c.shapes; boxes = c.boxes; last = c.last }) c))

-- the number of the record behind this one; past the last u64 it begins again
abbrev pub next_number : ℕ → ℕ
next_number n = (n + 1) % 2 ^ 64

unfoldable pub next : ℕ → Reading → List ℕ → Reading
next k r s = record {
  number = next_number r.number;
  kind = k;
  request = request_after k r.request s;
  body = body_after k r.body s;
  window = window_after k r.window s;
  counts = counts_after k r.counts s;
}

-- ---- one record, good or bad: 7 BadScene, "first bad record, counted from 0"

abbrev pub good_in : Reading → List ℕ → Bool
good_in r s = good r.kind r.counts s

unfoldable pub step : Reading → List ℕ → Answer Reading
step r s = cond (good_in r s) (given (next (kind_of s) r s)) (refused 7 r.number)

-- ---- for the code's parts: what a good record allows to be counted

pub record ShapeFits (c : Counts) (n : ℕ) : Type 0 where
  pub small : n ≤ 255
  pub boxes : c.boxes < 256
  pub room : room_in_shape c n ≡ true

pub record Allowed (k : ℕ) (c : Counts) (s : List ℕ) : Type 0 where
  pub shape : k ≡ 4 → ShapeFits c (number_of s)
  pub state : k ≡ 5 → number_of s ≤ 255
