-- What a good record says, taken apart: what it allows to be counted, so that no sum of the reader wraps, and what it keeps of the tables' rules.
use Rattle.std.specs.Prelude.{◌≡◌, ℕ, ◌+◌, ◌≤◌, Bool, true, false, cond, not, ◌&&◌, leb, List, length, drop, ◌==◌, nat_le, nat_lt}
use Rattle.std.proofs.Common.{arith}
use Rattle.std.proofs.Math.Path.{refl}
use borrow.Author.Tests.{leb-true, ltb-true, ltb-false, eqb-true, not-true}
use Rattle.world.specs.Sizes.{size_above}
use Rattle.tables.specs.BadWorld.{box_rule}
use Rattle.world.specs.declared.Request.{Request}
use Rattle.world.specs.declared.Body.{Body}
use Rattle.world.specs.declared.Window.{Window}
use Rattle.scene_rules.specs.declared.Counts.{Counts}
use Rattle.scene_records.specs.Layout.{by_kind, kind_of, number_of, three_zeros, zeros, unused_from, window_of, cell_count, box_of, permission_of}
use Rattle.scene_rules.specs.Rules.{in_order, room_in_shape, shape_rule, state_rule, window_rule, rule, good}
use Rattle.scene_state.specs.declared.state.Reading.{Reading}
use Rattle.scene_state.specs.Answers.{given, refused}
use Rattle.scene_step.specs.Next.{request_after, body_after, window_after, count_after, with_box_counted, counts_after, next_number, next, good_in, step, ShapeFits, Allowed}

-- both of two tests pass
pub left_true : (a b : Bool) → a && b ≡ true → a ≡ true
left_true true b e = refl
left_true false b e = e

pub right_true : (a b : Bool) → a && b ≡ true → b ≡ true
right_true true b e = e
right_true false b e = absurd (let y : ◌≡◌ {A = ℕ} 0 1 = cc in omega arith)

module _ (last : ℕ) (c : Counts) (s : List ℕ) (g : good last c s ≡ true) where
  pub ruled : rule (kind_of s) c s ≡ true
  unfolding good
  ruled = right_true (length s == 64 && in_order last (kind_of s) && three_zeros s && zeros (drop (unused_from (kind_of s)) s)) (rule (kind_of s) c s) g

  -- what kind 4 says
  module _ (k : kind_of s ≡ 4) where
    by_shape : shape_rule c s ≡ true
    unfolding rule by_kind
    by_shape = rw k at ruled

    all_but_box : leb (number_of s) 255 && nat_le c.shapes (number_of s + 1) && room_in_shape c (number_of s) && nat_lt c.boxes 256 ≡ true
    unfolding shape_rule
    all_but_box = left_true (nat_le (number_of s) 255 && nat_le c.shapes (number_of s + 1) && room_in_shape c (number_of s) && nat_lt c.boxes 256) (box_rule (box_of s)) by_shape

    first_three : leb (number_of s) 255 && nat_le c.shapes (number_of s + 1) && room_in_shape c (number_of s) ≡ true
    first_three = left_true (nat_le (number_of s) 255 && nat_le c.shapes (number_of s + 1) && room_in_shape c (number_of s)) (nat_lt c.boxes 256) all_but_box

    first_two : leb (number_of s) 255 && nat_le c.shapes (number_of s + 1) ≡ true
    first_two = left_true (nat_le (number_of s) 255 && nat_le c.shapes (number_of s + 1)) (room_in_shape c (number_of s)) first_three

    pub not_falling : c.shapes ≤ number_of s + 1
    not_falling = leb-true c.shapes (number_of s + 1) (right_true (nat_le (number_of s) 255) (nat_le c.shapes (number_of s + 1)) first_two)

    pub by_box_rule : box_rule (box_of s) ≡ true
    unfolding shape_rule
    by_box_rule = right_true (nat_le (number_of s) 255 && nat_le c.shapes (number_of s + 1) && room_in_shape c (number_of s) && nat_lt c.boxes 256) (box_rule (box_of s)) by_shape

    shaped : ShapeFits c (number_of s)
    shaped = record {
      small = leb-true (number_of s) 255 (left_true (nat_le (number_of s) 255) (nat_le c.shapes (number_of s + 1)) first_two);
      boxes = ltb-true c.boxes 256 (right_true (nat_le (number_of s) 255 && nat_le c.shapes (number_of s + 1) && room_in_shape c (number_of s)) (nat_lt c.boxes 256) all_but_box);
      room = right_true (nat_le (number_of s) 255 && nat_le c.shapes (number_of s + 1)) (room_in_shape c (number_of s)) first_three;
    }

  -- what kind 3 says
  module _ (k : kind_of s ≡ 3) where
    by_window : window_rule s ≡ true
    unfolding rule by_kind
    by_window = rw k at ruled

    pub no_size_above : size_above (window_of s) ≡ false
    unfolding window_rule
    no_size_above =
        not-true (size_above (window_of s))
        (right_true (number_of s == 0) (not (size_above (window_of s)))
        (left_true (number_of s == 0 && not (size_above (window_of s))) (nat_le (cell_count (window_of s)) 4096) by_window))

    pub few_cells : cell_count (window_of s) ≤ 4096
    unfolding window_rule
    few_cells = leb-true (cell_count (window_of s)) 4096 (right_true (number_of s == 0 && not (size_above (window_of s))) (nat_le (cell_count (window_of s)) 4096) by_window)

  -- a kind behind 3 comes behind a kind from 3 on
  pub behind_three : 4 ≤ kind_of s → 3 ≤ last
  unfolding good in_order
  behind_three h = go (nat_lt last 3) refl
      (right_true (length s == 64) (in_order last (kind_of s))
      (left_true (length s == 64 && in_order last (kind_of s)) (three_zeros s)
      (left_true (length s == 64 && in_order last (kind_of s) && three_zeros s) (zeros (drop (unused_from (kind_of s)) s))
      (left_true (length s == 64 && in_order last (kind_of s) && three_zeros s && zeros (drop (unused_from (kind_of s)) s)) (rule (kind_of s) c s) g))))
    where
      go : (x : Bool) → nat_lt last 3 ≡ x → cond x (kind_of s == last + 1) (nat_le 4 (kind_of s) && nat_le last (kind_of s) && nat_le (kind_of s) 6) ≡ true → 3 ≤ last
      go true p e = absurd (omega (arith, ltb-true last 3 p, eqb-true (kind_of s) (last + 1) e))
      go false p e = ltb-false last 3 p

  stated : kind_of s ≡ 5 → number_of s ≤ 255
  unfolding rule by_kind state_rule
  stated k =
      let all : state_rule c s ≡ true = rw k at ruled in
      let second = left_true (number_of s == c.states && nat_le (number_of s) 255) (nat_le (permission_of s) 7) all in
      leb-true (number_of s) 255 (right_true (number_of s == c.states) (nat_le (number_of s) 255) second)

  pub allowed : Allowed (kind_of s) c s
  allowed = record { shape = shaped; state = stated }

-- ---- what an answer tells of the record

module _ (r : Reading) (s : List ℕ) where
  -- one that is taken in is good, and leads to the next state
  pub took : (r' : Reading) → given r' ≡ step r s → (b : Bool) → good_in r s ≡ b → (good_in r s ≡ true) × (r' ≡ next (kind_of s) r s)
  unfolding step
  took r' e true g = (g, cc (rw g at e))
  took r' e false g = absurd (let z : ◌≡◌ {A = ℕ} 0 1 = cc (rw g at e) in omega arith)

  -- one that is not is bad
  pub left : (n m : ℕ) → refused n m ≡ step r s → (b : Bool) → good_in r s ≡ b → good_in r s ≡ false
  unfolding step
  left n m e true g = absurd (let z : ◌≡◌ {A = ℕ} 0 1 = cc (rw g at e) in omega arith)
  left n m e false g = g

-- the state behind a record by its parts
pub parts : (k : ℕ) (r : Reading) (s : List ℕ) {n : ℕ} {q : Request} {b : Body} {w : Window} {c : Counts} →
    n ≡ next_number r.number → q ≡ request_after k r.request s → b ≡ body_after k r.body s → w ≡ window_after k r.window s → c ≡ counts_after k r.counts s →
    ◌≡◌ {A = Reading} (record { number = n; kind = k; request = q; body = b; window = w; counts = c }) (next k r s)
unfolding next
parts k r s en eq eb ew ec = rw (en, eq, eb, ew, ec)

-- behind kind 3 the cells are the window's
pub cells_counted : (k : ℕ) (r : Reading) (s : List ℕ) → k ≡ 3 → (next k r s).counts.cells ≡ cell_count (window_of s)
unfolding next counts_after
cells_counted k r s e = rw e

-- behind kind 4 the last shape has the boxes that are counted for it
pub last_counted : (k : ℕ) (r : Reading) (s : List ℕ) → k ≡ 4 → (next k r s).counts.last ≡ count_after r.counts (number_of s)
unfolding next counts_after with_box_counted
last_counted k r s e = rw e
