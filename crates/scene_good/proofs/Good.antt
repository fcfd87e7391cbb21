-- A read scene's tables are never a BadWorld: what the records leave, at the sizes in use, is by every rule of `tables`; and the first box of each shape is the
-- sum of the counts before it. The records are bytes.
use Rattle.std.specs.Prelude.{ℕ, ◌+◌, ◌-◌, ◌*◌, ◌/◌, ◌^◌, ◌≤◌, ◌<◌, ◌≡◌, Bool, ◌&&◌, cond, ◌⊎◌, leb, ltb, length, take}
use native.Mathlib.Omega.{arith}
use Rattle.std.proofs.Math.Path.{refl}
use Rattle.std.proofs.Common.{sym, ap, ◌∙◌, inl, inr, ⊎_elim, length-take-le}
use Rattle.std.proofs.Math.Bool.{true, false}
use mathlib.Core.List.{List, [], ◌∷◌, foldl}
use borrow.Author.Tests.{leb-true, ltb-true, ltb-false, eqb-true, eqb-false}
use Rattle.std.proofs.Math.Dec.{eqb}
use Rattle.fields.specs.Little.{field, float_field}
use Rattle.fields.proofs.Laws.{length_with, read_back, read_other}
use Rattle.fields.proofs.Pieces.{Bytes, field_take}
use Rattle.regions.specs.declared.Spot.{Spot}
use Rattle.regions.specs.Regions.{cells_of}
use Rattle.world.specs.declared.Window.{Window}
use Rattle.world.specs.Space.{first_of, count_of, box_at}
use Rattle.world.specs.Sizes.{size_above, Sizes, sizes_of}
use Rattle.tables.specs.BadWorld.{box_rule, records, bad_world}
use Rattle.tables.specs.Good.{GoodWorld, good_is_not_bad}
use Rattle.scene_good.specs.Sums.{counts_before, Summed}
use Rattle.scene_good.specs.AllBytes.{AllBytes}
use Rattle.scene_good.proofs.SumLaws.{none_before, one_more, same_sum, empty_sum, run_within}
use Rattle.scene_rules.specs.declared.Counts.{Counts}
use Rattle.scene_records.specs.Layout.{kind_of, number_of, window_of, volume, cell_count, box_of}
use Rattle.scene_tables.specs.Made.{in_turn, with_entry, unfilled, empty_shapes, with_shape, with_box}
use Rattle.scene_fills.specs.Fills.{region_of, record_at, with_cell, filled}
use Rattle.scene_good.proofs.Turns.{entry_length, turn_length, run_first, run_second, out_first, out_second, box_length, box_number_lem, box_away}
use Rattle.scene_state.specs.declared.state.Reading.{Reading}
use Rattle.scene_state.specs.declared.state.Scene.{Scene}
use Rattle.scene_state.specs.State.{empty, in_use}
use Rattle.scene_step.specs.Next.{ShapeFits, window_after, count_after, with_box_counted, counts_after, next, good_in}
use Rattle.scene.specs.Scene.{cells_after, shapes_after, boxes_after, cells_read, perms_read, shapes_read, boxes_read, Tables, tables_read, Read, read_from, onward, read_all}
use Rattle.scene_state.specs.Answers.{given, refused, begun, ended}
use Rattle.scene_step.specs.Laws.{left_true, right_true, allowed, not_falling, by_box_rule, no_size_above, few_cells, behind_three}

-- ---- shapes: n of them, the last with so many boxes, of so many in all

pub record Shaped (n last boxes : ℕ) (t : List ℕ) : Type 0 where
  pub room : 2048 ≤ length t
  pub few : n ≤ 256
  pub counts : (i : ℕ) → i < n → count_of t i ≤ 16
  pub firsts : (i : ℕ) → i < n → first_of t i ≡ counts_before t i
  pub all : counts_before t n ≡ boxes
  pub own : (k : ℕ) → k + 1 ≡ n → count_of t k ≡ last

-- a shape table behind a record of kind 4: what each record of it is
module _ (from n first count : ℕ) (t : List ℕ) (room : 2048 ≤ length t) (small : n ≤ 255) (low : from ≤ n + 1) (f : first < 256 ^ 4) (c : count < 256 ^ 4) where
  empties : List ℕ
  empties = in_turn (with_entry first 0) from (n + 1 - from) t

  empties_length : length empties ≡ length t
  unfolding empties
  empties_length = turn_length (with_entry first 0) (entry_length first 0) (n + 1 - from) from t

  pub shape_length : length (with_shape from n first count t) ≡ length t
  unfolding with_shape empty_shapes empties
  shape_length = length_with 4 empties (8 * n + 4) count ∙ empties_length

  -- the count of shape n, and every other number
  own : count_of (with_shape from n first count t) n ≡ count
  unfolding with_shape empty_shapes empties
  own = read_back 4 empties (8 * n + 4) count (rw empties_length (omega arith)) c

  firsts_stay : (i : ℕ) → i ≤ n → first_of (with_shape from n first count t) i ≡ field 4 empties (8 * i)
  unfolding with_shape empty_shapes empties
  firsts_stay i h = read_other 4 4 empties (8 * n + 4) (8 * i) count (inl (omega arith))

  counts_stay : (i : ℕ) → i < n → count_of (with_shape from n first count t) i ≡ field 4 empties (8 * i + 4)
  unfolding with_shape empty_shapes empties
  counts_stay i h = read_other 4 4 empties (8 * n + 4) (8 * i + 4) count (inl (omega arith))

  pub own_count : count_of (with_shape from n first count t) n ≡ count
  own_count = own

  pub old_first : (i : ℕ) → i < from → first_of (with_shape from n first count t) i ≡ first_of t i
  unfolding empties
  old_first i h = firsts_stay i (omega arith) ∙ out_first first 0 (n + 1 - from) from i t h

  pub old_count : (i : ℕ) → i < from → i < n → count_of (with_shape from n first count t) i ≡ count_of t i
  unfolding empties
  old_count i h l = counts_stay i l ∙ out_second first 0 (n + 1 - from) from i t h

  pub new_first : (i : ℕ) → from ≤ i → i ≤ n → first_of (with_shape from n first count t) i ≡ first
  unfolding empties
  new_first i h l = firsts_stay i l ∙ run_first first 0 (n + 1 - from) from i t f h (omega arith) (omega arith)

  pub new_count : (i : ℕ) → from ≤ i → i < n → count_of (with_shape from n first count t) i ≡ 0
  unfolding empties
  new_count i h l = counts_stay i l ∙ run_second first 0 (n + 1 - from) from i t (omega arith) h (omega arith) (omega arith)

-- one box more, of shape n: the last one, or a new one
module _ (from n boxes : ℕ) (last : ℕ) (t : List ℕ) (h : Shaped from last boxes t) (low : from ≤ n + 1) (small : n ≤ 255) (room : boxes < 256) where
  module _ (count : ℕ) (big : count ≤ 16) (named : ((n + 1 ≡ from) × (count ≡ last + 1)) ⊎ ((from ≤ n) × (count ≡ 1))) where
    after : List ℕ
    after = with_shape from n boxes count t

    boxes_fit : boxes < 256 ^ 4
    boxes_fit = omega arith

    count_fit : count < 256 ^ 4
    count_fit = omega arith

    here : count_of after n ≡ count
    unfolding after
    here = own_count from n boxes count t h.room small low boxes_fit count_fit

    first_kept : (i : ℕ) → i < from → first_of after i ≡ first_of t i
    unfolding after
    first_kept = old_first from n boxes count t h.room small low boxes_fit count_fit

    count_kept : (i : ℕ) → i < from → i < n → count_of after i ≡ count_of t i
    unfolding after
    count_kept = old_count from n boxes count t h.room small low boxes_fit count_fit

    first_new : (i : ℕ) → from ≤ i → i ≤ n → first_of after i ≡ boxes
    unfolding after
    first_new = new_first from n boxes count t h.room small low boxes_fit count_fit

    count_new : (i : ℕ) → from ≤ i → i < n → count_of after i ≡ 0
    unfolding after
    count_new = new_count from n boxes count t h.room small low boxes_fit count_fit

    -- the sums: as they were up to the last shape, and all boxes so far behind it
    sum_kept : (i : ℕ) → i ≤ from → i ≤ n → counts_before after i ≡ counts_before t i
    sum_kept i l m = same_sum after t i (λ j k. count_kept j (omega arith) (omega arith))

    sum_new : (i : ℕ) → from ≤ i → i ≤ n → counts_before after i ≡ boxes
    sum_new i l m =
        let e : from + (i - from) ≡ i = omega arith in
        ap (counts_before after) (sym e) ∙ empty_sum after from (i - from) (λ j x y. count_new j x (omega arith)) ∙ sum_kept from (omega arith) (omega arith) ∙ h.all

    firsts : (i : ℕ) → i < n + 1 → first_of after i ≡ counts_before after i
    firsts i l = go (ltb i from) refl
      where
        go : (x : Bool) → ltb i from ≡ x → first_of after i ≡ counts_before after i
        go true p = let a = ltb-true i from p in first_kept i a ∙ h.firsts i a ∙ sym (sum_kept i (omega arith) (omega arith))
        go false p = let a = ltb-false i from p in first_new i a (omega arith) ∙ sym (sum_new i a (omega arith))

    all : counts_before after (n + 1) ≡ boxes + 1
    all = ⊎_elim
        (λ w.
        let e : counts_before t (n + 1) ≡ boxes = ap (counts_before t) w.0 ∙ h.all in
        omega (arith, one_more after n, here, w.1, sum_kept n (omega (arith, w.0)) (omega arith), one_more t n, e, h.own n w.0))
        (λ w. omega (arith, one_more after n, here, w.1, sum_new n w.0 (omega arith)))
        named

    counts : (i : ℕ) → i < n + 1 → count_of after i ≤ 16
    counts i l = go (eqb i n) refl (ltb i from) refl
      where
        go : (x : Bool) → eqb i n ≡ x → (y : Bool) → ltb i from ≡ y → count_of after i ≤ 16
        go true p y q = let e : i ≡ n = eqb-true i n p in rw e (omega (arith, here))
        go false p true q = let a = ltb-true i from q in omega (arith, count_kept i a (omega (arith, eqb-false i n p)), h.counts i a)
        go false p false q = omega (arith, count_new i (ltb-false i from q) (omega (arith, eqb-false i n p)))

    counted : Shaped (n + 1) count (boxes + 1) (with_shape from n boxes count t)
    unfolding after
    counted = record {
      room = rw (shape_length from n boxes count t h.room small low boxes_fit count_fit) h.room;
      few = omega arith;
      counts = counts;
      firsts = firsts;
      all = all;
      own = λ k e. let q : k ≡ n = omega arith in rw q here;
    }

pub shaped_more : (c : Counts) (n : ℕ) (t : List ℕ) → Shaped c.shapes c.last c.boxes t → c.shapes ≤ n + 1 → ShapeFits c n →
    Shaped (n + 1) (count_after c n) (c.boxes + 1) (with_shape c.shapes n c.boxes (count_after c n) t)
unfolding count_after
shaped_more c n t h low fits = go (eqb (n + 1) c.shapes) refl
  where
    go : (x : Bool) → eqb (n + 1) c.shapes ≡ x →
        Shaped (n + 1) (cond x (c.last + 1) 1) (c.boxes + 1) (with_shape c.shapes n c.boxes (cond x (c.last + 1) 1) t)
    go true p =
        let e : n + 1 ≡ c.shapes = eqb-true (n + 1) c.shapes p in
        let r : ltb c.last 16 ≡ true = rw p at fits.room in
        counted c.shapes n c.boxes c.last t h low fits.small fits.boxes (c.last + 1) (omega (arith, ltb-true c.last 16 r)) (inl (e, refl))
    go false p =
        counted c.shapes n c.boxes c.last t h low fits.small fits.boxes 1 (omega arith)
        (inr (omega (arith, eqb-false (n + 1) c.shapes p), refl))

-- ---- boxes: n of them

pub record Boxed (n : ℕ) (t : List ℕ) : Type 0 where
  pub room : 12288 ≤ length t
  pub few : n ≤ 256
  pub rules : (i : ℕ) → i < n → box_rule (box_at t (48 * i)) ≡ true

-- a box by its six numbers
same_box : (t u : List ℕ) (at to : ℕ) → ((j : ℕ) → j < 6 → field 8 t (at + 8 * j) ≡ field 8 u (to + 8 * j)) → box_at t at ≡ box_at u to
unfolding box_at float_field
same_box t u at to e =
    let z : field 8 t at ≡ field 8 u to =
    ap (λ (m : ℕ). field 8 t m) (omega arith) ∙ e 0 (omega arith) ∙ ap (λ (m : ℕ). field 8 u m) (omega arith) in
    rw (z, e 1 (omega arith), e 2 (omega arith), e 3 (omega arith), e 4 (omega arith), e 5 (omega arith))

pub boxed_more : (s : List ℕ) (n : ℕ) (t : List ℕ) → Bytes s → Boxed n t → n < 256 → box_rule (box_of s) ≡ true → Boxed (n + 1) (with_box s n t)
unfolding box_of
boxed_more s n t b h l g = record {
  room = rw box_length h.room;
  few = omega arith;
  rules = λ i m. go i m (eqb i n) refl;
}
  where
    own : box_at (with_box s n t) (48 * n) ≡ box_at s 8
    own = same_box (with_box s n t) s (48 * n) 8 (λ j m. box_number_lem s n b j t m (omega (arith, h.room)))

    other : (i : ℕ) → i < n → box_at (with_box s n t) (48 * i) ≡ box_at t (48 * i)
    other i m = same_box (with_box s n t) t (48 * i) (48 * i) (λ j x. box_away s n (48 * i + 8 * j) t (inl (omega arith)))

    go : (i : ℕ) → i < n + 1 → (x : Bool) → eqb i n ≡ x → box_rule (box_at (with_box s n t) (48 * i)) ≡ true
    go i m true p = let e : i ≡ n = eqb-true i n p in rw (e, own) g
    go i m false p = let k : i < n = omega (arith, eqb-false i n p) in rw (other i k) (h.rules i k)

-- ---- the whole: what the good records so far have made

pub record Sound (r : Reading) (t : Tables) : Type 0 where
  pub cells : 32768 ≤ length t.cells
  pub shapes : Shaped r.counts.shapes r.counts.last r.counts.boxes t.shapes
  pub boxes : Boxed r.counts.boxes t.boxes
  pub window : 3 ≤ r.kind → (Sizes r.window) × (r.counts.cells ≡ volume r.window) × (r.counts.cells ≤ 4096)

-- a table's part in use
part_first : (n : ℕ) (t : List ℕ) (i : ℕ) → i < n → first_of (take (8 * n) t) i ≡ first_of t i
part_first n t i h = field_take 4 (8 * n) t (8 * i) (omega arith)

part_count : (n : ℕ) (t : List ℕ) (i : ℕ) → i < n → count_of (take (8 * n) t) i ≡ count_of t i
part_count n t i h = field_take 4 (8 * n) t (8 * i + 4) (omega arith)

part_box : (n : ℕ) (t : List ℕ) (i : ℕ) → i < n → box_at (take (48 * n) t) (48 * i) ≡ box_at t (48 * i)
part_box n t i h = same_box (take (48 * n) t) t (48 * i) (48 * i) (λ j l. field_take 8 (48 * n) t (48 * i + 8 * j) (omega arith))

-- so the tables of a scene that was read are a good world
pub sound_world : (r : Reading) (t : Tables) → Sound r t → 3 ≤ r.kind →
    GoodWorld r.window (take (8 * r.counts.cells) t.cells) (take (8 * r.counts.shapes) t.shapes) (take (48 * r.counts.boxes) t.boxes)
sound_world r t s k =
    let c : length (take (8 * r.counts.cells) t.cells) ≡ 8 * r.counts.cells = length-take-le (8 * r.counts.cells) t.cells (omega (arith, s.cells, s.window k)) in
    let p : length (take (8 * r.counts.shapes) t.shapes) ≡ 8 * r.counts.shapes = length-take-le (8 * r.counts.shapes) t.shapes (omega (arith, s.shapes.room, s.shapes.few)) in
    let b : length (take (48 * r.counts.boxes) t.boxes) ≡ 48 * r.counts.boxes = length-take-le (48 * r.counts.boxes) t.boxes (omega (arith, s.boxes.room, s.boxes.few)) in
    record {
      sizes = (s.window k).0;
      eight_a_cell = c ∙ ap (λ (n : ℕ). 8 * n) (s.window k).1;
      whole_shapes = rw p (omega arith);
      whole_boxes = rw b (omega arith);
      counts = λ i h.
          let l : i < r.counts.shapes = omega (arith, p) in
          rw (part_count r.counts.shapes t.shapes i l) (s.shapes.counts i l);
      runs = λ i h.
          let l : i < r.counts.shapes = omega (arith, p) in
          let m : r.counts.boxes ≤ length (take (48 * r.counts.boxes) t.boxes) / 48 = rw b (omega arith) in
          rw (part_first r.counts.shapes t.shapes i l, part_count r.counts.shapes t.shapes i l)
          (omega (arith, m, s.shapes.firsts i l, run_within t.shapes i r.counts.shapes l, s.shapes.all));
      rules = λ i h.
          let l : i < r.counts.boxes = omega (arith, b) in
          rw (part_box r.counts.boxes t.boxes i l) (s.boxes.rules i l);
    }

-- and its first boxes are sums
pub sound_sums : (r : Reading) (t : Tables) → Sound r t → Summed (take (8 * r.counts.shapes) t.shapes) (take (48 * r.counts.boxes) t.boxes)
sound_sums r t s =
    let n = r.counts.shapes in
    let p : length (take (8 * n) t.shapes) ≡ 8 * n = length-take-le (8 * n) t.shapes (omega (arith, s.shapes.room, s.shapes.few)) in
    let b : length (take (48 * r.counts.boxes) t.boxes) ≡ 48 * r.counts.boxes = length-take-le (48 * r.counts.boxes) t.boxes (omega (arith, s.boxes.room, s.boxes.few)) in
    let many : records 8 (take (8 * n) t.shapes) ≡ n = rw p (omega arith) in
    let boxes : records 48 (take (48 * r.counts.boxes) t.boxes) ≡ r.counts.boxes = rw b (omega arith) in
    record {
      firsts = λ i h.
          let l : i < n = omega (arith, many) in
          omega (arith, part_first n t.shapes i l, s.shapes.firsts i l, part_sum n t.shapes i (omega arith));
      all = rw (many, boxes) (omega (arith, part_sum n t.shapes n (omega arith), s.shapes.all));
    }
  where
    part_sum : (n : ℕ) (u : List ℕ) (i : ℕ) → i ≤ n → counts_before (take (8 * n) u) i ≡ counts_before u i
    part_sum n u i h = same_sum (take (8 * n) u) u i (λ j l. part_count n u j (omega arith))

-- ---- it holds before the first record, and behind each good one

pub sound_empty : (t : Tables) → 32768 ≤ length t.cells → 2048 ≤ length t.shapes → 12288 ≤ length t.boxes → Sound empty t
unfolding empty
sound_empty t a b c = record {
  cells = a;
  shapes = record { room = b; few = omega arith; counts = λ i h. absurd (omega arith); firsts = λ i h. absurd (omega arith); all = none_before t.shapes; own = λ k e. absurd (omega arith) };
  boxes = record { room = c; few = omega arith; rules = λ i h. absurd (omega arith) };
  window = λ h. absurd (omega arith);
}

-- a fill keeps the table's length
filled_length : (w : Window) (s t : List ℕ) → length (filled w s t) ≡ length t
unfolding filled
filled_length w s t = go (size_above w)
  where
    cell : List ℕ → Spot → List ℕ
    cell = with_cell w.sx w.sz (field 4 s 32) (field 4 s 36)

    each : (ps : List Spot) (u : List ℕ) → length (foldl cell u ps) ≡ length u
    each [] u = refl
    each (p ∷ ps) u = each ps (cell u p) ∙ entry_length (field 4 s 32) (field 4 s 36) (record_at w.sx w.sz p) u

    go : (x : Bool) → length (cond x t (foldl cell t (cells_of (region_of w s)))) ≡ length t
    go true = refl
    go false = each (cells_of (region_of w s)) t

cells_length : (k : ℕ) (w : Window) (s t : List ℕ) → length (cells_after k w s t) ≡ length t
unfolding cells_after unfilled
cells_length k w s t = go (eqb k 3) (eqb k 6)
  where
    go : (a b : Bool) → length (cond a (in_turn (with_entry 4294967295 0) 0 (cell_count (window_of s)) t) (cond b (filled w s t) t)) ≡ length t
    go true b = turn_length (with_entry 4294967295 0) (entry_length 4294967295 0) (cell_count (window_of s)) 0 t
    go false true = filled_length w s t
    go false false = refl

-- the counts behind kinds 3 and 5
abbrev three : Counts → List ℕ → Counts
three c s = record { cells = cell_count (window_of s); states = c.states; shapes = c.shapes; boxes = c.boxes; last = c.last }

abbrev five : Counts → List ℕ → Counts
five c s = record { cells = c.cells; states = number_of s + 1; shapes = c.shapes; boxes = c.boxes; last = c.last }

whole_volume : (w : Window) → size_above w ≡ false → cell_count w ≡ volume w
unfolding cell_count
whole_volume w e = rw e

module _ (r : Reading) (t : Tables) (s : List ℕ) (b : Bytes s) (h : Sound r t) (g : good_in r s ≡ true) where
  shapes_on : Shaped (counts_after (kind_of s) r.counts s).shapes (counts_after (kind_of s) r.counts s).last (counts_after (kind_of s) r.counts s).boxes (shapes_after (kind_of s) r.counts s t.shapes)
  unfolding counts_after shapes_after with_box_counted
  shapes_on = go (eqb (kind_of s) 3) refl (eqb (kind_of s) 4) refl (eqb (kind_of s) 5)
    where
      go : (x : Bool) → eqb (kind_of s) 3 ≡ x → (y : Bool) → eqb (kind_of s) 4 ≡ y → (z : Bool) →
          Shaped (cond x (three r.counts s) (cond y (with_box_counted r.counts (number_of s)) (cond z (five r.counts s) r.counts))).shapes (cond x (three r.counts s) (cond y (with_box_counted r.counts (number_of s)) (cond z (five r.counts s) r.counts))).last (cond x (three r.counts s) (cond y (with_box_counted r.counts (number_of s)) (cond z (five r.counts s) r.counts))).boxes (cond y (with_shape r.counts.shapes (number_of s) r.counts.boxes (count_after r.counts (number_of s)) t.shapes) t.shapes)
      go true p true q z = absurd (omega (arith, eqb-true (kind_of s) 3 p, eqb-true (kind_of s) 4 q))
      go true p false q z = h.shapes
      go false p true q z =
          shaped_more r.counts (number_of s) t.shapes h.shapes (not_falling r.kind r.counts s g (eqb-true (kind_of s) 4 q)) ((allowed r.kind r.counts s g).shape (eqb-true (kind_of s) 4 q))
      go false p false q true = h.shapes
      go false p false q false = h.shapes

  boxes_on : Boxed (counts_after (kind_of s) r.counts s).boxes (boxes_after (kind_of s) r.counts s t.boxes)
  unfolding counts_after boxes_after with_box_counted
  boxes_on = go (eqb (kind_of s) 3) refl (eqb (kind_of s) 4) refl (eqb (kind_of s) 5)
    where
      go : (x : Bool) → eqb (kind_of s) 3 ≡ x → (y : Bool) → eqb (kind_of s) 4 ≡ y → (z : Bool) →
          Boxed (cond x (three r.counts s) (cond y (with_box_counted r.counts (number_of s)) (cond z (five r.counts s) r.counts))).boxes (cond y (with_box s r.counts.boxes t.boxes) t.boxes)
      go true p true q z = absurd (omega (arith, eqb-true (kind_of s) 3 p, eqb-true (kind_of s) 4 q))
      go true p false q z = h.boxes
      go false p true q z =
          boxed_more s r.counts.boxes t.boxes b h.boxes ((allowed r.kind r.counts s g).shape (eqb-true (kind_of s) 4 q)).boxes
          (by_box_rule r.kind r.counts s g (eqb-true (kind_of s) 4 q))
      go false p false q true = h.boxes
      go false p false q false = h.boxes

  window_on : 3 ≤ kind_of s → (Sizes (window_after (kind_of s) r.window s)) × ((counts_after (kind_of s) r.counts s).cells ≡ volume (window_after (kind_of s) r.window s)) × ((counts_after (kind_of s) r.counts s).cells ≤ 4096)
  unfolding counts_after window_after with_box_counted
  window_on l = go (eqb (kind_of s) 3) refl (eqb (kind_of s) 4) (eqb (kind_of s) 5)
    where
      go : (x : Bool) → eqb (kind_of s) 3 ≡ x → (y z : Bool) →
          (Sizes (cond x (window_of s) r.window)) × ((cond x (three r.counts s) (cond y (with_box_counted r.counts (number_of s)) (cond z (five r.counts s) r.counts))).cells ≡ volume (cond x (window_of s) r.window)) × ((cond x (three r.counts s) (cond y (with_box_counted r.counts (number_of s)) (cond z (five r.counts s) r.counts))).cells ≤ 4096)
      go true p y z =
          let e = eqb-true (kind_of s) 3 p in let a = no_size_above r.kind r.counts s g e in
          (sizes_of (window_of s) a, whole_volume (window_of s) a, few_cells r.kind r.counts s g e)
      go false p true z = h.window (behind_three r.kind r.counts s g (omega (arith, eqb-false (kind_of s) 3 p)))
      go false p false true = h.window (behind_three r.kind r.counts s g (omega (arith, eqb-false (kind_of s) 3 p)))
      go false p false false = h.window (behind_three r.kind r.counts s g (omega (arith, eqb-false (kind_of s) 3 p)))

  pub sound_more : Sound (next (kind_of s) r s) (tables_read r s t)
  unfolding next cells_read perms_read shapes_read boxes_read
  sound_more = rw g (record { cells = rw cells_length h.cells; shapes = shapes_on; boxes = boxes_on; window = window_on })

-- ---- a whole scene

-- the tables that a read scene leaves are what good records make, up to the window at least
abbrev scene_of : Reading → Scene
scene_of r = record { request = r.request; body = r.body; window = r.window; in_use = in_use r.counts }

abbrev Made : Scene → Tables → Type 0
Made x t = (r : Reading) × (Sound r t) × (3 ≤ r.kind) × (scene_of r ≡ x)

at_end : (r : Reading) (t : Tables) (x : Scene) → Sound r t → ended r ≡ given x → Made x t
unfolding ended in_use
at_end r t x h = go (ltb r.kind 3) refl
  where
    go : (b : Bool) → ltb r.kind 3 ≡ b → cond b (refused 7 r.number) (given (scene_of r)) ≡ given x → Made x t
    go true p e = absurd (let z : ◌≡◌ {A = ℕ} 0 1 = cc in omega arith)
    go false p e = let q : scene_of r ≡ x = cc in (r, h, ltb-false r.kind 3 p, q)

abbrev onto : Reading → List ℕ → Tables → List (List ℕ) → Read
onto r s t ss = read_from (next (kind_of s) r s) (tables_read r s t) ss

abbrev stop : Reading → Tables → Read
stop r t = record { answer = refused 7 r.number; tables = t }

from_sound : (ss : List (List ℕ)) (r : Reading) (t : Tables) (x : Scene) → AllBytes ss → Sound r t → (read_from r t ss).answer ≡ given x → Made x (read_from r t ss).tables
unfolding read_from
from_sound [] r t x a h e = at_end r t x h e
from_sound (s ∷ ss) r t x a h e = go (good_in r s) refl e (λ g. from_sound ss (next (kind_of s) r s) (tables_read r s t) x a.1 (sound_more r t s a.0 h g))
  where
    go : (b : Bool) → good_in r s ≡ b → (cond b (onto r s t ss) (stop r t)).answer ≡ given x →
        (good_in r s ≡ true → (onto r s t ss).answer ≡ given x → Made x (onto r s t ss).tables) → Made x (cond b (onto r s t ss) (stop r t)).tables
    go true g e rest = rest g e
    go false g e rest = absurd (let z : ◌≡◌ {A = ℕ} 0 1 = cc in omega arith)

made : (ss : List (List ℕ)) (t : Tables) (x : Scene) → AllBytes ss → (read_all t ss).answer ≡ given x → Made x (read_all t ss).tables
unfolding read_all begun onward
made ss t x a e = go (leb 32768 (length t.cells) && leb 256 (length t.perms) && leb 2048 (length t.shapes) && leb 12288 (length t.boxes)) refl e
  where
    go : (b : Bool) → leb 32768 (length t.cells) && leb 256 (length t.perms) && leb 2048 (length t.shapes) && leb 12288 (length t.boxes) ≡ b →
        (onward (cond b (given empty) (refused 5 0)) t ss).answer ≡ given x → Made x (onward (cond b (given empty) (refused 5 0)) t ss).tables
    go true p q =
        let three = left_true (leb 32768 (length t.cells) && leb 256 (length t.perms) && leb 2048 (length t.shapes)) (leb 12288 (length t.boxes)) p in
        let two = left_true (leb 32768 (length t.cells) && leb 256 (length t.perms)) (leb 2048 (length t.shapes)) three in
        from_sound ss empty t x a
        (sound_empty t
        (leb-true 32768 (length t.cells) (left_true (leb 32768 (length t.cells)) (leb 256 (length t.perms)) two))
        (leb-true 2048 (length t.shapes) (right_true (leb 32768 (length t.cells) && leb 256 (length t.perms)) (leb 2048 (length t.shapes)) three))
        (leb-true 12288 (length t.boxes) (right_true (leb 32768 (length t.cells) && leb 256 (length t.perms) && leb 2048 (length t.shapes)) (leb 12288 (length t.boxes)) p)))
        q
    go false p q = absurd (let z : ◌≡◌ {A = ℕ} 0 1 = cc in omega arith)

-- ---- the theorems: of the tables that a read scene leaves, as far as they are in use

module _ (ss : List (List ℕ)) (t : Tables) (x : Scene) (a : AllBytes ss) (e : (read_all t ss).answer ≡ given x) where
  abbrev cells : List ℕ
  cells = take x.in_use.cells (read_all t ss).tables.cells

  abbrev shapes : List ℕ
  shapes = take x.in_use.shapes (read_all t ss).tables.shapes

  abbrev boxes : List ℕ
  boxes = take x.in_use.boxes (read_all t ss).tables.boxes

  -- they are never a BadWorld
  pub never_bad : bad_world x.window cells shapes boxes ≡ false
  unfolding in_use
  never_bad =
      let m = made ss t x a e in
      rw (← m.3) (good_is_not_bad _ _ _ _ (sound_world m.0 (read_all t ss).tables m.1 m.2))

  -- "a first box is the sum of the counts before it"
  pub first_boxes_are_sums : Summed shapes boxes
  unfolding in_use
  first_boxes_are_sums =
      let m = made ss t x a e in
      rw (← m.3) (sound_sums m.0 (read_all t ss).tables m.1)
