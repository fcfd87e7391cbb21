-- Laws of the tables and the space. First what callers meet: the block of a cell, known or unknown, and a run of boxes as a loop goes over it; then
-- records and boxes by the tests of the code.
use Prim.Native.Nat.{ℕ, zero, suc, ◌+◌, ◌-◌, ◌*◌, ◌/◌, ◌%◌, ◌≤◌, ◌<◌}
use native.Mathlib.Omega.{arith}
use Rattle.std.proofs.Math.Path.{◌≡◌, refl, ap}
use Rattle.std.proofs.Common.{sym, ◌∙◌, length-drop, drop_of_length-le, take_all}
use Rattle.std.specs.Prelude.{Bool, not, ◌&&◌, leb, ℤ, List, [], ◌∷◌, map, get_or, take, drop, Option, Some, None}
use Rattle.std.proofs.Math.Bool.{true, false, cond}
use borrow.Author.Tests.{lt-ltb, le-ltb, le-leb, lt-leb, ltb-true, ltb-false, leb-true, leb-false, not-true}
use Rattle.std.proofs.Math.Dec.{ltb}
use Rattle.std.proofs.Math.ListN.{length}
use Rattle.fields.specs.Little.{field, float_field}
use Rattle.fields.proofs.Laws.{field_out}
use Rattle.fields.proofs.Pieces.{field_drop, field_take, low_part, high_part}
use Rattle.world.specs.declared.Window.{Window}
use Rattle.world.specs.declared.Point.{Point}
use Rattle.world.specs.declared.Aabb.{Aabb}
use Rattle.world.specs.declared.Cell.{Cell}
use Rattle.world.specs.Boxes.{moved, cube, corner}
use Rattle.world.specs.Space.{At, Out, record_of, entry_at, may_occupy, may_support, collides, of_parts, known, cell_in, cell_at, point_at, box_at, box_here, run, no_door, door_of, block_of, space}

-- ---- a point past the table's end reads as one at its end

pub point_past : (s : List ℕ) (at : ℕ) → length s ≤ at → point_at s (length s) ≡ point_at s at
unfolding point_at float_field
point_past s at h =
    rw (field_out 8 s at (omega arith), field_out 8 s (at + 8) (omega arith), field_out 8 s (at + 16) (omega arith), field_out 8 s (length s) (omega arith), field_out 8 s (length s + 8) (omega arith), field_out 8 s (length s + 16) (omega arith))

-- ---- a box record, where there is one

pub a_box : (s : List ℕ) (at : ℕ) → at + 48 ≤ length s → box_here s at ≡ Some (box_at s at)
unfolding box_here
a_box s at h = rw (le-leb (at + 48) (length s) h)

-- a box record is its two corners
pub two_corners : (s : List ℕ) (at : ℕ) → record { min = point_at s at; max = point_at s (at + 24) } ≡ box_at s at
unfolding point_at box_at
two_corners s at =
    let y : at + 24 + 8 ≡ at + 32 = omega arith in
    let z : at + 24 + 16 ≡ at + 40 = omega arith in
    rw (y, z)

-- and back
pub box_past : (s : List ℕ) (at : ℕ) → box_here s at ≡ None → length s < at + 48
unfolding box_here
box_past s at e = go (leb (at + 48) (length s)) refl e
  where
    go : (t : Bool) → leb (at + 48) (length s) ≡ t → cond t (Some (box_at s at)) None ≡ None → length s < at + 48
    go true p q = absurd (let z : ◌≡◌ {A = ℕ} 0 1 = cc in omega arith)
    go false p q = leb-false (at + 48) (length s) p

pub box_is : (s : List ℕ) (at : ℕ) (b : Aabb) → box_here s at ≡ Some b → (at + 48 ≤ length s) × (b ≡ box_at s at)
unfolding box_here
box_is s at b e = go (leb (at + 48) (length s)) refl e
  where
    go : (t : Bool) → leb (at + 48) (length s) ≡ t → cond t (Some (box_at s at)) None ≡ Some b → (at + 48 ≤ length s) × (b ≡ box_at s at)
    go true p q = (leb-true (at + 48) (length s) p, cc)
    go false p q = absurd (let z : ◌≡◌ {A = ℕ} 0 1 = cc in omega arith)

pub box_room : (s : List ℕ) (at : ℕ) (b : Aabb) → box_here s at ≡ Some b → at + 48 ≤ length s
box_room s at b e = (box_is s at b e).0

-- ---- what stands in a cell

module _ (boxes : List ℕ) (p : Point) where
  -- "one full unit cube, neither occupiable nor a support"
  pub unknown_block : block_of boxes None p ≡ record { occupied = false; support = false; boxes = moved cube p ∷ []; door = no_door }
  unfolding block_of
  unknown_block = refl

  -- "its run of box records inside the box table, shifted by the cell's position"
  pub known_block : (o s : Bool) (first count : ℕ) (through : Bool) (state : ℕ) → block_of boxes (Some (record { occupied = o; support = s; first = first; count = count; through = through; state = state })) p
      ≡ record { occupied = o; support = s; boxes = map (λ (b : Aabb). moved b p) (run count (drop (48 * first) boxes) 0); door = door_of through state }
  unfolding block_of
  known_block o s first count through state = refl

  -- "A known state without bit 4 has no boxes", and is a door
  pub no_collision : (perm first count state : ℕ) → collides perm ≡ false →
      block_of boxes (Some (of_parts perm first count state)) p ≡ record { occupied = may_occupy perm; support = may_support perm; boxes = []; door = state }
  unfolding block_of of_parts run
  no_collision perm first count state e = rw e

module _ (w : Window) (cells perms shapes boxes : List ℕ) (x y z : ℤ) where
  -- the space at a cell is what the tables say of it
  pub space_at : (b : Option Cell) → cell_at w cells perms shapes x y z ≡ b → space w cells perms shapes boxes x y z ≡ block_of boxes b (corner x y z)
  unfolding space
  space_at b e = rw e

  -- "unknown outside the window"
  pub unknown_outside : record_of w x y z ≡ Out → cell_at w cells perms shapes x y z ≡ None
  unfolding cell_at cell_in
  unknown_outside e = rw e

  module _ (i state shape : ℕ) (here : record_of w x y z ≡ At i) (told : entry_at cells i ≡ Some (state, shape)) where
    pub by_record : cell_at w cells perms shapes x y z ≡ known perms shapes state shape
    unfolding cell_at cell_in
    by_record = rw (here, told)

    -- "with no permission byte for its state"
    pub unknown_state : length perms ≤ state → cell_at w cells perms shapes x y z ≡ None
    unfolding known
    unknown_state h = by_record ∙ rw (le-ltb state (length perms) h)

    -- "or no such shape", whatever the permission byte says
    pub unknown_shape : entry_at shapes shape ≡ None → cell_at w cells perms shapes x y z ≡ None
    unfolding known
    unknown_shape e = by_record ∙ rw e (same (ltb state (length perms)))
      where
        same : (b : Bool) → cond {A = Option Cell} b None None ≡ None
        same true = refl
        same false = refl

-- ---- a run of boxes: none, the table's end, or one and the rest

module _ (s : List ℕ) (at : ℕ) where
  pub run_none : run 0 s at ≡ []
  unfolding run
  run_none = refl

  pub run_end : (n : ℕ) → box_here s at ≡ None → run n s at ≡ []
  unfolding run
  run_end zero e = refl
  run_end (suc n) e = rw e

  pub run_more : (n : ℕ) (b : Aabb) → 0 < n → box_here s at ≡ Some b → run n s at ≡ b ∷ run (n - 1) s (at + 48)
  unfolding run
  run_more zero b h e = absurd (omega arith)
  run_more (suc n) b h e = let k : suc n - 1 ≡ n = omega arith in rw (e, k)

-- a run read from an offset of a part is the run of the whole table behind the part's begin
box_behind : (k : ℕ) (s : List ℕ) (at : ℕ) → box_here (drop k s) at ≡ box_here s (k + at)
unfolding box_here box_at float_field
box_behind k s at =
    let room : leb (at + 48) (length (drop k s)) ≡ leb (k + at + 48) (length s) = fits (leb (k + at + 48) (length s)) refl in
    let a : k + (at + 8) ≡ k + at + 8 = omega arith in
    let b : k + (at + 16) ≡ k + at + 16 = omega arith in
    let c : k + (at + 24) ≡ k + at + 24 = omega arith in
    let d : k + (at + 32) ≡ k + at + 32 = omega arith in
    let e : k + (at + 40) ≡ k + at + 40 = omega arith in
    rw (room, field_drop 8 k s at, field_drop 8 k s (at + 8), field_drop 8 k s (at + 16), field_drop 8 k s (at + 24), field_drop 8 k s (at + 32), field_drop 8 k s (at + 40), a, b, c, d, e)
  where
    fits : (t : Bool) → leb (k + at + 48) (length s) ≡ t → leb (at + 48) (length (drop k s)) ≡ t
    fits true p = le-leb (at + 48) (length (drop k s)) (omega (arith, length-drop k s, leb-true (k + at + 48) (length s) p))
    fits false p = lt-leb (at + 48) (length (drop k s)) (omega (arith, length-drop k s, leb-false (k + at + 48) (length s) p))

run_behind : (n k : ℕ) (s : List ℕ) (at : ℕ) → run n (drop k s) at ≡ run n s (k + at)
unfolding run
run_behind zero k s at = refl
run_behind (suc n) k s at =
    let e : k + (at + 48) ≡ k + at + 48 = omega arith in
    rw (box_behind k s at, run_behind n k s (at + 48), e)

-- the first box of a run, and the run behind it as a part of its own
pub run_first : (n : ℕ) (s : List ℕ) (b : Aabb) → 0 < n → box_here s 0 ≡ Some b → run n s 0 ≡ b ∷ run (n - 1) (drop 48 s) 0
run_first n s b h e = run_more s 0 n b h e ∙ rw (run_behind (n - 1) 48 s 0)

-- a part of a table to its end, and past its end
pub part_is : (n : ℕ) (s : List ℕ) → take (length s - n) (drop n s) ≡ drop n s
part_is n s = take_all (length s - n) (drop n s) (omega (arith, length-drop n s))

pub part_past : (n : ℕ) (s : List ℕ) → length s ≤ n → drop (length s) s ≡ drop n s
part_past n s h = drop_of_length-le s {i = length s} (omega arith) ∙ sym (drop_of_length-le s {i = n} (omega arith))

-- ---- a loop that goes on as long as there are more and nothing has stopped it: a turn of it, and its end

pub both : (s t : Bool) → (s && t) ≡ true → (s ≡ true) × (t ≡ true)
both true true e = (refl, refl)
both true false e = absurd (let z : ◌≡◌ {A = ℕ} 0 1 = cc in omega arith)
both false t e = absurd (let z : ◌≡◌ {A = ℕ} 0 1 = cc in omega arith)

module _ (k n : ℕ) (stopped : Bool) where
  pub turn_taken : (ltb k n && not stopped) ≡ true → (k < n) × (stopped ≡ false)
  turn_taken e = let t = both (ltb k n) (not stopped) e in (ltb-true k n t.0, not-true stopped t.1)

  pub turns_end : {P : Type 0} → (ltb k n && not stopped) ≡ false → (n ≤ k → P) → (stopped ≡ true → P) → P
  turns_end {P} e f g = go (ltb k n) refl stopped refl e
    where
      go : (s : Bool) → ltb k n ≡ s → (t : Bool) → stopped ≡ t → (s && not t) ≡ false → P
      go false p t q e = f (ltb-false k n p)
      go true p true q e = g q
      go true p false q e = absurd (let z : ◌≡◌ {A = ℕ} 0 1 = cc in omega arith)

-- ---- a record of 8 bytes, by the test on its table

module _ (s : List ℕ) (i : ℕ) where
  pub no_entry : length s / 8 ≤ i → entry_at s i ≡ None
  unfolding entry_at
  no_entry h = rw (le-ltb i (length s / 8) h)

  pub an_entry : i < length s / 8 → entry_at s i ≡ Some (field 4 s (8 * i), field 4 s (8 * i + 4))
  unfolding entry_at
  an_entry h = rw (lt-ltb i (length s / 8) h)

-- read as a part of its own
pub own_part : (s : List ℕ) (at : ℕ) → field 8 (take (at + 8 - at) (drop at s)) 0 ≡ field 8 s at
own_part s at =
    let e : at + 8 - at ≡ 8 = omega arith in
    let z : at + 0 ≡ at = omega arith in
    rw e (field_take 8 8 (drop at s) 0 (omega arith) ∙ field_drop 8 at s 0 ∙ rw z)

-- and at once: the lower four bytes, and the higher ones
module _ (s : List ℕ) (at : ℕ) (h : at + 8 ≤ length s) (bytes : (j : ℕ) → get_or s j 0 < 256) where
  pub low_half : field 8 s at % 4294967296 ≡ field 4 s at
  low_half = low_part 4 4 s at bytes h

  pub high_half : field 8 s at / 4294967296 ≡ field 4 s (at + 4)
  high_half = high_part 4 4 s at bytes h

-- and back: what such a record says of its table
module _ (s : List ℕ) (i : ℕ) where
  pub entry_past : entry_at s i ≡ None → length s / 8 ≤ i
  unfolding entry_at
  entry_past e = go (ltb i (length s / 8)) refl e
    where
      go : (t : Bool) → ltb i (length s / 8) ≡ t → cond {A = Option (ℕ × ℕ)} t (Some (field 4 s (8 * i), field 4 s (8 * i + 4))) None ≡ None → length s / 8 ≤ i
      go true p q = absurd (let z : ◌≡◌ {A = ℕ} 0 1 = cc in omega arith)
      go false p q = ltb-false i (length s / 8) p

  pub entry_is : (a b : ℕ) → entry_at s i ≡ Some (a, b) → (i < length s / 8) × (a ≡ field 4 s (8 * i)) × (b ≡ field 4 s (8 * i + 4))
  unfolding entry_at
  entry_is a b e = go (ltb i (length s / 8)) refl e
    where
      go : (t : Bool) → ltb i (length s / 8) ≡ t → cond {A = Option (ℕ × ℕ)} t (Some (field 4 s (8 * i), field 4 s (8 * i + 4))) None ≡ Some (a, b) →
          (i < length s / 8) × (a ≡ field 4 s (8 * i)) × (b ≡ field 4 s (8 * i + 4))
      go true p q =
          let r : (a, b) ≡ (field 4 s (8 * i), field 4 s (8 * i + 4)) = cc in
          (ltb-true i (length s / 8) p, ap (λ (v : ℕ × ℕ). v.0) r, ap (λ (v : ℕ × ℕ). v.1) r)
      go false p q = absurd (let z : ◌≡◌ {A = ℕ} 0 1 = cc in omega arith)
