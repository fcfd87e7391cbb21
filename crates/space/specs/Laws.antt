-- Laws of the cell table, as the code goes: a number against an origin and so many cells, the record of three such places, and a cell by the tests on the
-- tables.
use Rattle.std.specs.Prelude.{ℕ, zero, suc, ◌+◌, ◌*◌, ◌≤◌, ◌<◌, Bool, not, ◌&&◌, cond, List, T, leb, eqb, ℤ, pos, negsuc, ◌+ℤ◌, ◌-ℤ◌, nat_abs, length, get_or, Some, None}
use Rattle.std.proofs.Common.{arith, mul-le-mul, sym, ◌∙◌, SFits, Fits}
use Rattle.std.proofs.Math.Path.{◌≡◌, refl, ap}
use Rattle.std.proofs.Math.Bool.{true, false}
use borrow.Author.Tests.{lt-ltb, le-ltb, le-leb, lt-leb, ltb-true, ltb-false, leb-true, leb-false}
use Rattle.std.proofs.Math.Dec.{ltb}
use Rattle.std.specs.Int.Signed.{lt_z, le_z, non_neg}
use Rattle.std.specs.Int.{w32, w64}
use Rattle.cells.specs.Parts.{over, under, sum, difference, size, lt_yes, lt_no, le_yes, le_no, within, upper, lower, natural}
use Rattle.world.specs.declared.Window.{Window}
use Rattle.world.specs.Space.{Place, At, Out, place, onward, record_of, entry_at, entry_in, of_parts, known, known_by, cell_in}
use Rattle.world.specs.Laws.{both}

-- ---- `place`, by the parts of a number

place_in : (z : ℤ) (n : ℕ) → under z ≤ over z → over z < n + under z → n ≤ 256 → place z n ≡ At (nat_abs z)
unfolding place
place_in (pos d) n a b c = rw (lt-ltb d n (omega arith), le-leb n 256 c)
place_in (negsuc d) n a b c = absurd (omega arith)

place_under : (z : ℤ) (n : ℕ) → over z < under z → place z n ≡ Out
unfolding place
place_under (pos d) n a = absurd (omega arith)
place_under (negsuc d) n a = refl

place_over : (z : ℤ) (n : ℕ) → n + under z ≤ over z → place z n ≡ Out
unfolding place
place_over (pos d) n a = rw (le-ltb d n (omega arith))
place_over (negsuc d) n a = absurd (omega arith)

pub place_wide : (z : ℤ) (n : ℕ) → 256 < n → place z n ≡ Out
unfolding place
place_wide (pos d) n a = rw (lt-leb n 256 a) (never (ltb d n))
  where
    never : (b : Bool) → cond (b && false) (At d) Out ≡ Out
    never true = refl
    never false = refl
place_wide (negsuc d) n a = refl

-- ---- as the code goes: a number at against an origin o and n cells

-- a place as one number: none in a row is 256
unfoldable pub far : Place → ℕ
far (At d) = d
far Out = 256

far_out : {p : Place} → p ≡ Out → 256 ≡ far p
unfolding far
far_out e = rw e

module _ (o at : ℤ) (n : ℕ) (fo : SFits w32 o) (fn : n < 4294967296) where
  pub end_fits : SFits w64 (o +ℤ pos n)
  end_fits = within w64 (o +ℤ pos n) (omega (arith, sum o (pos n), upper w32 o fo, lower w32 o fo)) (omega (arith, sum o (pos n), upper w32 o fo, lower w32 o fo))

  -- the test of the code
  abbrev pub in_row : Bool
  in_row = (leb n 256 && le_z o at) && lt_z at (o +ℤ pos n)

  pub far_else : in_row ≡ false → 256 ≡ far (place (at -ℤ o) n)
  far_else e = go (leb n 256) refl (le_z o at) refl (lt_z at (o +ℤ pos n)) refl e
    where
      go : (s : Bool) → leb n 256 ≡ s → (t : Bool) → le_z o at ≡ t → (u : Bool) → lt_z at (o +ℤ pos n) ≡ u → ((s && t) && u) ≡ false →
          256 ≡ far (place (at -ℤ o) n)
      go false p t q u r e = far_out (place_wide (at -ℤ o) n (leb-false n 256 p))
      go true p false q u r e = far_out (place_under (at -ℤ o) n (omega (arith, difference at o, le_no o at q)))
      go true p true q false r e = far_out (place_over (at -ℤ o) n (omega (arith, difference at o, sum o (pos n), lt_no at (o +ℤ pos n) r)))
      go true p true q true r e = absurd (let z : ◌≡◌ {A = ℕ} 0 1 = cc in omega arith)

  module _ (e : in_row ≡ true) where
    small : n ≤ 256
    small = leb-true n 256 (both (leb n 256) (le_z o at) (both (leb n 256 && le_z o at) (lt_z at (o +ℤ pos n)) e).0).0

    start : under (at -ℤ o) ≤ over (at -ℤ o)
    start = omega (arith, difference at o, le_yes o at (both (leb n 256) (le_z o at) (both (leb n 256 && le_z o at) (lt_z at (o +ℤ pos n)) e).0).1)

    end : over (at -ℤ o) < n + under (at -ℤ o)
    end = omega (arith, difference at o, sum o (pos n), lt_yes at (o +ℤ pos n) (both (leb n 256 && le_z o at) (lt_z at (o +ℤ pos n)) e).1)

    -- how far it is fits, and is no less than 0
    pub far_fits : SFits w64 (at -ℤ o)
    far_fits = within w64 (at -ℤ o) (omega (arith, start, end, small)) (omega (arith, start, end, small))

    pub far_natural : T (non_neg (at -ℤ o))
    far_natural = natural (at -ℤ o) start

    pub far_small : Fits w64 (nat_abs (at -ℤ o))
    far_small = record { fits = omega (arith, size (at -ℤ o), upper w64 (at -ℤ o) far_fits, lower w64 (at -ℤ o) far_fits) }

    pub far_then : nat_abs (at -ℤ o) ≡ far (place (at -ℤ o) n)
    unfolding far
    far_then = rw (place_in (at -ℤ o) n start end small)

-- a place inside is below 256, and so is the row's size at most that
pub inside : (z : ℤ) (n d : ℕ) → place z n ≡ At d → (d < 256) × (n ≤ 256)
unfolding place
inside (pos k) n d e = go (ltb k n) refl (leb n 256) refl e
  where
    go : (s : Bool) → ltb k n ≡ s → (t : Bool) → leb n 256 ≡ t → cond (s && t) (At k) Out ≡ At d → (d < 256) × (n ≤ 256)
    go true p true q r = let f : k ≡ d = cc in omega (arith, ltb-true k n p, leb-true n 256 q)
    go true p false q r = absurd (let z : ◌≡◌ {A = ℕ} 0 1 = cc in omega arith)
    go false p true q r = absurd (let z : ◌≡◌ {A = ℕ} 0 1 = cc in omega arith)
    go false p false q r = absurd (let z : ◌≡◌ {A = ℕ} 0 1 = cc in omega arith)
inside (negsuc k) n d e = absurd (let z : ◌≡◌ {A = ℕ} 0 1 = cc in omega arith)

-- the three axes: what the three numbers are, and the record where each is below 256
module _ (w : Window) (x y z : ℤ) {i j k : ℕ}
    (a : i ≡ far (place (x -ℤ w.x) w.sx)) (b : j ≡ far (place (y -ℤ w.y) w.sy)) (c : k ≡ far (place (z -ℤ w.z) w.sz)) where
  -- a number below 256 is a place, and any other is none
  is_place : (v : ℤ) (n d : ℕ) → d ≡ far (place v n) → ltb d 256 ≡ true → (place v n ≡ At d) × (n ≤ 256)
  unfolding far
  is_place v n d e t = go (place v n) refl e
    where
      go : (p : Place) → place v n ≡ p → d ≡ far p → (place v n ≡ At d) × (n ≤ 256)
      go (At q) r s = (r ∙ ap At (sym s), (inside v n q r).1)
      go Out r s = absurd (omega (arith, ltb-true d 256 t))

  no_place : (v : ℤ) (n d : ℕ) → d ≡ far (place v n) → ltb d 256 ≡ false → place v n ≡ Out
  unfolding far
  no_place v n d e t = go (place v n) refl e
    where
      go : (p : Place) → place v n ≡ p → d ≡ far p → place v n ≡ Out
      go (At q) r s = absurd (omega (arith, ltb-false d 256 t, (inside v n q r).0))
      go Out r s = r

  never : (p : Place) → onward p (λ i. Out) ≡ Out
  never (At d) = refl
  never Out = refl

  pub record_else : ((ltb i 256 && ltb j 256) && ltb k 256) ≡ false → record_of w x y z ≡ Out
  unfolding record_of
  record_else e = go (ltb i 256) refl (ltb j 256) refl (ltb k 256) refl e
    where
      go : (s : Bool) → ltb i 256 ≡ s → (t : Bool) → ltb j 256 ≡ t → (u : Bool) → ltb k 256 ≡ u → ((s && t) && u) ≡ false →
          record_of w x y z ≡ Out
      go false p t q u r e = rw (no_place (x -ℤ w.x) w.sx i a p)
      go true p false q u r e = rw (no_place (y -ℤ w.y) w.sy j b q) (never (place (x -ℤ w.x) w.sx))
      go true p true q false r e = rw ((is_place (x -ℤ w.x) w.sx i a p).0, (is_place (y -ℤ w.y) w.sy j b q).0, no_place (z -ℤ w.z) w.sz k c r)
      go true p true q true r e = absurd (let z : ◌≡◌ {A = ℕ} 0 1 = cc in omega arith)

  module _ (e : ((ltb i 256 && ltb j 256) && ltb k 256) ≡ true) where
    ij : (ltb i 256 && ltb j 256) ≡ true
    ij = (both (ltb i 256 && ltb j 256) (ltb k 256) e).0

    px : (place (x -ℤ w.x) w.sx ≡ At i) × (w.sx ≤ 256)
    px = is_place (x -ℤ w.x) w.sx i a (both (ltb i 256) (ltb j 256) ij).0

    py : (place (y -ℤ w.y) w.sy ≡ At j) × (w.sy ≤ 256)
    py = is_place (y -ℤ w.y) w.sy j b (both (ltb i 256) (ltb j 256) ij).1

    pz : (place (z -ℤ w.z) w.sz ≡ At k) × (w.sz ≤ 256)
    pz = is_place (z -ℤ w.z) w.sz k c (both (ltb i 256 && ltb j 256) (ltb k 256) e).1

    pub record_then : record_of w x y z ≡ At (i + w.sx * (k + w.sz * j))
    unfolding record_of
    record_then = rw (px.0, py.0, pz.0)

    -- a layer has at most 256 * 256 records, and the table at most 256 layers
    pub plane : w.sz * j ≤ 256 * 256
    plane = mul-le-mul {n₁ = w.sz} {m₁ = j} {n₂ = 256} {m₂ = 256} pz.1 (omega (arith, ltb-true j 256 (both (ltb i 256) (ltb j 256) ij).1))

    pub deep : k + w.sz * j ≤ 256 + 256 * 256
    deep = omega (arith, plane, ltb-true k 256 (both (ltb i 256 && ltb j 256) (ltb k 256) e).1)

    pub whole : i + w.sx * (k + w.sz * j) ≤ 256 + 256 * (256 + 256 * 256)
    whole =
        let m : w.sx * (k + w.sz * j) ≤ 256 * (256 + 256 * 256) = mul-le-mul {n₁ = w.sx} {m₁ = k + w.sz * j} {n₂ = 256} {m₂ = 256 + 256 * 256} px.1 deep in
        omega (arith, m, ltb-true i 256 (both (ltb i 256) (ltb j 256) ij).0)

-- ---- a cell, by the tests on the tables

-- a bit times a count
pub bit_least : (b n : ℕ) → b < 2 → b * n ≤ n
bit_least zero n h = omega arith
bit_least (suc zero) n h = omega arith
bit_least (suc (suc b)) n h = absurd (omega arith)

pub bit_times : (b n : ℕ) → b < 2 → b * n ≡ cond (eqb b 1) n 0
bit_times zero n h = omega arith
bit_times (suc zero) n h = omega arith
bit_times (suc (suc b)) n h = absurd (omega arith)

pub bit_not : (b : ℕ) → b < 2 → eqb b 0 ≡ not (eqb b 1)
bit_not zero h = refl
bit_not (suc zero) h = refl
bit_not (suc (suc b)) h = absurd (omega arith)

pub by_entry : (cells perms shapes : List ℕ) (p : Place) → cell_in cells perms shapes p ≡ known_by (entry_in cells p) (λ state shape. known perms shapes state shape)
unfolding cell_in entry_in
by_entry cells perms shapes (At i) = refl
by_entry cells perms shapes Out = refl

module _ (perms shapes : List ℕ) (state shape : ℕ) where
  pub no_state : length perms ≤ state → known perms shapes state shape ≡ None
  unfolding known
  no_state h = rw (le-ltb state (length perms) h)

  pub by_shape : state < length perms →
      known perms shapes state shape ≡ known_by (entry_at shapes shape) (λ first count. Some (of_parts (get_or perms state 0) first count state))
  unfolding known
  by_shape h = rw (lt-ltb state (length perms) h)
