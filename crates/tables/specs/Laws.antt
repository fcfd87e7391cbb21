-- Laws of bad worlds: what the loops go by, that the order of the tests does not matter, and what a world that is not bad is.
use Prim.Native.Nat.{ℕ, zero, suc, ◌+◌, ◌*◌, ◌%◌, ◌<◌}
use Rattle.std.proofs.Common.{add-one, arith, add-zero, zero-add, sym, ap, ◌∙◌, eq-eqb, ne_eqb, eqb-true}
use Rattle.std.specs.List.{list_any, range_with_len}
use Rattle.std.specs.Prelude.{◌≡◌, Some, Bool, ◌&&◌, ◌||◌, List, eqb, length, Float}
use Rattle.std.proofs.Math.Path.{refl}
use Rattle.std.proofs.Math.Bool.{true, false, not, and-false, or-false, or-true}
use Rattle.std.proofs.lemmas.Bool.{eqb-false}
use Rattle.std.specs.Float.{nan, inf, fin}
use Rattle.std.specs.Float.Ieee.{of_bits, neg, le, lt, eq}
use Rattle.std.specs.Float.Ieee.Scale.{finite}
use Rattle.world.specs.declared.Point.{Point}
use Rattle.world.specs.declared.Aabb.{Aabb}
use Rattle.world.specs.declared.Window.{Window}
use Rattle.world.specs.Space.{entry_at, box_here}
use Rattle.world.specs.Laws.{entry_is, box_is}
use Rattle.world.specs.Sizes.{size_above}
use Rattle.tables.specs.BadWorld.{from_to, each_of, each, ordered, box_rule, cell_bytes, not_whole, records, some, count_above, run_past, off_rule, bad_world, bad_run, bad_shape}

-- ---- the box rule: a number from -16 to 16 is finite

from_to_finite : (x : Float) → finite x && from_to x ≡ from_to x
unfolding from_to le lt eq neg of_bits
from_to_finite nan = refl
from_to_finite (inf true) = refl
from_to_finite (inf false) = refl
from_to_finite (fin s m e) = refl

-- two tests that pass wherever two others do
shuffle : (a b c d : Bool) → (a && b) && (c && d) ≡ (a && c) && (b && d)
shuffle true true c d = refl
shuffle true false c d = sym (and-false c)
shuffle false b c d = refl

both : (a b c d : Bool) → a && c ≡ c → b && d ≡ d → (a && b) && (c && d) ≡ c && d
both a b c d e f = shuffle a b c d ∙ rw (e, f)

of_point : (p : Point) → each_of finite p && each_of from_to p ≡ each_of from_to p
unfolding each_of
of_point p =
    both (finite p.x && finite p.y) (finite p.z) (from_to p.x && from_to p.y) (from_to p.z)
    (both (finite p.x) (finite p.y) (from_to p.x) (from_to p.y) (from_to_finite p.x) (from_to_finite p.y))
    (from_to_finite p.z)

of_box : (b : Aabb) → each finite b && each from_to b ≡ each from_to b
unfolding each
of_box b = both (each_of finite b.min) (each_of finite b.max) (each_of from_to b.min) (each_of from_to b.max) (of_point b.min) (of_point b.max)

pub rule_is : (b : Aabb) → ordered b && each from_to b ≡ box_rule b
unfolding box_rule
rule_is b = sym (go (each finite b) (ordered b) (each from_to b) (of_box b))
  where
    go : (f o g : Bool) → f && g ≡ g → f && o && g ≡ o && g
    go true o g e = refl
    go false true g e = e
    go false false g e = refl

-- ---- one of the numbers below n

module _ (f : ℕ → Bool) where
  pub none_below : some f 0 ≡ false
  unfolding some
  none_below = refl

  pub none_more : (n : ℕ) → some f n ≡ false → f n ≡ false → some f (n + 1) ≡ false
  unfolding some
  none_more n e h = rw (add-one, e, h)

  -- the last one is it, or one before
  last : (n i : ℕ) → i < suc n → f i ≡ true → (i < n → some f n ≡ true) → some f n || f n ≡ true
  last n i h e below = go (eqb i n) refl
    where
      go : (b : Bool) → eqb i n ≡ b → some f n || f n ≡ true
      go true p = let here : f n ≡ true = ap f (sym (eqb-true i n p)) ∙ e in rw here (or-true (some f n))
      go false p = rw (below (omega (arith, eqb-false i n p)))

  pub one_found : (n i : ℕ) → i < n → f i ≡ true → some f n ≡ true
  unfolding some
  one_found zero i h e = absurd (omega arith)
  one_found (suc n) i h e = last n i h e (λ l. one_found n i l e)

  -- none is, exactly where each is not
  pub none_is : (n : ℕ) → ((i : ℕ) → i < n → f i ≡ false) → some f n ≡ false
  unfolding some
  none_is zero h = refl
  none_is (suc n) h = rw (none_is n (λ i l. h i (omega arith)), h n (omega arith))

  pub is_none : (n : ℕ) → some f n ≡ false → (i : ℕ) → i < n → f i ≡ false
  is_none n e i h = go (f i) refl
    where
      go : (b : Bool) → f i ≡ b → f i ≡ false
      go false p = p
      go true p = absurd (let z : true ≡ false = sym (one_found n i h p) ∙ e in let y : ◌≡◌ {A = ℕ} 0 1 = cc in omega arith)

-- one of two tests is true of one of them exactly where the one is of one or the other is
pub some_or : (f g : ℕ → Bool) (n : ℕ) → some (λ i. f i || g i) n ≡ some f n || some g n
unfolding some
some_or f g zero = refl
some_or f g (suc n) = rw (some_or f g n) (go (some f n) (some g n) (f n) (g n))
  where
    go : (a b c d : Bool) → (a || b) || (c || d) ≡ (a || c) || (b || d)
    go true b c d = refl
    go false true true d = refl
    go false true false d = refl
    go false false c d = refl

-- one of the list of the numbers below n is it exactly where one of the numbers is
module _ (f : ℕ → Bool) where
  any_more : (k n : ℕ) → list_any f (range_with_len k (suc n)) ≡ list_any f (range_with_len k n) || f (k + n)
  any_more k zero = rw (add-zero, or-false) refl
  any_more k (suc n) = let e : k + 1 + n ≡ k + suc n = omega arith in rw (any_more (k + 1) n, e) (assoc (f k) (list_any f (range_with_len (k + 1) n)) (f (k + suc n)))
    where
      assoc : (a b c : Bool) → a || (b || c) ≡ (a || b) || c
      assoc true b c = refl
      assoc false b c = refl

  pub any_is : (n : ℕ) → list_any f (range_with_len 0 n) ≡ some f n
  unfolding some
  any_is zero = refl
  any_is (suc n) = any_more 0 n ∙ rw (any_is n, zero-add)

-- ---- a record, as the code read it

pub run_is : (shapes : List ℕ) (boxes i a b : ℕ) → entry_at shapes i ≡ Some (a, b) → bad_run boxes a b ≡ bad_shape shapes boxes i
run_is shapes boxes i a b e = let h = entry_is shapes i a b e in rw (h.1, h.2)

pub rule_at : (boxes : List ℕ) (i : ℕ) (b : Aabb) → box_here boxes (48 * i) ≡ Some b → not (box_rule b) ≡ off_rule boxes i
rule_at boxes i b e = rw (box_is boxes (48 * i) b e).1

-- ---- the tables

module _ (w : Window) (cells shapes boxes : List ℕ) where
  -- by both of a shape's conditions at once
  abbrev shapes_bad : Bool
  shapes_bad = some (bad_shape shapes (records 48 boxes)) (records 8 shapes)

  together : shapes_bad ≡ some (count_above shapes) (records 8 shapes) || some (run_past shapes (records 48 boxes)) (records 8 shapes)
  unfolding bad_run
  together = some_or (count_above shapes) (run_past shapes (records 48 boxes)) (records 8 shapes)

  -- the six conditions, with a shape's two together
  pub in_order : size_above w || not (eqb (length cells) (cell_bytes w)) || not_whole 8 shapes || not_whole 48 boxes || shapes_bad || some (off_rule boxes) (records 48 boxes) ≡ bad_world w cells shapes boxes
  unfolding bad_world
  in_order = rw together (go (size_above w || not (eqb (length cells) (cell_bytes w)) || not_whole 8 shapes || not_whole 48 boxes) (some (count_above shapes) (records 8 shapes)) (some (run_past shapes (records 48 boxes)) (records 8 shapes)) (some (off_rule boxes) (records 48 boxes)))
    where
      go : (a b c d : Bool) → a || (b || c) || d ≡ a || b || c || d
      go true b c d = refl
      go false b c d = refl

  -- as the code goes: each test, where those before it failed
  pub bad_size : size_above w ≡ true → true ≡ bad_world w cells shapes boxes
  bad_size a = rw a at in_order

  module _ (a : size_above w ≡ false) where
    pub bad_cells : (length cells ≡ cell_bytes w → ⊥) → true ≡ bad_world w cells shapes boxes
    bad_cells b = rw (a, ne_eqb (length cells) (cell_bytes w) b) at in_order

    module _ (b : length cells ≡ cell_bytes w) where
      pub part_shapes : (length shapes % 8 ≡ 0 → ⊥) → true ≡ bad_world w cells shapes boxes
      part_shapes c = rw (a, eq-eqb (length cells) (cell_bytes w) b, ne_eqb (length shapes % 8) 0 c) at in_order

      module _ (c : length shapes % 8 ≡ 0) where
        pub part_boxes : (length boxes % 48 ≡ 0 → ⊥) → true ≡ bad_world w cells shapes boxes
        part_boxes d = rw (a, eq-eqb (length cells) (cell_bytes w) b, eq-eqb (length shapes % 8) 0 c, ne_eqb (length boxes % 48) 0 d) at in_order

        module _ (d : length boxes % 48 ≡ 0) where
          by_records : shapes_bad || some (off_rule boxes) (records 48 boxes) ≡ bad_world w cells shapes boxes
          by_records = rw (a, eq-eqb (length cells) (cell_bytes w) b, eq-eqb (length shapes % 8) 0 c, eq-eqb (length boxes % 48) 0 d) at in_order

          pub bad_shape_lem : shapes_bad ≡ true → true ≡ bad_world w cells shapes boxes
          bad_shape_lem e = rw e at by_records

          pub by_boxes : shapes_bad ≡ false → some (off_rule boxes) (records 48 boxes) ≡ bad_world w cells shapes boxes
          by_boxes e = rw e at by_records
