-- A good world, in facts: what `bad_world` refuses, said the other way round, for those who read good tables or make them.
use Rattle.std.specs.Prelude.{ℕ, ◌+◌, ◌*◌, ◌%◌, ◌≤◌, ◌<◌, ◌≡◌, refl, Bool, true, false, ◌||◌, List, eqb, length}
use Rattle.std.proofs.Math.Path.{ap}
use Rattle.std.proofs.Math.Bool.{not}
use Rattle.std.proofs.Common.{true≢false}
use borrow.Author.Tests.{le-ltb, ltb-false, eq-eqb, eqb-true, not-false}
use Rattle.world.specs.declared.Window.{Window}
use Rattle.world.specs.Space.{first_of, count_of, box_at}
use Rattle.world.specs.Sizes.{size_above, Sizes, sizes_of}
use Rattle.tables.specs.BadWorld.{box_rule, cell_bytes, not_whole, records, some, count_above, run_past, off_rule, bad_world}
use Rattle.tables.specs.Laws.{none_is, is_none}

pub record GoodWorld (w : Window) (cells shapes boxes : List ℕ) : Type 0 where
  pub sizes : Sizes w
  pub eight_a_cell : length cells ≡ cell_bytes w
  pub whole_shapes : length shapes % 8 ≡ 0
  pub whole_boxes : length boxes % 48 ≡ 0
  pub counts : (i : ℕ) → i < records 8 shapes → count_of shapes i ≤ 16
  pub runs : (i : ℕ) → i < records 8 shapes → first_of shapes i + count_of shapes i ≤ records 48 boxes
  pub rules : (i : ℕ) → i < records 48 boxes → box_rule (box_at boxes (48 * i)) ≡ true

-- where none of seven tests passes, each one fails
each_fails : (a b c d e f g : Bool) → a || b || c || d || e || f || g ≡ false →
    (a ≡ false) × (b ≡ false) × (c ≡ false) × (d ≡ false) × (e ≡ false) × (f ≡ false) × (g ≡ false)
each_fails false false false false false false false h = (refl, refl, refl, refl, refl, refl, refl)
each_fails false false false false false false true h = absurd (true≢false h)
each_fails false false false false false true g h = absurd (true≢false h)
each_fails false false false false true f g h = absurd (true≢false h)
each_fails false false false true e f g h = absurd (true≢false h)
each_fails false false true d e f g h = absurd (true≢false h)
each_fails false true c d e f g h = absurd (true≢false h)
each_fails true b c d e f g h = absurd (true≢false h)

module _ (w : Window) (cells shapes boxes : List ℕ) where
  pub good_is_not_bad : GoodWorld w cells shapes boxes → bad_world w cells shapes boxes ≡ false
  unfolding bad_world size_above
  good_is_not_bad g = rw (
    le-ltb 256 w.sx g.sizes.sx,
    le-ltb 256 w.sy g.sizes.sy,
    le-ltb 256 w.sz g.sizes.sz,
    eq-eqb (length cells) (cell_bytes w) g.eight_a_cell,
    eq-eqb (length shapes % 8) 0 g.whole_shapes,
    eq-eqb (length boxes % 48) 0 g.whole_boxes,
    none_is (count_above shapes) (records 8 shapes) (λ i h. le-ltb 16 (count_of shapes i) (g.counts i h)),
    none_is (run_past shapes (records 48 boxes)) (records 8 shapes) (λ i h. le-ltb (records 48 boxes) (first_of shapes i + count_of shapes i) (g.runs i h)),
    none_is (off_rule boxes) (records 48 boxes) (λ i h. ap not (g.rules i h)),
  )

  pub not_bad_is_good : bad_world w cells shapes boxes ≡ false → GoodWorld w cells shapes boxes
  unfolding bad_world
  not_bad_is_good e =
      let t =
      each_fails (size_above w) (not (eqb (length cells) (cell_bytes w))) (not_whole 8 shapes) (not_whole 48 boxes)
      (some (count_above shapes) (records 8 shapes)) (some (run_past shapes (records 48 boxes)) (records 8 shapes)) (some (off_rule boxes) (records 48 boxes)) e in
      record {
        sizes = sizes_of w t.0;
        eight_a_cell = eqb-true (length cells) (cell_bytes w) (not-false _ t.1);
        whole_shapes = eqb-true (length shapes % 8) 0 (not-false _ t.2);
        whole_boxes = eqb-true (length boxes % 48) 0 (not-false _ t.3);
        counts = λ i h. ltb-false 16 (count_of shapes i) (is_none (count_above shapes) (records 8 shapes) t.4 i h);
        runs = λ i h.
            ltb-false (records 48 boxes) (first_of shapes i + count_of shapes i)
            (is_none (run_past shapes (records 48 boxes)) (records 8 shapes) t.5 i h);
        rules = λ i h. not-false _ (is_none (off_rule boxes) (records 48 boxes) t.6 i h);
      }
