-- Laws that the code's loops and branches go by.
use Rattle.std.specs.Prelude.{Option, Some, None, ℕ, ◌+◌, ◌-◌, ◌*◌, ◌≤◌, ◌<◌, ◌≡◌, Bool, ◌&&◌, cond, ltb, drop, Float, map}
use Rattle.std.proofs.Common.{arith, sym, true≢false, List, [], ◌∷◌, ltb-false}
use Rattle.std.proofs.Math.Path.{refl}
use Rattle.std.proofs.Math.Bool.{true, false}
use mathlib.Core.List.{foldl}
use Rattle.std.specs.Float.Ieee.{binary64, le, add, sub, is_nan}
use Rattle.floats.specs.Floats.{E}
use Rattle.floats.specs.Order.{le_left}
use Rattle.regions.specs.Ranges.{along}
use Rattle.world.specs.declared.Point.{Point}
use Rattle.world.specs.declared.Aabb.{Aabb}
use Rattle.world.specs.declared.Cell.{Cell}
use Rattle.world.specs.Boxes.{moved}
use Rattle.world.specs.Laws.{run_none as boxes_none, run_end as boxes_end, run_more as boxes_more}
use Rattle.world.specs.Space.{Space, Block, run, box_here, block_of}
use Rattle.heights.specs.declared.Band.{Band}
use Rattle.heights.specs.Heights.{reaches, tops_of, tops_in, tops}
use Rattle.heights.proofs.Next.{Numbers, numbers_gather}
use Rattle.heights.specs.Laws.{run_fold, with_box}

module _ {S : Type 0} (band : Band) (x z : Float) (g : S → Float → S) where
  -- ---- a run of boxes, moved by a point, over any fold of tops

  pub fold_cons : (t : S) (b : Aabb) (bs : List Aabb) → foldl g t (tops_of band x z (b ∷ bs)) ≡ foldl g (with_box band x z g t b) (tops_of band x z bs)
  unfolding tops_of
  fold_cons t b bs = pick (reaches band x z b)
    where
      pick : (r : Bool) → foldl g t (cond r (b.max.y ∷ tops_of band x z bs) (tops_of band x z bs)) ≡ foldl g (cond r (g t b.max.y) t) (tops_of band x z bs)
      pick true = refl
      pick false = refl

  module _ (by : Point) (t : S) (s : List ℕ) (at left : ℕ) where
    -- the table ends here
    pub run_end : box_here s at ≡ None → run_fold band x z g by t s left at ≡ t
    unfolding tops_of
    run_end e = rw (boxes_end s at left e)

    -- one box more
    pub run_on : (b : Aabb) → 0 < left → box_here s at ≡ Some b → run_fold band x z g by t s left at ≡ run_fold band x z g by (with_box band x z g t (moved b by)) s (left - 1) (at + 48)
    run_on b h e = rw (boxes_more s at left b h e) (fold_cons t (moved b by) _)

    -- no box is left
    pub run_none : left ≤ 0 → run_fold band x z g by t s left at ≡ t
    unfolding tops_of
    run_none h = let y : left ≡ 0 = omega arith in rw (y, boxes_none s at)

  -- ---- a cell, by the tests on it

  module _ (boxes : List ℕ) (p : Point) (t : S) where
    abbrev of_cell : Option Cell → S
    of_cell o = foldl g t (tops_in band x z (block_of boxes o p))

    pub unknown_none : of_cell None ≡ t
    unfolding tops_in block_of
    unknown_none = refl

    module _ (c : Cell) where
      abbrev own : List Aabb
      own = map (λ (b : Aabb). moved b p) (run c.count (drop (48 * c.first) boxes) 0)

      -- no support, or no box
      pub no_support : (c.support && ltb 0 c.count) ≡ false → of_cell (Some c) ≡ t
      unfolding tops_in block_of tops_of
      no_support e = go c.support e
        where
          go : (s : Bool) → (s && ltb 0 c.count) ≡ false → foldl g t (cond s (tops_of band x z own) []) ≡ t
          go false e = refl
          go true e = let y : c.count ≡ 0 = omega (arith, ltb-false 0 c.count e) in rw (y, boxes_none (drop (48 * c.first) boxes) 0)

      pub supports : (c.support && ltb 0 c.count) ≡ true → of_cell (Some c) ≡ foldl g t (tops_of band x z own)
      unfolding tops_in block_of
      supports e = go c.support e
        where
          go : (s : Bool) → (s && ltb 0 c.count) ≡ true → foldl g t (cond s (tops_of band x z own) []) ≡ foldl g t (tops_of band x z own)
          go true e = refl
          go false e = absurd (true≢false (sym e))

-- ---- a top that is in the band is no NaN

pub last_holds : (a b : Bool) → (a && b) ≡ true → b ≡ true
last_holds true b e = e
last_holds false true e = refl
last_holds false false e = e

module _ (band : Band) (x z : Float) where
  top_number : (b : Aabb) → reaches band x z b ≡ true → is_nan b.max.y ≡ false
  unfolding reaches
  top_number b e = le_left b.max.y (add binary64 band.high E)
      (last_holds (le b.min.x x && le x b.max.x && le b.min.z z && le z b.max.z && le (sub binary64 band.low E) b.max.y) (le b.max.y (add binary64 band.high E)) e)

  numbers_tops : (bs : List Aabb) → Numbers (tops_of band x z bs)
  unfolding tops_of
  numbers_tops [] = tt
  numbers_tops (b ∷ bs) = pick (reaches band x z b) (top_number b) (numbers_tops bs)
    where
      pick : (t : Bool) → (t ≡ true → is_nan b.max.y ≡ false) → Numbers (tops_of band x z bs) → Numbers (cond t (b.max.y ∷ tops_of band x z bs) (tops_of band x z bs))
      pick true f r = (f refl, r)
      pick false f r = r

  numbers_in : (b : Block) → Numbers (tops_in band x z b)
  unfolding tops_in
  numbers_in b = pick b.support
    where
      pick : (t : Bool) → Numbers (cond t (tops_of band x z b.boxes) [])
      pick true = numbers_tops b.boxes
      pick false = tt

  pub numbers : (sp : Space) → Numbers (tops sp band x z)
  unfolding tops along
  numbers sp = numbers_gather _ (λ k. numbers_in _) 0 _
