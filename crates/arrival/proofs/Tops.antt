-- No box top of a world is -0.0, whatever its tables hold, because a cell's position is never -0.0. So tops that are equal as numbers are one float, and it is
-- all one whether they are sorted by number or by the total order of floats.
use Rattle.std.proofs.Common.{ℕ, zero, suc, ◌+◌, ◌*◌, sym, ap, ◌∙◌, arith, List, [], ◌∷◌, ◌++◌, map}
use Rattle.std.specs.Prelude.{◌≡◌, refl, Bool, cond, T, ℤ, drop, Float, Option, Some, None}
use Rattle.std.proofs.Math.Bool.{true, false}
use mathlib.Core.List.{Memᴰ}
use Rattle.std.specs.Float.{nan, inf, fin, binary64}
use Rattle.std.specs.Float.Ieee.{fits, eq, of_int}
use Rattle.std.specs.Float.Ieee.Bits.{of_bits-fits}
use Rattle.std.specs.Float.Ieee.Fits.{add-fits, of_int-fits}
use Rattle.floats.specs.Floats.{canonical}
use Rattle.fields.specs.Little.{fits_at, float_field}
use Rattle.regions.specs.Ranges.{gather, along}
use Rattle.world.specs.declared.Aabb.{Aabb}
use Rattle.world.specs.declared.Window.{Window}
use Rattle.world.specs.declared.Cell.{Cell}
use Rattle.world.specs.Boxes.{plus, moved, corner, cube}
use Rattle.world.specs.Space.{Space, Block, box_at, box_here, ahead, run, block_of, space}
use Rattle.heights.specs.declared.Band.{Band}
use Rattle.heights.specs.Heights.{reaches, tops_of, tops_in, tops}
use Rattle.arrival.specs.Exact.{unit_exponent}
use Rattle.arrival.specs.MinusZero.{minus_zero, is_minus_zero}
use Rattle.arrival.proofs.MinusZero.{not_minus, sum_not_minus, whole_not_minus}
use Rattle.arrival.specs.Lifts.{same_number}

-- an f64 that is not -0.0
pub record Plain (t : Float) : Type 0 where
  pub fits_64 : T (fits binary64 t)
  pub not_minus_zero : is_minus_zero t ≡ false

-- such floats that are equal as numbers are one
plain_own : (t : Float) → Plain t → canonical t ≡ t
unfolding canonical fits
plain_own nan p = refl
plain_own (inf s) p = refl
plain_own (fin true zero e) p = absurd (let z = p.not_minus_zero in let y : ◌≡◌ {A = ℕ} 0 1 = cc in omega arith)
plain_own (fin false zero e) p = ap (fin false zero) (sym (unit_exponent e p.fits_64))
plain_own (fin s (suc m) e) p = refl

one_float : (t u : Float) → Plain t → Plain u → eq t u ≡ true → t ≡ u
one_float t u p q e = sym (plain_own t p) ∙ same_number t u p.fits_64 q.fits_64 e ∙ plain_own u q

-- each of a list
module _ {A : Type 0} (P : A → Type 0) where
  abbrev Each : List A → Type 0
  Each [] = Unit {0}
  Each (x ∷ xs) = (P x) × Each xs

  each_one : (xs : List A) → Each xs → (x : A) → Memᴰ x xs → P x
  each_one [] h x x4 = elim x4 [ ]
  each_one (y ∷ xs) h x (Memᴰ.head e) = rw e h.0
  each_one (y ∷ xs) h x (Memᴰ.tail m) = each_one xs h.1 x m

  each_append : (xs ys : List A) → Each xs → Each ys → Each (xs ++ ys)
  each_append [] ys h k = k
  each_append (x ∷ xs) ys h k = (h.0, each_append xs ys h.1 k)

  each_gather : (f : ℕ → List A) → ((k : ℕ) → Each (f k)) → (k n : ℕ) → Each (gather f k n)
  unfolding gather
  each_gather f h k zero = tt
  each_gather f h k (suc n) = each_append (f k) (gather f (suc k) n) (h k) (each_gather f h (suc k) n)

-- ---- the boxes of a cell

abbrev PlainTop : Aabb → Type 0
PlainTop b = Plain b.max.y

-- a box of f64s, moved by a cell's position
abbrev HeldTop : Aabb → Type 0
HeldTop b = T (fits binary64 b.max.y)

moved_top : (b : Aabb) (x y z : ℤ) → HeldTop b → PlainTop (moved b (corner x y z))
unfolding moved plus corner
moved_top b x y z h = record {
  fits_64 = add-fits binary64 b.max.y (of_int binary64 y);
  not_minus_zero = sum_not_minus b.max.y (of_int binary64 y) h (of_int-fits binary64 y) (whole_not_minus y);
}

box_held : (s : List ℕ) (at : ℕ) → HeldTop (box_at s at)
unfolding box_at float_field
box_held s at = of_bits-fits binary64 _

run_held : (n : ℕ) (s : List ℕ) (at : ℕ) → Each HeldTop (run n s at)
unfolding run box_here
run_held zero s at = tt
run_held (suc n) s at = go (fits_at 48 s at) (run_held n s (at + 48))
  where
    go : (b : Bool) → Each HeldTop (run n s (at + 48)) → Each HeldTop (ahead (cond b (Some (box_at s at)) None) (run n s (at + 48)))
    go true rest = (box_held s at, rest)
    go false rest = tt

all_moved : (x y z : ℤ) (bs : List Aabb) → Each HeldTop bs → Each PlainTop (map (λ (b : Aabb). moved b (corner x y z)) bs)
all_moved x y z [] h = tt
all_moved x y z (b ∷ bs) h = (moved_top b x y z h.0, all_moved x y z bs h.1)

block_tops : (boxes : List ℕ) (c : Option Cell) (x y z : ℤ) → Each PlainTop (block_of boxes c (corner x y z)).boxes
unfolding block_of cube
block_tops boxes None x y z = (moved_top cube x y z (of_bits-fits binary64 _), tt)
block_tops boxes (Some c) x y z = all_moved x y z (run c.count (drop (48 * c.first) boxes) 0) (run_held c.count (drop (48 * c.first) boxes) 0)

-- ---- the theorems, of any tables

module _ (w : Window) (cells perms shapes boxes : List ℕ) where
  abbrev world : Space
  world = space w cells perms shapes boxes

  all_tops : (x y z : ℤ) → Each PlainTop (world x y z).boxes
  unfolding space
  all_tops x y z = block_tops boxes _ x y z

  pub no_top_is_minus_zero : (x y z : ℤ) (b : Aabb) → Memᴰ b (world x y z).boxes → b.max.y ≡ minus_zero → ⊥
  no_top_is_minus_zero x y z b m e = not_minus b.max.y (each_one PlainTop (world x y z).boxes (all_tops x y z) b m).not_minus_zero e

  -- so of the tops that a step may go to
  module _ (band : Band) (x z : Float) where
    tops_of_lem : (bs : List Aabb) → Each PlainTop bs → Each Plain (tops_of band x z bs)
    unfolding tops_of
    tops_of_lem [] h = tt
    tops_of_lem (b ∷ bs) h = go (reaches band x z b) (tops_of_lem bs h.1)
      where
        go : (q : Bool) → Each Plain (tops_of band x z bs) → Each Plain (cond q (b.max.y ∷ tops_of band x z bs) (tops_of band x z bs))
        go true rest = (h.0, rest)
        go false rest = rest

    tops_in_lem : (c : Block) → Each PlainTop c.boxes → Each Plain (tops_in band x z c)
    unfolding tops_in
    tops_in_lem c h = go c.support
      where
        go : (q : Bool) → Each Plain (cond q (tops_of band x z c.boxes) [])
        go true = tops_of_lem c.boxes h
        go false = tt

    plain_tops : Each Plain (tops world band x z)
    unfolding tops along
    plain_tops = each_gather Plain _ (λ k. tops_in_lem _ (all_tops _ _ _)) 0 _

    pub equal_tops_are_one : (t u : Float) → Memᴰ t (tops world band x z) → Memᴰ u (tops world band x z) → eq t u ≡ true → t ≡ u
    equal_tops_are_one t u m n e =
        let p = each_one Plain (tops world band x z) plain_tops t m in
        let q = each_one Plain (tops world band x z) plain_tops u n in
        one_float t u p q e
