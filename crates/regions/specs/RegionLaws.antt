-- Laws of regions: a loop begins with all cells, and each turn of it takes one of them.
use Prim.Native.Nat.{ℕ, zero, suc, ◌+◌, ◌<◌}
use Rattle.std.proofs.Math.ListN.{length}
use Rattle.std.specs.List.{All}
use Rattle.std.specs.Prelude.{◌≡◌, Option, Some, None, Bool, ◌&&◌, cond, ℤ, ◌+ℤ◌, ◌-ℤ◌}
use Rattle.std.proofs.Common.{arith, sym, ◌∙◌}
use Rattle.std.proofs.Math.Path.{refl, ap}
use Rattle.std.proofs.Math.Bool.{true, false}
use mathlib.Core.List.{List, [], ◌∷◌, ◌++◌, append_assoc}
use Rattle.std.proofs.Math.IntN.{pos, negsuc}
use Rattle.std.specs.Int.Signed.{lt_z, le_z}
use Rattle.regions.specs.declared.Range.{Range}
use Rattle.regions.specs.declared.Region.{Region}
use Rattle.regions.specs.declared.Spot.{Spot}
use Rattle.std.proofs.lemmas.List.Elements.{All-nil, All-cons, All-append}
use Rattle.cells.specs.Parts.{over, under, sum, difference, lt_yes, lt_no, le_yes, le_is}
use Rattle.regions.specs.Ranges.{range, count, gather, along}
use Rattle.regions.specs.Regions.{cells_of, first_in, next_in, row_from, layer_from, layers_from, from, to_come, Within, Inside, Proper}
use Rattle.regions.specs.RangeLaws.{along_more, along_none, along_empty}

-- a loop's next cell follows one: the cells from that one on are it and those that the loop then has before it
abbrev Follows : Region → Spot → Option Spot → Type 0
Follows r p c = (from r p ≡ p ∷ to_come r c) × Proper r c

-- where a loop has no next cell, nothing is asked of one
none_left : (r : Region) → Proper r None
none_left r = tt

-- ---- the number after one of a range, and the first of a range

module _ (r : Range) (k : ℤ) where
  below_next : lt_z k r.last ≡ true → le_z (k +ℤ pos 1) r.last ≡ true
  below_next e = le_is (k +ℤ pos 1) r.last (omega (arith, sum k (pos 1), lt_yes k r.last e))

  past_last : lt_z k r.last ≡ false → le_z (k +ℤ pos 1) r.last ≡ false
  past_last e = go (le_z (k +ℤ pos 1) r.last) refl
    where
      go : (b : Bool) → le_z (k +ℤ pos 1) r.last ≡ b → le_z (k +ℤ pos 1) r.last ≡ false
      go false p = p
      go true p = absurd (omega (arith, sum k (pos 1), lt_no k r.last e, le_yes (k +ℤ pos 1) r.last p))

  next_within : Within r k → lt_z k r.last ≡ true → Within r (k +ℤ pos 1)
  next_within h e = record { low = le_is r.first (k +ℤ pos 1) (omega (arith, sum k (pos 1), le_yes r.first k h.low)); high = below_next e }

first_within : (r : Range) → le_z r.first r.last ≡ true → Within r r.first
first_within r e = record { low = le_is r.first r.first (omega arith); high = e }

-- a range that has a number has a first one
some_first : (r : Range) (k : ℤ) → Within r k → le_z r.first r.last ≡ true
some_first r k h = le_is r.first r.last (omega (arith, le_yes r.first k h.low, le_yes k r.last h.high))

module _ (r : Region) where
  -- ---- the first of what is to come

  row_more : (y z x : ℤ) → le_z x r.xs.last ≡ true → row_from r y z x ≡ record { x = x; y = y; z = z } ∷ row_from r y z (x +ℤ pos 1)
  unfolding row_from
  row_more y z x e = along_more _ x r.xs.last e

  row_none : (y z x : ℤ) → le_z x r.xs.last ≡ false → row_from r y z x ≡ []
  unfolding row_from
  row_none y z x e = along_none _ x r.xs.last e

  layer_more : (y z : ℤ) → le_z z r.zs.last ≡ true → layer_from r y z ≡ row_from r y z r.xs.first ++ layer_from r y (z +ℤ pos 1)
  unfolding layer_from
  layer_more y z e = along_more _ z r.zs.last e

  layer_none : (y z : ℤ) → le_z z r.zs.last ≡ false → layer_from r y z ≡ []
  unfolding layer_from
  layer_none y z e = along_none _ z r.zs.last e

  layers_more : (y : ℤ) → le_z y r.ys.last ≡ true → layers_from r y ≡ layer_from r y r.zs.first ++ layers_from r (y +ℤ pos 1)
  unfolding layers_from
  layers_more y e = along_more _ y r.ys.last e

  layers_none : (y : ℤ) → le_z y r.ys.last ≡ false → layers_from r y ≡ []
  unfolding layers_from
  layers_none y e = along_none _ y r.ys.last e

  -- a row and a layer from their beginnings on
  abbrev corner : ℤ → ℤ → Spot
  corner y z = record { x = r.xs.first; y = y; z = z }

  layer_from_lem : (y z : ℤ) → le_z z r.zs.last ≡ true → layer_from r y z ++ layers_from r (y +ℤ pos 1) ≡ from r (corner y z)
  unfolding from
  layer_from_lem y z e = rw (layer_more y z e) (append_assoc (row_from r y z r.xs.first) (layer_from r y (z +ℤ pos 1)) (layers_from r (y +ℤ pos 1)))

  layers_from_lem : (y : ℤ) → le_z y r.ys.last ≡ true → le_z r.zs.first r.zs.last ≡ true → layers_from r y ≡ from r (corner y r.zs.first)
  layers_from_lem y e f = layers_more y e ∙ layer_from_lem y r.zs.first f

  -- ---- where an axis has no cells, there are none

  no_rows : le_z r.xs.first r.xs.last ≡ false → (y z : ℤ) → layer_from r y z ≡ []
  unfolding layer_from
  no_rows e y z = along_empty _ z r.zs.last (λ k. row_none y k r.xs.first e)

  no_layers : ((y : ℤ) → layer_from r y r.zs.first ≡ []) → (y : ℤ) → layers_from r y ≡ []
  unfolding layers_from
  no_layers h y = along_empty _ y r.ys.last h

  -- ---- the first cell

  pub begins : (to_come r (first_in r) ≡ cells_of r) × Proper r (first_in r)
  unfolding cells_of first_in layers_from layer_from row_from
  begins = go (le_z r.ys.first r.ys.last) refl (le_z r.zs.first r.zs.last) refl (le_z r.xs.first r.xs.last) refl
    where
      first : Spot
      first = corner r.ys.first r.zs.first

      go : (a : Bool) → le_z r.ys.first r.ys.last ≡ a → (b : Bool) → le_z r.zs.first r.zs.last ≡ b → (c : Bool) → le_z r.xs.first r.xs.last ≡ c →
          (to_come r (cond (a && b && c) (Some first) None) ≡ layers_from r r.ys.first) × Proper r (cond (a && b && c) (Some first) None)
      go true p true q true s = (
        sym (layers_from_lem r.ys.first p q),
        record { y = first_within r.ys p; z = first_within r.zs q; x = first_within r.xs s },
      )
      go true p true q false s = (sym (no_layers (λ y. no_rows s y r.zs.first) r.ys.first), tt)
      go true p false q c s = (sym (no_layers (λ y. layer_none y r.zs.first q) r.ys.first), tt)
      go false p b q c s = (sym (layers_none r.ys.first p), tt)

  -- ---- the next cell: of its row, else of its layer, else of the layer above, else none

  module _ (p : Spot) (h : Inside r p) where
    row_next : row_from r p.y p.z p.x ≡ p ∷ row_from r p.y p.z (p.x +ℤ pos 1)
    row_next = row_more p.y p.z p.x h.x.high

    next_x : lt_z p.x r.xs.last ≡ true → Follows r p (Some (record { x = p.x +ℤ pos 1; y = p.y; z = p.z }))
    unfolding from
    next_x e = (rw row_next, record { y = h.y; z = h.z; x = next_within r.xs p.x h.x e })

    module _ (e : lt_z p.x r.xs.last ≡ false) where
      -- the row ends with this cell
      row_ends : from r p ≡ p ∷ (layer_from r p.y (p.z +ℤ pos 1) ++ layers_from r (p.y +ℤ pos 1))
      unfolding from
      row_ends = rw (row_next, row_none p.y p.z (p.x +ℤ pos 1) (past_last r.xs p.x e))

      first_x : Within r.xs r.xs.first
      first_x = first_within r.xs (some_first r.xs p.x h.x)

      next_z : lt_z p.z r.zs.last ≡ true → Follows r p (Some (corner p.y (p.z +ℤ pos 1)))
      next_z f = (
        row_ends ∙ ap (λ (l : List Spot). p ∷ l) (layer_from_lem p.y (p.z +ℤ pos 1) (below_next r.zs p.z f)),
        record { y = h.y; z = next_within r.zs p.z h.z f; x = first_x },
      )

      module _ (f : lt_z p.z r.zs.last ≡ false) where
        -- the layer ends with it too
        layer_ends : from r p ≡ p ∷ layers_from r (p.y +ℤ pos 1)
        layer_ends = row_ends ∙ rw (layer_none p.y (p.z +ℤ pos 1) (past_last r.zs p.z f))

        next_y : lt_z p.y r.ys.last ≡ true → Follows r p (Some (corner (p.y +ℤ pos 1) r.zs.first))
        next_y g = (
          layer_ends ∙ ap (λ (l : List Spot). p ∷ l) (layers_from_lem (p.y +ℤ pos 1) (below_next r.ys p.y g) (some_first r.zs p.z h.z)),
          record { y = next_within r.ys p.y h.y g; z = first_within r.zs (some_first r.zs p.z h.z); x = first_x },
        )

        next_none : lt_z p.y r.ys.last ≡ false → Follows r p None
        next_none g = (layer_ends ∙ rw (layers_none (p.y +ℤ pos 1) (past_last r.ys p.y g)), tt)

    follows : Follows r p (next_in r p)
    unfolding next_in
    follows = go (lt_z p.x r.xs.last) refl (lt_z p.z r.zs.last) refl (lt_z p.y r.ys.last) refl
      where
        go : (a : Bool) → lt_z p.x r.xs.last ≡ a → (b : Bool) → lt_z p.z r.zs.last ≡ b → (c : Bool) → lt_z p.y r.ys.last ≡ c → Follows r p (next_in r p)
        go true e b f c g = rw e (next_x e)
        go false e true f c g = rw (e, f) (next_z e f)
        go false e false f true g = rw (e, f, g) (next_y e f g)
        go false e false f false g = rw (e, f, g) (next_none e f g)

-- ---- a turn of a loop takes the next cell of those that are left, and leaves the others

pub turn : (r : Region) (c d : Option Spot) (p : Spot) → c ≡ Some p → Proper r c → d ≡ next_in r p → (to_come r c ≡ p ∷ to_come r d) × Proper r d
turn r c d p e h n = let i : Inside r p = rw e at h in rw (e, n) (follows r p i)

-- the same, one by one: the beginning, the end, and a turn

pub begun : (r : Region) (c : Option Spot) → c ≡ first_in r → (to_come r c ≡ cells_of r) × Proper r c
begun r c e = rw e (begins r)

pub ended : (r : Region) (c : Option Spot) → c ≡ None → to_come r c ≡ []
ended r c e = rw e refl

module _ (r : Region) (c d : Option Spot) (p : Spot) (more : c ≡ Some p) (proper : Proper r c) (next : d ≡ next_in r p) where
  pub taken : to_come r c ≡ p ∷ to_come r d
  taken = (turn r c d p more proper next).0

  pub still_proper : Proper r d
  still_proper = (turn r c d p more proper next).1

  pub fewer : length (to_come r d) < length (to_come r c)
  fewer = rw taken (omega arith)

-- ---- every cell of a region lies in it

only_over : (z : ℤ) → 0 < over z → under z ≡ 0
only_over (pos n) h = refl
only_over (negsuc n) h = absurd (omega arith)

along_high : (low high : ℤ) (j : ℕ) → j < count low high → le_z (low +ℤ pos j) high ≡ true
unfolding count
along_high low high j l =
    let h : j < over (high -ℤ low +ℤ pos 1) = l in
    le_is (low +ℤ pos j) high
    (omega (arith, h, only_over (high -ℤ low +ℤ pos 1) (omega arith), sum low (pos j), difference high low, sum (high -ℤ low) (pos 1)))

module _ {A : Type 0} (P : A → Type 0) where
  gather_all : (f : ℕ → List A) (k n : ℕ) → ((j : ℕ) → j < k + n → All P (f j)) → All P (gather f k n)
  unfolding gather
  gather_all f k zero h = All-nil P
  gather_all f k (suc n) h = All-append P (f k) (gather f (suc k) n) (h k (omega arith)) (gather_all f (suc k) n (λ j l. h j (omega arith)))

  along_all : (f : ℤ → List A) (low high : ℤ) → ((k : ℤ) → Within (range low high) k → All P (f k)) → All P (along f low high)
  unfolding along
  along_all f low high h =
      gather_all (λ k. f (low +ℤ pos k)) 0 (count low high)
      (λ j l. h (low +ℤ pos j) (record { low = le_is low (low +ℤ pos j) (omega (arith, sum low (pos j))); high = along_high low high j (omega arith) }))

pub cells_inside : (r : Region) → All (Inside r) (cells_of r)
unfolding cells_of
cells_inside r =
    along_all (Inside r) _ r.ys.first r.ys.last (λ y b.
    along_all (Inside r) _ r.zs.first r.zs.last (λ z c.
    along_all (Inside r) _ r.xs.first r.xs.last (λ x a. All-cons (Inside r) _ [] (record { y = b; z = c; x = a }) (All-nil (Inside r)))))
