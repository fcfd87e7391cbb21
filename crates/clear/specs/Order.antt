-- The cells of an area in the clear check's y, x, z order are those of a region with x and z exchanged, and whether all are free does not depend on the order.
use Prim.Native.Nat.{ℕ, zero, suc}
use Rattle.std.specs.Prelude.{◌≡◌, Bool, ◌&&◌, ℤ, ◌+ℤ◌}
use Rattle.std.proofs.Math.Path.{refl, sym, ap}
use Rattle.std.proofs.Common.{◌∙◌}
use Rattle.std.proofs.Math.Bool.{true, false}
use mathlib.Core.List.{List, [], ◌∷◌, ◌++◌, map, map-append}
use Rattle.std.proofs.Math.IntN.{pos}
use Rattle.regions.specs.Ranges.{gather, along, count}
use Rattle.regions.specs.Regions.{cells_of}
use Rattle.regions.specs.declared.Region.{Region}
use Rattle.regions.specs.declared.Spot.{Spot}
use Rattle.world.specs.declared.Aabb.{Aabb}
use Rattle.world.specs.Space.{Space}
use Rattle.clear.specs.Clear.{all_free, around, clear}
use Rattle.clear.specs.Corridors.{crossed_cells, door_in, corridor}
use Rattle.clear.specs.Laws.{exchanged, free_at, corridor_along}

abbrev pub sideways : Region → Region
sideways r = record { ys = r.ys; zs = r.xs; xs = r.zs }

-- ---- the order of the cells

module _ {A B : Type 0} (f : A → B) where
  map_gather : (g : ℕ → List A) (k n : ℕ) → map f (gather g k n) ≡ gather (λ j. map f (g j)) k n
  unfolding gather
  map_gather g k zero = refl
  map_gather g k (suc n) = map-append f (g k) (gather g (suc k) n) ∙ ap (λ (l : List B). map f (g k) ++ l) (map_gather g (suc k) n)

  map_along : (g : ℤ → List A) (low high : ℤ) → map f (along g low high) ≡ along (λ k. map f (g k)) low high
  unfolding along
  map_along g low high = map_gather (λ k. g (low +ℤ pos k)) 0 (count low high)

module _ (area : Aabb) where
  abbrev row : ℤ → ℤ → List Spot
  row y x = along (λ z. record { x = z; y = y; z = x } ∷ []) (around area).zs.first (around area).zs.last

  crossed_is : map exchanged (cells_of (sideways (around area))) ≡ crossed_cells area
  unfolding cells_of crossed_cells
  crossed_is =
      map_along exchanged _ _ _
      ∙ (λ i. along (λ y. (map_along exchanged (row y) (around area).xs.first (around area).xs.last
      ∙ (λ j. along (λ x. map_along exchanged (λ z. record { x = z; y = y; z = x } ∷ []) (around area).zs.first (around area).zs.last j) (around area).xs.first (around area).xs.last)) i)
      (around area).ys.first (around area).ys.last)

-- ---- whether all are free

-- whether a test holds of the n numbers from k up
every : (ℕ → Bool) → ℕ → ℕ → Bool
every f k zero = true
every f k (suc n) = f k && every f (suc k) n

every_so : (f g : ℕ → Bool) → ((j : ℕ) → f j ≡ g j) → (k n : ℕ) → every f k n ≡ every g k n
unfolding every
every_so f g e k zero = refl
every_so f g e k (suc n) = rw (e k, every_so f g e (suc k) n)

every_true : (k n : ℕ) → every (λ j. true) k n ≡ true
unfolding every
every_true k zero = refl
every_true k (suc n) = every_true (suc k) n

and_swap : (a b c d : Bool) → ((a && b) && (c && d)) ≡ ((a && c) && (b && d))
and_swap true true c d = refl
and_swap true false true d = refl
and_swap true false false d = refl
and_swap false b c d = refl

every_and : (f g : ℕ → Bool) (k n : ℕ) → (every f k n && every g k n) ≡ every (λ j. f j && g j) k n
unfolding every
every_and f g k zero = refl
every_and f g k (suc n) = and_swap (f k) (every f (suc k) n) (g k) (every g (suc k) n) ∙ ap (λ (b : Bool). (f k && g k) && b) (every_and f g (suc k) n)

every_every : (f : ℕ → ℕ → Bool) (k n l m : ℕ) → every (λ i. every (f i) l m) k n ≡ every (λ j. every (λ i. f i j) k n) l m
unfolding every
every_every f k zero l m = sym (every_true l m)
every_every f k (suc n) l m = ap (λ (b : Bool). every (f k) l m && b) (every_every f (suc k) n l m) ∙ every_and (f k) (λ j. every (λ i. f i j) (suc k) n) l m

-- whether it holds of the cells from low to high
abbrev every_along : (ℤ → Bool) → ℤ → ℤ → Bool
every_along f low high = every (λ k. f (low +ℤ pos k)) 0 (count low high)

module _ (sp : Space) (area : Aabb) where
  free_append : (ps qs : List Spot) → all_free sp area (ps ++ qs) ≡ (all_free sp area ps && all_free sp area qs)
  unfolding all_free
  free_append [] qs = refl
  free_append (p ∷ ps) qs = rw (free_append ps qs) (assoc (free_at sp area p) (all_free sp area ps) (all_free sp area qs))
    where
      assoc : (a b c : Bool) → (a && (b && c)) ≡ ((a && b) && c)
      assoc true b c = refl
      assoc false b c = refl

  free_gather : (g : ℕ → List Spot) (k n : ℕ) → all_free sp area (gather g k n) ≡ every (λ j. all_free sp area (g j)) k n
  unfolding gather all_free every
  free_gather g k zero = refl
  free_gather g k (suc n) = free_append (g k) (gather g (suc k) n) ∙ ap (λ (b : Bool). all_free sp area (g k) && b) (free_gather g (suc k) n)

  free_along_lem : (g : ℤ → List Spot) (low high : ℤ) → all_free sp area (along g low high) ≡ every_along (λ k. all_free sp area (g k)) low high
  unfolding along
  free_along_lem g low high = free_gather (λ k. g (low +ℤ pos k)) 0 (count low high)

  -- a layer, its rows along x or along z
  module _ (cell : ℤ → ℤ → List Spot) (x₁ x₂ z₁ z₂ : ℤ) where
    either_way : all_free sp area (along (λ x. along (λ z. cell x z) z₁ z₂) x₁ x₂) ≡ all_free sp area (along (λ z. along (λ x. cell x z) x₁ x₂) z₁ z₂)
    either_way =
        free_along_lem (λ x. along (λ z. cell x z) z₁ z₂) x₁ x₂
        ∙ every_so _ _ (λ k. free_along_lem (λ z. cell (x₁ +ℤ pos k) z) z₁ z₂) 0 (count x₁ x₂)
        ∙ every_every (λ i j. all_free sp area (cell (x₁ +ℤ pos i) (z₁ +ℤ pos j))) 0 (count x₁ x₂) 0 (count z₁ z₂)
        ∙ sym (every_so _ _ (λ k. free_along_lem (λ x. cell x (z₁ +ℤ pos k)) x₁ x₂) 0 (count z₁ z₂))
        ∙ sym (free_along_lem (λ z. along (λ x. cell x z) x₁ x₂) z₁ z₂)

  -- 01's clear check, cell by cell in y, x, z order
  clear_crossed : all_free sp area (crossed_cells area) ≡ clear sp area
  unfolding crossed_cells clear cells_of
  clear_crossed =
      free_along_lem _ _ _
      ∙ every_so _ _ (λ k. either_way (λ x z. record { x = x; y = (around area).ys.first +ℤ pos k; z = z } ∷ []) (around area).xs.first (around area).xs.last (around area).zs.first (around area).zs.last) 0
      (count (around area).ys.first (around area).ys.last)
      ∙ sym (free_along_lem _ _ _)

  pub corridor_is : corridor_along sp area (cells_of (sideways (around area))) ≡ corridor sp area
  unfolding corridor door_in
  corridor_is = rw (crossed_is area, clear_crossed)
