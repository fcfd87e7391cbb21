-- Points and boxes that differ at most in signs of zeros: an area is clear where the other one is, and has the same door.
use Rattle.std.specs.Prelude.{◌≡◌, T, Float}
use Rattle.std.proofs.Math.Path.{refl}
use Rattle.std.proofs.Common.{◌∙◌}
use mathlib.Core.List.{List, [], ◌∷◌}
use Rattle.std.specs.Float.Ieee.{binary64, fits, lt, of_bits}
use Rattle.std.specs.Float.Ieee.Fits.{add-fits, sub-fits}
use Rattle.floats.specs.Floats.{nought, smaller, larger, canonical}
use Rattle.regions.specs.declared.Spot.{Spot}
use Rattle.world.specs.declared.Point.{Point}
use Rattle.world.specs.declared.Aabb.{Aabb}
use Rattle.world.specs.Boxes.{plus, minus, span, from_feet, expand_towards, meets, corner, voxel}
use Rattle.world.specs.Space.{Space, Block}
use Rattle.clear.specs.Clear.{hits, free, all_free, around, clear}
use Rattle.clear.specs.Corridors.{first_door, cell_door, crossed_cells, door_at, door_in}
use Rattle.arrival.specs.Alike.{Alike, Zero, zero_alike, add_alike, sub_alike, with_zero, lt_alike, smaller_alike, larger_alike, floor_alike, ceil_alike}

pub record AlikePoint (p q : Point) : Type 0 where
  pub x : Alike p.x q.x
  pub y : Alike p.y q.y
  pub z : Alike p.z q.z

pub record AlikeBox (a b : Aabb) : Type 0 where
  pub min : AlikePoint a.min b.min
  pub max : AlikePoint a.max b.max

-- all coordinates are zeros; all are f64s
pub record ZeroPoint (p : Point) : Type 0 where
  pub x : Zero p.x
  pub y : Zero p.y
  pub z : Zero p.z

pub record Held (p : Point) : Type 0 where
  pub x : T (fits binary64 p.x)
  pub y : T (fits binary64 p.y)
  pub z : T (fits binary64 p.z)

pub itself : (p : Point) → AlikePoint p p
itself p = record { x = refl; y = refl; z = refl }

pub minus_alike : (p q a b : Point) → AlikePoint p a → AlikePoint q b → AlikePoint (minus p q) (minus a b)
unfolding minus
minus_alike p q a b h k =
    record { x = sub_alike p.x q.x a.x b.x h.x k.x; y = sub_alike p.y q.y a.y b.y h.y k.y; z = sub_alike p.z q.z a.z b.z h.z k.z }

through_point : (a b c : Point) → AlikePoint a b → AlikePoint b c → AlikePoint a c
through_point a b c h k = record { x = h.x ∙ k.x; y = h.y ∙ k.y; z = h.z ∙ k.z }

-- ---- the box of a body

module _ (width height : Float) where
  pub feet_alike : (p q : Point) → AlikePoint p q → AlikeBox (from_feet p width height) (from_feet q width height)
  unfolding from_feet
  feet_alike p q h = record {
    min = record { x = sub_alike p.x _ q.x _ h.x refl; y = h.y; z = sub_alike p.z _ q.z _ h.z refl };
    max = record { x = add_alike p.x _ q.x _ h.x refl; y = add_alike p.y height q.y height h.y refl; z = add_alike p.z _ q.z _ h.z refl };
  }

  -- and what it grows to, towards differences that are alike
  pub swept_alike : (p q d e : Point) → AlikePoint p q → AlikePoint d e → AlikeBox (expand_towards (from_feet p width height) d) (expand_towards (from_feet q width height) e)
  unfolding expand_towards plus span
  swept_alike p q d e h k =
      let f = feet_alike p q h in
      record {
        min = record {
          x = add_alike _ _ _ _ f.min.x (smaller_alike d.x nought e.x nought k.x refl);
          y = add_alike _ _ _ _ f.min.y (smaller_alike d.y nought e.y nought k.y refl);
          z = add_alike _ _ _ _ f.min.z (smaller_alike d.z nought e.z nought k.z refl);
        };
        max = record {
          x = add_alike _ _ _ _ f.max.x (larger_alike d.x nought e.x nought k.x refl);
          y = add_alike _ _ _ _ f.max.y (larger_alike d.y nought e.y nought k.y refl);
          z = add_alike _ _ _ _ f.max.z (larger_alike d.z nought e.z nought k.z refl);
        };
      }

  held_min : (p : Point) → Held p → Held (from_feet p width height).min
  unfolding from_feet
  held_min p h = record { x = sub-fits binary64 p.x _; y = h.y; z = sub-fits binary64 p.z _ }

  held_max : (p : Point) → Held (from_feet p width height).max
  unfolding from_feet
  held_max p = record { x = add-fits binary64 p.x _; y = add-fits binary64 p.y height; z = add-fits binary64 p.z _ }

smaller_zero : (d : Float) → Zero d → Zero (smaller d nought)
smaller_zero d z = smaller_alike d nought nought nought (zero_alike d z) refl ∙ base
  where
    base : Zero (smaller nought nought)
    base = unfold smaller lt of_bits canonical in refl

larger_zero : (d : Float) → Zero d → Zero (larger d nought)
larger_zero d z = larger_alike d nought nought nought (zero_alike d z) refl ∙ base
  where
    base : Zero (larger nought nought)
    base = unfold larger lt of_bits canonical in refl

-- grown towards no difference it stays alike
grown : (b : Aabb) (d : Point) → Held b.min → Held b.max → ZeroPoint d → AlikeBox (expand_towards b d) b
unfolding expand_towards plus span
grown b d h k z = record {
  min = record {
    x = with_zero b.min.x (smaller d.x nought) h.x (smaller_zero d.x z.x);
    y = with_zero b.min.y (smaller d.y nought) h.y (smaller_zero d.y z.y);
    z = with_zero b.min.z (smaller d.z nought) h.z (smaller_zero d.z z.z);
  };
  max = record {
    x = with_zero b.max.x (larger d.x nought) k.x (larger_zero d.x z.x);
    y = with_zero b.max.y (larger d.y nought) k.y (larger_zero d.y z.y);
    z = with_zero b.max.z (larger d.z nought) k.z (larger_zero d.z z.z);
  };
}

-- the area swept from a point by no difference
pub swept_nowhere : (width height : Float) (p q d : Point) → AlikePoint p q → Held p → ZeroPoint d → AlikeBox (expand_towards (from_feet p width height) d) (from_feet q width height)
swept_nowhere width height p q d h k z =
    let g = grown (from_feet p width height) d (held_min width height p k) (held_max width height p) z in
    let f = feet_alike width height p q h in
    record { min = through_point _ _ _ g.min f.min; max = through_point _ _ _ g.max f.max }

-- ---- clear, and the door

module _ (a b : Aabb) (h : AlikeBox a b) where
  meets_alike : (v : Aabb) → meets v a ≡ meets v b
  unfolding meets
  meets_alike v = cc (
    lt_alike v.min.x a.max.x v.min.x b.max.x refl h.max.x,
    lt_alike a.min.x v.max.x b.min.x v.max.x h.min.x refl,
    lt_alike v.min.y a.max.y v.min.y b.max.y refl h.max.y,
    lt_alike a.min.y v.max.y b.min.y v.max.y h.min.y refl,
    lt_alike v.min.z a.max.z v.min.z b.max.z refl h.max.z,
    lt_alike a.min.z v.max.z b.min.z v.max.z h.min.z refl,
  )

  hits_alike : (bs : List Aabb) → hits a bs ≡ hits b bs
  unfolding hits
  hits_alike [] = refl
  hits_alike (c ∷ bs) = rw (meets_alike c, hits_alike bs)

  free_alike : (p : Point) (k : Block) → free a p k ≡ free b p k
  unfolding free
  free_alike p k = rw (meets_alike (voxel p), hits_alike k.boxes)

  cell_door_alike : (p : Point) (k : Block) → cell_door a p k ≡ cell_door b p k
  unfolding cell_door
  cell_door_alike p k = rw (meets_alike (voxel p))

  around_alike : around a ≡ around b
  unfolding around
  around_alike =
      rw (
        floor_alike a.min.y b.min.y h.min.y,
        ceil_alike a.max.y b.max.y h.max.y,
        floor_alike a.min.x b.min.x h.min.x,
        ceil_alike a.max.x b.max.x h.max.x,
        floor_alike a.min.z b.min.z h.min.z,
        ceil_alike a.max.z b.max.z h.max.z,
      )

  module _ (sp : Space) where
    all_alike : (ps : List Spot) → all_free sp a ps ≡ all_free sp b ps
    unfolding all_free
    all_alike [] = refl
    all_alike (p ∷ ps) = rw (free_alike (corner p.x p.y p.z) (sp p.x p.y p.z), all_alike ps)

    pub clear_alike : clear sp a ≡ clear sp b
    unfolding clear
    clear_alike = rw around_alike (all_alike _)

    first_alike : (ps : List Spot) → first_door (door_at sp a) ps ≡ first_door (door_at sp b) ps
    unfolding first_door
    first_alike [] = refl
    first_alike (p ∷ ps) = rw (cell_door_alike (corner p.x p.y p.z) (sp p.x p.y p.z), first_alike ps)

    pub door_alike : door_in sp a ≡ door_in sp b
    unfolding door_in crossed_cells
    door_alike = rw around_alike (first_alike _)
