-- Laws of a fill: a clipped fill lies in the window, so no record number of it wraps.
use Rattle.std.specs.Prelude.{ℕ, ◌+◌, ◌*◌, ◌≤◌, ◌<◌, ◌≡◌, refl, Bool, true, false, cond, List, T, ℤ, pos, negsuc, ◌-ℤ◌, nat_abs}
use Rattle.std.proofs.Common.{arith, mul-le-mul, Fits, SFits, to_z, of_z, to_z-of_z}
use Rattle.std.specs.Int.{w32, w64}
use Rattle.std.proofs.Math.Facts.{to_z_pos, sfits_widen}
use Rattle.std.specs.Int.Signed.{lt_z, non_neg}
use Rattle.cells.specs.Parts.{over, under, difference, lt_yes, lt_no, le_yes, within, upper, lower}
use Rattle.fields.specs.Little.{signed_field}
use Rattle.regions.specs.declared.Range.{Range}
use Rattle.regions.specs.declared.Region.{Region}
use Rattle.regions.specs.declared.Spot.{Spot}
use Rattle.regions.specs.Regions.{Within, Inside}
use Rattle.world.specs.declared.Window.{Window}
use Rattle.world.specs.Sizes.{Sizes}
use Rattle.scene_fills.specs.Fills.{clipped, axis_of, region_of}

-- ---- a cell of a clipped region: each number is one from 0 to 255

abbrev Low : ℤ → Type 0
Low k = T (non_neg k) × (nat_abs k < 256)

pub record Few (p : Spot) : Type 0 where
  pub x : Low p.x
  pub y : Low p.y
  pub z : Low p.z

-- a range of an axis that is clipped to at most 256 cells
abbrev Part : Range → Type 0
Part r = (under r.first ≡ 0) × (over r.last < 256)

pub record Clipped (w : Window) (r : Region) : Type 0 where
  pub sx : w.sx < 257
  pub sz : w.sz < 257
  pub xs : Part r.xs
  pub ys : Part r.ys
  pub zs : Part r.zs

part_few : (r : Range) (k : ℤ) → Part r → Within r k → Low k
part_few r (pos n) p h = (tt, omega (arith, p.1, le_yes (pos n) r.last h.high))
part_few r (negsuc n) p h = absurd (omega (arith, p.0, le_yes r.first (negsuc n) h.low))

pub few : (w : Window) (r : Region) (p : Spot) → Clipped w r → Inside r p → Few p
few w r p c h = record { x = part_few r.xs p.x c.xs h.x; y = part_few r.ys p.y c.ys h.y; z = part_few r.zs p.z c.zs h.z }

-- ---- the region of a record is clipped

natural_under : (k : ℤ) → under k ≤ over k → under k ≡ 0
natural_under (pos n) h = refl
natural_under (negsuc n) h = absurd (omega arith)

small_over : (k : ℤ) → over k < 256 + under k → over k < 256
small_over (pos n) h = omega arith
small_over (negsuc n) h = omega arith

clip_part : (n : ℕ) (from to : ℤ) → n < 257 → Part (clipped n from to)
clip_part n from to h = (low (lt_z from (pos 0)) refl, high (lt_z to (pos n)) refl)
  where
    low : (b : Bool) → lt_z from (pos 0) ≡ b → under (cond b (pos 0) from) ≡ 0
    low true e = refl
    low false e = natural_under from (omega (arith, lt_no from (pos 0) e))

    high : (b : Bool) → lt_z to (pos n) ≡ b → over (cond b to (pos n -ℤ pos 1)) < 256
    high true e = small_over to (omega (arith, h, lt_yes to (pos n) e))
    high false e = small_over (pos n -ℤ pos 1) (omega (arith, h, difference (pos n) (pos 1)))

pub region_clipped : (w : Window) (s : List ℕ) → Sizes w → Clipped w (region_of w s)
unfolding region_of axis_of
region_clipped w s h =
    let x : w.sx < 257 = omega (arith, h.sx) in
    let y : w.sy < 257 = omega (arith, h.sy) in
    let z : w.sz < 257 = omega (arith, h.sz) in
    record {
      sx = x;
      sz = z;
      xs = clip_part w.sx (signed_field s 8 -ℤ w.x) (signed_field s 20 -ℤ w.x) x;
      ys = clip_part w.sy (signed_field s 12 -ℤ w.y) (signed_field s 24 -ℤ w.y) y;
      zs = clip_part w.sz (signed_field s 16 -ℤ w.z) (signed_field s 28 -ℤ w.z) z;
    }

-- ---- its numbers as the machine has them

low_fits : (k : ℤ) → Low k → SFits w64 k
low_fits (pos n) h = record { sfits = omega (arith, h.1) }
low_fits (negsuc n) h = absurd h.0

-- a number from 0 to 255 as a u32
module _ (k : ℤ) (h : Low k) where
  pub low_is : to_z w64 (of_z w64 k) ≡ k
  low_is = to_z-of_z (low_fits k h)

  pub as_natural : T (non_neg (to_z w64 (of_z w64 k))) × Fits w32 (nat_abs (to_z w64 (of_z w64 k)))
  as_natural = rw low_is (h.0, record { fits = omega (arith, h.1) })

-- the numbers of a layer's first row and of a row's first cell
module _ (sx sz y z : ℕ) (a : sx < 257) (b : sz < 257) (c : y < 256) (d : z < 256) where
  pub layer_small : sz * y ≤ 256 * 256
  layer_small = mul-le-mul {n₁ = sz} {m₁ = y} {n₂ = 256} {m₂ = 256} (omega (arith, b)) (omega (arith, c))

  pub row_small : sx * (z + sz * y) ≤ 256 * (256 + 256 * 256)
  row_small = mul-le-mul {n₁ = sx} {m₁ = z + sz * y} {n₂ = 256} {m₂ = 256 + 256 * 256} (omega (arith, a)) (omega (arith, d, layer_small))

-- ---- a difference of two i32, worked out in i64

-- an i32 as an i64
abbrev pub wide : ℤ → ℤ
wide z = to_z w64 (of_z w64 (to_z w32 (of_z w32 z)))

wide_is : (z : ℤ) → SFits w32 z → wide z ≡ z
wide_is z f = rw (to_z-of_z f) (to_z-of_z (sfits_widen {w = w32} {w' = w64} tt f))

pub wide_fits : (z : ℤ) → SFits w32 z → SFits w64 (to_z w32 (of_z w32 z))
wide_fits z f = rw (to_z-of_z f) (sfits_widen {w = w32} {w' = w64} tt f)

module _ (k o : ℤ) (f : SFits w32 k) (g : SFits w32 o) where
  apart : SFits w64 (k -ℤ o)
  apart =
      within w64 (k -ℤ o)
      (omega (arith, difference k o, lower w32 o g, upper w32 k f))
      (omega (arith, difference k o, upper w32 o g, lower w32 k f))

  pub apart_fits : SFits w64 (wide k -ℤ wide o)
  apart_fits = rw (wide_is k f, wide_is o g) apart

  pub apart_is : to_z w64 (of_z w64 (wide k -ℤ wide o)) ≡ k -ℤ o
  apart_is = rw (wide_is k f, wide_is o g) (to_z-of_z apart)

-- one less than a size
module _ (n : ℕ) (h : Fits w32 n) where
  less : SFits w64 (pos n -ℤ pos 1)
  less = within w64 (pos n -ℤ pos 1) (omega (arith, h.fits, difference (pos n) (pos 1))) (omega (arith, difference (pos n) (pos 1)))

  pub size_is : to_z w64 n ≡ pos n
  size_is = to_z_pos w64 {n = n} (omega (arith, h.fits))

  pub less_fits : SFits w64 (to_z w64 n -ℤ pos 1)
  less_fits = rw size_is less

  pub less_is : to_z w64 (of_z w64 (to_z w64 n -ℤ pos 1)) ≡ pos n -ℤ pos 1
  less_is = rw size_is (to_z-of_z less)
