-- The sizes of a window (01, "Numbers given back", 3 BadWorld: "a size above 256").
use Rattle.std.specs.Prelude.{ℕ, ◌*◌, ◌≤◌, ◌≡◌, refl, Bool, true, false, ◌||◌, ltb}
use Rattle.std.proofs.Common.{arith, mul-le-mul, ltb-false}
use Rattle.world.specs.declared.Window.{Window}

-- "a size above 256"
unfoldable pub size_above : Window → Bool
size_above w = ltb 256 w.sx || ltb 256 w.sy || ltb 256 w.sz

-- no size is above 256
pub record Sizes (w : Window) : Type 0 where
  pub sx : w.sx ≤ 256
  pub sy : w.sy ≤ 256
  pub sz : w.sz ≤ 256

pub sizes_of : (w : Window) → size_above w ≡ false → Sizes w
unfolding size_above
sizes_of w e = go (ltb 256 w.sx) refl (ltb 256 w.sy) refl (ltb 256 w.sz) refl e
  where
    go : (a : Bool) → ltb 256 w.sx ≡ a → (b : Bool) → ltb 256 w.sy ≡ b → (c : Bool) → ltb 256 w.sz ≡ c → a || b || c ≡ false → Sizes w
    go false p false q false r e = record { sx = ltb-false 256 w.sx p; sy = ltb-false 256 w.sy q; sz = ltb-false 256 w.sz r }
    go true p b q c r e = absurd (let y : ◌≡◌ {A = ℕ} 0 1 = cc in omega arith)
    go false p true q c r e = absurd (let y : ◌≡◌ {A = ℕ} 0 1 = cc in omega arith)
    go false p false q true r e = absurd (let y : ◌≡◌ {A = ℕ} 0 1 = cc in omega arith)

-- a window's cells are no more than 256 * 256 * 256
pub layer_small : (w : Window) → Sizes w → w.sx * w.sy ≤ 256 * 256
layer_small w s = mul-le-mul {n₁ = w.sx} {m₁ = w.sy} {n₂ = 256} {m₂ = 256} s.sx s.sy

pub cells_small : (w : Window) → Sizes w → w.sx * w.sy * w.sz ≤ 256 * 256 * 256
cells_small w s = mul-le-mul {n₁ = w.sx * w.sy} {m₁ = w.sz} {n₂ = 256 * 256} {m₂ = 256} (layer_small w s) s.sz
