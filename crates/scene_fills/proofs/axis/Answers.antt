-- `scene_fills::axis` meets its contract. Assumes nothing.
use Rattle.std.proofs.Common.{ℕ, ◌≡◌, ℤ, pos, ◌-ℤ◌, cond, arith, ◌∙◌, w32, w64, SFits, to_z-of_z, rules}
use Rattle.std.specs.Int.{int_max, int_min}
use Rattle.std.specs.Int.Signed.{lt_z}
use Rattle.std.proofs.lemmas.Int.{ints, clamps}
use Rattle.scene_fills.specs.Fills.{axis_of}
use Rattle.scene_fills.specs.Laws.{apart_is, less_is}
use Rattle.scene_fills.proofs.axis.Goals as goal

-- the first cell: the min's, or 0; and the last: the max's, or the window's last
first : (k : ℤ) → int_max k (pos 0) ≡ cond (lt_z k (pos 0)) (pos 0) k
first k = grind (arith, ints, clamps)

last : (k : ℤ) (n : ℕ) → int_min k (pos n -ℤ pos 1) ≡ cond (lt_z k (pos n)) k (pos n -ℤ pos 1)
last k n = grind (arith, ints, clamps)

pub returns : goal.returns
unfolding axis_of
returns c =
    let a = c.args in
    let f : SFits w32 c.i32_at.result = search rules in
    let g : SFits w32 c.i32_at-2.result = search rules in
    let h : SFits w64 c.max-first.result = search rules in
    let i : SFits w64 c.min-last.result = search rules in
    let low : c.max-first.result ≡ int_max (c.i32_at.result -ℤ a.origin) (pos 0) = rw (apart_is _ _ f c.ranges.origin) at c.max-first.ensures.value in
    let high : c.min-last.result ≡ int_min (c.i32_at-2.result -ℤ a.origin) (pos a.size -ℤ pos 1) = rw (apart_is _ _ g c.ranges.origin, less_is _ c.ranges.size) at c.min-last.ensures.value in
    rw (to_z-of_z h, to_z-of_z i, low ∙ first (c.i32_at.result -ℤ a.origin), high ∙ last (c.i32_at-2.result -ℤ a.origin) a.size, ← c.i32_at.ensures, ← c.i32_at-2.ensures)
