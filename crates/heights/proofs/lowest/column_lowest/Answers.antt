-- `heights::lowest::column_lowest` meets its contract. Assumes nothing.
use Rattle.std.proofs.Common.{arith, rules, ℕ, ◌≡◌, sym, ap, ◌∙◌, Bool, refl, List, ℤ, pos, ◌+ℤ◌, Float, w64, SFits, to_z, of_z, to_z-of_z, true, false}
use mathlib.Core.List.{foldl}
use mir.Facts.{sfits_to_z}
use lib.Signed.{le_z, lt_z}
use Rattle.cells.specs.Parts.{sum, lt_yes, lt_no, le_yes, within, upper, lower}
use Rattle.regions.specs.Ranges.{along}
use Rattle.regions.specs.RangeLaws.{fold_on, fold_ends}
use Rattle.world.specs.Space.{space_of}
use Rattle.heights.specs.Heights.{tops_in}
use Rattle.heights.specs.Put.{taken}
use Rattle.heights.proofs.lowest.column_lowest.Goals as goal
use Rattle.heights.proofs.lowest.column_lowest.Goals.{Start}

-- the tops of a layer. The loop has its signed numbers as bits
abbrev at : (s : Start) → ℤ → List Float
at s = λ y. tops_in s.args.shaft.band s.args.shaft.x s.args.shaft.z (space_of s.args.world (to_z w64 (of_z w64 s.args.cx)) y (to_z w64 (of_z w64 s.args.cz)))

-- what some layers make of the lowest so far
abbrev made : (s : Start) → List Float × ℕ → ℤ → List Float × ℕ
made s t y = foldl (taken s.args.after) t (along (at s) y s.args.layers.last)

whole : (s : Start) → let a = s.args in foldl (taken a.after) (a.room.now, 0) (along (λ y. tops_in a.shaft.band a.shaft.x a.shaft.z (space_of a.world a.cx y a.cz)) a.layers.first a.layers.last)
    ≡ made s (a.room.now, 0) a.layers.first
unfolding along
whole s = rw (to_z-of_z {w = w64} s.ranges.cx, to_z-of_z {w = w64} s.ranges.cz)

last_fits : (s : Start) → SFits w64 s.args.layers.last
last_fits s = search rules

last_is : (s : Start) → to_z w64 (of_z w64 s.args.layers.last) ≡ s.args.layers.last
last_is s = to_z-of_z {w = w64} (last_fits s)

-- the layer after one that is not the last, and none after the last
module _ (y last : ℤ) where
  next_is : SFits w64 y → SFits w64 last → lt_z y last ≡ true → to_z w64 (of_z w64 (y +ℤ pos 1)) ≡ y +ℤ pos 1
  next_is f g e = to_z-of_z {w = w64} (within w64 (y +ℤ pos 1) (omega (arith, sum y (pos 1), lt_yes y last e, upper w64 last g)) (omega (arith, sum y (pos 1), lower w64 y f)))

  past : lt_z y last ≡ false → le_z (y +ℤ pos 1) last ≡ false
  past h = go (le_z (y +ℤ pos 1) last) refl
    where
      go : (b : Bool) → le_z (y +ℤ pos 1) last ≡ b → le_z (y +ℤ pos 1) last ≡ false
      go true e = absurd (omega (arith, sum y (pos 1), le_yes (y +ℤ pos 1) last e, lt_no y last h))
      go false e = e

pub loop-y-preserved : goal.loop-y-preserved
loop-y-preserved c =
    let s = (goal.at.loop-y-preserved c).Start in
    let l = c.loop-y in
    let y : ℤ = to_z w64 l.y-bits in
    let n : to_z w64 (of_z w64 (y +ℤ pos 1)) ≡ y +ℤ pos 1 = next_is y s.args.layers.last (sfits_to_z {w = w64} {n = l.y-bits} l.auto.y-fits) (last_fits s) (rw (last_is s) at c.if-y-y-end.true) in
    rw n (
      c.cell_lowest-count.auto.room ∙ l.invariant.0,
      c.cell_lowest-count.ensures.upper_bound,
      l.invariant.2
          ∙ fold_on (taken c.args.after) (at s) (l.room, l.count) y s.args.layers.last (rw (last_is s) at c.loop-y-test.true)
          ∙ ap (λ (t : List Float × ℕ). made s t (y +ℤ pos 1)) (sym c.cell_lowest-count.ensures.result_after),
    )

pub returns : goal.returns
returns c =
    let s = (goal.at.returns c).Start in
    let l = c.loop-y in
    sym (whole s ∙ l.invariant.2 ∙ fold_ends (taken c.args.after) (at s) (l.room, l.count) (to_z w64 l.y-bits) s.args.layers.last (rw (last_is s) at c.loop-y-test.false))

-- the last layer
pub returns-2 : goal.returns-2
returns-2 c =
    let s = (goal.at.returns-2 c).Start in
    let l = c.loop-y in
    let y : ℤ = to_z w64 l.y-bits in
    sym (whole s ∙ l.invariant.2
    ∙ fold_on (taken c.args.after) (at s) (l.room, l.count) y s.args.layers.last (rw (last_is s) at c.loop-y-test.true)
    ∙ fold_ends (taken c.args.after) (at s) (foldl (taken c.args.after) (l.room, l.count) (at s y)) (y +ℤ pos 1) s.args.layers.last (past y s.args.layers.last (rw (last_is s) at c.if-y-y-end.false))
    ∙ sym c.cell_lowest-count.ensures.result_after)
