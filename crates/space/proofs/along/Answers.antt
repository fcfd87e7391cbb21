-- `space::along` meets its contract. Assumes nothing.
-- A signed local holds bits: what the machine reads back from them is the number, since it fits (`origin`, `at`, `size` below).
use Rattle.std.proofs.Common.{arith, ◌≡◌, true, ◌^◌, ◌<◌, pos, ◌+ℤ◌, ◌-ℤ◌, w32, w64, SFits, to_z, of_z, to_z-of_z}
use mir.Facts.{to_z_pos, sfits_widen}
use Rattle.space.specs.Laws.{end_fits, in_row, far_else, far_then, far_fits, far_natural, far_small}
use Rattle.space.proofs.along.Goals as goal
use Rattle.space.proofs.along.Goals.{Start, Then-size-low, Else-size-low}

module _ (s : Start) where
  wide : SFits w64 s.args.origin
  wide = sfits_widen {w = w32} {w' = w64} tt s.ranges.origin

  origin : to_z w64 (of_z w64 (to_z w32 (of_z w32 s.args.origin))) ≡ s.args.origin
  origin = rw (to_z-of_z {w = w32} s.ranges.origin) (to_z-of_z {w = w64} wide)

  at : to_z w64 (of_z w64 s.args.at) ≡ s.args.at
  at = to_z-of_z {w = w64} s.ranges.at

  few : s.args.size < 2 ^ 32
  few = s.ranges.size.fits

  size : to_z w64 s.args.size ≡ pos s.args.size
  size = to_z_pos w64 (omega (arith, few))

  -- the row's end
  finish : to_z w64 (of_z w64 (to_z w64 (of_z w64 (to_z w32 (of_z w32 s.args.origin))) +ℤ to_z w64 s.args.size)) ≡ s.args.origin +ℤ pos s.args.size
  finish = rw (origin, size) (to_z-of_z {w = w64} (end_fits s.args.origin s.args.at s.args.size s.ranges.origin few))

-- where the number is inside
module _ (c : Then-size-low) where
  inside : in_row c.args.origin c.args.at c.args.size c.ranges.origin (few c.before) ≡ true
  inside = rw (finish c.before, at c.before, origin c.before) at c.if-size-low.true

  distance : SFits w64 (c.args.at -ℤ c.args.origin)
  distance = far_fits c.args.origin c.args.at c.args.size c.ranges.origin (few c.before) inside

pub overflow_cast-result : goal.overflow_cast-result
overflow_cast-result c =
    let s = (goal.at.overflow_cast-result c).Start in
    rw (at s, origin s, to_z-of_z {w = w64} (distance c)) (
      far_natural c.args.origin c.args.at c.args.size c.ranges.origin (few s) (inside c),
      far_small c.args.origin c.args.at c.args.size c.ranges.origin (few s) (inside c),
    )

pub returns-then-size-low : goal.returns-then-size-low
returns-then-size-low c =
    let s = (goal.at.returns-then-size-low c).Start in
    rw (at s, origin s, to_z-of_z {w = w64} (distance c)) (far_then c.args.origin c.args.at c.args.size c.ranges.origin (few s) (inside c))

pub returns-else-size-low : goal.returns-else-size-low
returns-else-size-low c =
    let s = (goal.at.returns-else-size-low c).Start in
    far_else c.args.origin c.args.at c.args.size c.ranges.origin (few s) (rw (finish s, at s, origin s) at c.if-size-low.false)
