-- `space::entry_of` meets its contract. Assumes nothing.
use Rattle.std.proofs.Common.{arith, ◌≡◌, ◌-ℤ◌, w32, w64, SFits, to_z-of_z, rules}
use Rattle.world.specs.Space.{place, entry_in}
use Rattle.space.specs.Laws.{far, record_else, record_then, plane, deep, whole}
use Rattle.space.proofs.entry_of.Goals as goal
use Rattle.space.proofs.entry_of.Goals.{After-along-i, After-along-j, After-along-k}

-- what `along` says of each axis: a signed number is what the machine reads back from its bits
first : (c : After-along-i) → c.along-i.result ≡ far (place (c.args.x -ℤ c.args.w.x) c.args.w.sx)
first c =
    let f : SFits w64 c.args.x = c.ranges.x in
    let g : SFits w32 c.args.w.x = search rules in
    simp (to_z-of_z, f, g) at c.along-i.ensures

second : (c : After-along-j) → c.along-j.result ≡ far (place (c.args.y -ℤ c.args.w.y) c.args.w.sy)
second c =
    let f : SFits w64 c.args.y = c.ranges.y in
    let g : SFits w32 c.args.w.y = search rules in
    simp (to_z-of_z, f, g) at c.along-j.ensures

third : (c : After-along-k) → c.along-k.result ≡ far (place (c.args.z -ℤ c.args.w.z) c.args.w.sz)
third c =
    let f : SFits w64 c.args.z = c.ranges.z in
    let g : SFits w32 c.args.w.z = search rules in
    simp (to_z-of_z, f, g) at c.along-k.ensures

pub overflow_mul-w : goal.overflow_mul-w
overflow_mul-w c = record { fits = omega (arith, plane c.args.w c.args.x c.args.y c.args.z (first (goal.at.overflow_mul-w c).After-along-i) (second (goal.at.overflow_mul-w c).After-along-j) (third (goal.at.overflow_mul-w c).After-along-k) c.if-i-j.true) }

pub overflow_add-k : goal.overflow_add-k
overflow_add-k c = record { fits = omega (arith, deep c.args.w c.args.x c.args.y c.args.z (first (goal.at.overflow_add-k c).After-along-i) (second (goal.at.overflow_add-k c).After-along-j) (third (goal.at.overflow_add-k c).After-along-k) c.if-i-j.true) }

pub overflow_mul-w-then-i-j : goal.overflow_mul-w-then-i-j
overflow_mul-w-then-i-j c = record { fits = omega (arith, whole c.args.w c.args.x c.args.y c.args.z (first (goal.at.overflow_mul-w-then-i-j c).After-along-i) (second (goal.at.overflow_mul-w-then-i-j c).After-along-j) (third (goal.at.overflow_mul-w-then-i-j c).After-along-k) c.if-i-j.true) }

pub overflow_add-i : goal.overflow_add-i
overflow_add-i c = record { fits = omega (arith, whole c.args.w c.args.x c.args.y c.args.z (first (goal.at.overflow_add-i c).After-along-i) (second (goal.at.overflow_add-i c).After-along-j) (third (goal.at.overflow_add-i c).After-along-k) c.if-i-j.true) }

pub returns-then-i-j : goal.returns-then-i-j
unfolding entry_in
returns-then-i-j c = rw (record_then c.args.w c.args.x c.args.y c.args.z (first (goal.at.returns-then-i-j c).After-along-i) (second (goal.at.returns-then-i-j c).After-along-j) (third (goal.at.returns-then-i-j c).After-along-k) c.if-i-j.true) c.entry_at.ensures

pub returns : goal.returns
unfolding entry_in
returns c = rw (record_else c.args.w c.args.x c.args.y c.args.z (first (goal.at.returns c).After-along-i) (second (goal.at.returns c).After-along-j) (third (goal.at.returns c).After-along-k) c.if-i-j.false)
