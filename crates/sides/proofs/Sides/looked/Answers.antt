-- `sides::Sides::looked` meets its contract. Assumes nothing.
use Rattle.std.proofs.Common.{◌<◌, sym}
use Rattle.sides.specs.Laws.{pair_sides, always, between}
use Rattle.sides.proofs.Sides.looked.Goals as goal

pub returns-then-n-lt5 : goal.returns-then-n-lt5
returns-then-n-lt5 c = sym (always _ _ c.if-n-lt5.true)

pub bounds-self-a : goal.bounds-self-a
bounds-self-a c = let h : c.pair_at-a.result.0 < 4 = rw c.pair_at-a.ensures (pair_sides _).0 in h

pub bounds-self-b : goal.bounds-self-b
bounds-self-b c = let h : c.pair_at-a.result.1 < 4 = rw c.pair_at-a.ensures (pair_sides _).1 in h

pub returns : goal.returns
returns c = rw c.pair_at-a.ensures (sym (between _ _ c.if-n-lt5.false))
