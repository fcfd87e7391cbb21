-- `scans::before` meets its contract. Assumes nothing.
use Rattle.std.proofs.Common.{◌&&◌, ◌||◌, ltb}
use lib.Ieee.{lt, eq}
use Rattle.exploration.specs.Estimates.{sooner}
use Rattle.scans.proofs.before.Goals as goal

pub returns : goal.returns
unfolding sooner
returns c =
    let mine = c.float_of-mine.ensures in
    let other = c.float_of-other.ensures in
    let a = c.args in
    λ i. lt (mine i) (other i) || (eq (mine i) (other i) && ltb a.a.order a.b.order)
