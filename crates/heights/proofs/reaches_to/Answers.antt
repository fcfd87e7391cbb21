-- `heights::reaches_to` meets its contract. Assumes nothing.
use Rattle.std.proofs.Common.{◌≡◌, refl, sym, Bool, true, false, ◌&&◌, Float}
use Rattle.std.specs.Float.{binary64}
use lib.Ieee.{le, add, sub}
use Rattle.floats.specs.Floats.{E}
use Rattle.world.specs.declared.Aabb.{Aabb}
use Rattle.heights.specs.declared.Band.{Band}
use Rattle.heights.specs.Heights.{reaches}
use Rattle.heights.proofs.reaches_to.Goals as goal

-- the tests of the top, taken out of the others
off : (x r s : Bool) → (r && s) ≡ false → (x && r && s) ≡ false
off false r s e = refl
off true r s e = e

kept : (x r s : Bool) → (r && s) ≡ true → (x && r && s) ≡ x
kept false r s e = refl
kept true r s e = e

-- so of a box
module _ (band : Band) (x z : Float) (b : Aabb) where
  abbrev spans : Bool
  spans = le b.min.x x && le x b.max.x && le b.min.z z && le z b.max.z

  abbrev level : Bool
  level = le (sub binary64 band.low E) b.max.y && le b.max.y (add binary64 band.high E)

  outside : level ≡ false → reaches band x z b ≡ false
  unfolding reaches
  outside e = off spans (le (sub binary64 band.low E) b.max.y) (le b.max.y (add binary64 band.high E)) e

  inside : level ≡ true → reaches band x z b ≡ spans
  unfolding reaches
  inside e = kept spans (le (sub binary64 band.low E) b.max.y) (le b.max.y (add binary64 band.high E)) e

pub returns-then-not-level : goal.returns-then-not-level
returns-then-not-level c = let a = c.args in sym (outside a.shaft.band a.shaft.x a.shaft.z a.b (c.if-not-level.true))

pub returns : goal.returns
returns c = let a = c.args in sym (inside a.shaft.band a.shaft.x a.shaft.z a.b (c.if-not-level.false))
