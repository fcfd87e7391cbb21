-- `boxes::intersects` meets its contract. Assumes nothing.
use mathlib.Core.Path.{◌≡◌, refl, sym}
use mathlib.Core.Bool.{Bool, true, false, ◌&&◌}
use lib.Ieee.{lt}
use Rattle.world.specs.declared.Aabb.{Aabb}
use Rattle.world.specs.Boxes.{meets}
use Rattle.boxes.proofs.intersects.Goals as goal

-- the tests of y, taken out of the others
apart : (x r s t u : Bool) → (r && s) ≡ false → (x && r && s && t && u) ≡ false
apart false r s t u e = refl
apart true true true t u e = cc
apart true true false t u e = refl
apart true false s t u e = refl

level : (x r s t u : Bool) → (r && s) ≡ true → (x && r && s && t && u) ≡ (x && t && u)
level false r s t u e = refl
level true true true t u e = refl
level true true false t u e = cc
level true false s t u e = cc

-- so of two boxes
module _ (a b : Aabb) where
  abbrev along : Bool
  along = lt a.min.x b.max.x && lt b.min.x a.max.x

  above : (lt a.min.y b.max.y && lt b.min.y a.max.y) ≡ false → meets a b ≡ false
  unfolding meets
  above e = apart along (lt a.min.y b.max.y) (lt b.min.y a.max.y) (lt a.min.z b.max.z) (lt b.min.z a.max.z) e

  beside : (lt a.min.y b.max.y && lt b.min.y a.max.y) ≡ true → meets a b ≡ (along && lt a.min.z b.max.z && lt b.min.z a.max.z)
  unfolding meets
  beside e = level along (lt a.min.y b.max.y) (lt b.min.y a.max.y) (lt a.min.z b.max.z) (lt b.min.z a.max.z) e

pub returns-then-not-level : goal.returns-then-not-level
returns-then-not-level c = sym (above c.args.a c.args.b c.if-not-level.true)

pub returns : goal.returns
returns c = sym (beside c.args.a c.args.b c.if-not-level.false)
