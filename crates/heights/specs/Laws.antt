-- A run of boxes, and one box, over any fold of tops: the words of the laws that the code's loops and branches go by (proofs/Laws).
use Rattle.std.specs.Prelude.{ℕ, cond, Float}
use mathlib.Core.List.{List, map, foldl}
use Rattle.world.specs.declared.Point.{Point}
use Rattle.world.specs.declared.Aabb.{Aabb}
use Rattle.world.specs.Boxes.{moved}
use Rattle.world.specs.Space.{run}
use Rattle.heights.specs.declared.Band.{Band}
use Rattle.heights.specs.Heights.{reaches, tops_of}

module _ {S : Type 0} (band : Band) (x z : Float) (g : S → Float → S) where
  -- ---- a run of boxes, moved by a point, over any fold of tops

  abbrev pub run_fold : Point → S → List ℕ → ℕ → ℕ → S
  run_fold by t s left at = foldl g t (tops_of band x z (map (λ (b : Aabb). moved b by) (run left s at)))

  -- what one box makes of it
  abbrev pub with_box : S → Aabb → S
  with_box t b = cond (reaches band x z b) (g t b.max.y) t
