-- The ways out of `step_to`, as its proof cites them.
use Rattle.std.specs.Prelude.{◌≡◌, Option, Some, None, refl, Bool, ◌||◌, List, ℕ}
use Rattle.std.proofs.Common.{sym, ap, subst}
use Rattle.std.proofs.Math.Bool.{or-false}
use Rattle.moves.specs.declared.answer.Waypoint.{Waypoint}
use Rattle.sides.specs.Sides.{level_to}
use Rattle.words.specs.Words.{feet_of, label_of}
use Rattle.rooms.specs.declared.Feet.{Feet}
use Rattle.rooms.specs.declared.Label.{Label}
use Rattle.rooms.specs.declared.Counts.{Counts}
use Rattle.visits.specs.declared.Aim.{Aim}
use Rattle.visits.specs.declared.Place.{Place}
use Rattle.visits.specs.Visits.{counts_by, VisitedIf}
use Rattle.strides.specs.declared.Column.{Column}
use Rattle.strides.specs.Strides.{Strode}

module _ {aim : Aim} {at : Place} {j : ℕ} {c : Column} {a f : List ℕ} (e : Option Waypoint) where
  pub strode_nowhere : None ≡ e → Strode aim at e j c c a f a f
  strode_nowhere i = subst (λ (x : Option Waypoint). Strode aim at x j c c a f a f) i
      (record { noted = sym (or-false c.level); visited = record { counts = refl; nodes = refl; front = refl } })

  -- where a visit answers v
  pub strode_to : {v : Option Counts} {b g : List ℕ} (w : Waypoint) (p : Feet) (l : Label) (flat : Bool) → Some w ≡ e → p ≡ feet_of w.feet → l ≡ label_of w
      → flat ≡ level_to at.point w.feet → VisitedIf aim at.number at.node c.counts j p l v a f b g → {r : Counts} → counts_by c.counts v ≡ r
      → Strode aim at e j c (record { counts = r; level = c.level || flat }) a f b g
  strode_to {v} {b} {g} w p l flat i u k m x {r} o =
      let y = subst (λ (q : Label). VisitedIf aim at.number at.node c.counts j (feet_of w.feet) q v a f b g) k
      (subst (λ (q : Feet). VisitedIf aim at.number at.node c.counts j q l v a f b g) u x) in
      let made : Column = record { counts = counts_by c.counts v; level = c.level || flat } in
      let z : Strode aim at (Some w) j c made a f b g = record { noted = ap (λ (q : Bool). c.level || q) m; visited = (y.done, y.left) } in
      subst (λ (q : Counts). Strode aim at e j c (record { counts = q; level = c.level || flat }) a f b g) o
      (subst (λ (q : Option Waypoint). Strode aim at q j c made a f b g) i z)
