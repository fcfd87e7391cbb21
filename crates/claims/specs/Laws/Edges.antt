-- An edge by the comparisons that choose its movement (01, The graph, "Edge"), and that its target is in range.
use Rattle.std.specs.Prelude.{◌≡◌, Bool, Float, Option, Some, None}
use Rattle.std.proofs.Math.Path.{refl}
use Rattle.std.proofs.Math.Bool.{true, false, cond}
use Rattle.std.specs.Float.Ieee.{binary64, lt, le, add, sub, neg}
use Rattle.exploration.proofs.Laws.Lists.{and_first}
use Rattle.floats.specs.Floats.{E, nought, larger}
use Rattle.world.specs.declared.Point.{Point}
use Rattle.world.specs.declared.Body.{Body}
use Rattle.world.specs.declared.Request.{Request}
use Rattle.world.specs.Space.{Space}
use Rattle.moves.specs.declared.answer.Movement.{Movement}
use Rattle.moves.specs.declared.answer.Movement.TheVariants.{Walk, Step, Jump, Drop}
use Rattle.moves.specs.declared.answer.Waypoint.{Waypoint}
use Rattle.moves.specs.Moves.{step_height, rising, falling, moving}
use Rattle.places.specs.Places.{in_range}
use Rattle.edges.specs.Edges.{passable, waypoint_by, edge_by, edge}
use Rattle.edges.specs.Answers.{nowhere_to}

module _ (sp : Space) (r : Request) (body : Body) (from to : Point) where
  -- by this movement and lift, where the way is passable
  abbrev pub by : Movement → Float → Option Waypoint
  by movement lift = cond (passable sp r body from to lift) (Some (waypoint_by sp body from to lift movement)) None

  abbrev pub rise : Float
  rise = sub binary64 to.y from.y

  abbrev pub edge_is : Option Waypoint
  edge_is =
      cond (lt E rise)
      (cond (le rise (add binary64 (step_height r body) E)) (by Step rise)
      (cond (le rise (add binary64 r.jump_height E)) (by Jump r.jump_height) None))
      (cond (lt rise (neg E)) (cond (le (neg rise) (add binary64 r.max_drop E)) (by Drop nought) None)
      (by Walk (larger rise nought)))

  pub edge_is_lem : edge sp r body from to ≡ edge_is
  unfolding edge moving rising falling
  edge_is_lem =
      go (lt E rise) refl (le rise (add binary64 (step_height r body) E)) refl (le rise (add binary64 r.jump_height E)) refl (lt rise (neg E)) refl
      (le (neg rise) (add binary64 r.max_drop E)) refl
    where
      go : (p : Bool) → lt E rise ≡ p → (q : Bool) → le rise (add binary64 (step_height r body) E) ≡ q →
          (s : Bool) → le rise (add binary64 r.jump_height E) ≡ s → (t : Bool) → lt rise (neg E) ≡ t →
          (u : Bool) → le (neg rise) (add binary64 r.max_drop E) ≡ u → edge sp r body from to ≡ edge_is
      go true e true f s g t h u i = rw (e, f)
      go true e false f true g t h u i = rw (e, f, g)
      go true e false f false g t h u i = rw (e, f, g)
      go false e q f s g true h true i = rw (e, h, i)
      go false e q f s g true h false i = rw (e, h, i)
      go false e q f s g false h u i = rw (e, h)

  -- "Then target and raised point in range"
  pub target_in_range : (w : Waypoint) → edge sp r body from to ≡ Some w → in_range r to ≡ true
  unfolding edge
  target_in_range w e = made (moving r body rise) e
    where
      pick : (m : Movement) (l : Float) (b : Bool) → passable sp r body from to l ≡ b → cond b (Some (waypoint_by sp body from to l m)) None ≡ Some w → in_range r to ≡ true
      pick m l true p e = unfold passable in and_first _ _ (and_first _ _ (and_first _ _ (and_first _ _ p)))
      pick m l false p e = nowhere_to e

      made : (m : Option (Movement × Float)) → edge_by sp r body from to m ≡ Some w → in_range r to ≡ true
      made None e = nowhere_to e
      made (Some (m, l)) e = pick m l (passable sp r body from to l) refl e
