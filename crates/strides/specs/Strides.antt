-- What one edge of an expansion makes of the rooms, and of what is noted of its column. Definitions only.
use Rattle.std.specs.Prelude.{◌≡◌, Option, Some, None, Bool, true, false, ◌||◌, List, ℕ, length}
use Rattle.world.specs.declared.Point.{Point}
use Rattle.moves.specs.declared.answer.Waypoint.{Waypoint}
use Rattle.sides.specs.Sides.{level_to}
use Rattle.words.specs.Words.{feet_of, label_of}
use Rattle.rooms.specs.declared.Counts.{Counts}
use Rattle.visits.specs.declared.Aim.{Aim}
use Rattle.visits.specs.declared.Place.{Place}
use Rattle.visits.specs.Visits.{ready, Untouched, Visited}
use Rattle.strides.specs.declared.Column.{Column}

-- whether there is an edge and it does not climb
abbrev pub level_by : Point → Option Waypoint → Bool
level_by from None = false
level_by from (Some w) = level_to from w.feet

-- without an edge nothing changes; else, in rooms that are ready for it, the step is what the theory makes of it where a lookup gave j
abbrev pub VisitedBy : Aim → Place → Option Waypoint → ℕ → Counts → Counts → List ℕ → List ℕ → List ℕ → List ℕ → Type 0
VisitedBy aim at None j c r a f b g = Untouched c r a f b g
VisitedBy aim at (Some w) j c r a f b g =
    (ready (length a) (length f) aim.budget at.number c ≡ true → Visited aim at.number at.node c j (feet_of w.feet) (label_of w) r a f b g)
    × (ready (length a) (length f) aim.budget at.number c ≡ false → Untouched c r a f b g)

-- also at a closed node the edge is noted: "a closed side still answers"
pub record Strode (aim : Aim) (at : Place) (edge : Option Waypoint) (j : ℕ) (c r : Column) (a f b g : List ℕ) : Type 0 where
  pub noted : r.level ≡ (c.level || level_by at.point edge)
  pub visited : VisitedBy aim at edge j c.counts r.counts a f b g
