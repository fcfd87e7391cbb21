-- 01's policy: "lowest estimate first, then earliest push. Estimate = cost + 1.5 × distance to goal (start 0). .. An open point is re-parented, with the new
-- edge's movement and lift, and pushed again only if new cost + E < old cost." And 02, No. 5: "A re-parented node takes the new edge's door." The book is the number of
-- pushes. Definitions only.
use Rattle.std.specs.Prelude.{ℕ, ◌+◌, Bool, true, false}
use Rattle.std.proofs.Math.Option.{Option, none, some}
use Rattle.exploration.specs.Policy.{Policy}
use Rattle.exploration.specs.Choose.{choose}
use Rattle.rooms.specs.declared.Feet.{Feet}
use Rattle.rooms.specs.declared.Label.{Label}
use Rattle.rooms.specs.declared.Entry.{Entry}
use Rattle.rooms.specs.Scans.{waits, idle}
use Rattle.rooms.specs.Rooms.{Note, node_waits, node_sooner}
use Rattle.costs.specs.Costs.{cost_by, estimate_by, cheaper, pushed_as, lowered}

abbrev pub opened : ℕ → Entry → Note
opened c e = record { cost = c; mark = 0; entry = e }

abbrev pub given : {A : Type 0} → Bool → A → Option A
given true x = some x
given false x = none

-- what a cost makes of an open node's note, where it is low enough
unfoldable pub relaxed : Feet → ℕ → Feet → Note → ℕ → Option (Note × ℕ)
relaxed goal cost to old g = given (cheaper cost old.cost) (opened cost (lowered (estimate_by goal cost to) old.entry g), g + 1)

unfoldable pub best : Feet → Policy Feet Label Note ℕ
best goal = record {
  waits = λ a. waits a.entry;
  pick = λ ns g. choose node_waits node_sooner ns;
  opening = (opened 0 (pushed_as 0 0), 1);
  shut = λ a. record { cost = a.cost; mark = 1; entry = idle };
  admit = λ f w g. (opened (cost_by f.note.cost f.point w.0) (pushed_as (estimate_by goal (cost_by f.note.cost f.point w.0) w.0) g), g + 1);
  relax = λ f t w g. relaxed goal (cost_by f.note.cost f.point w.0) w.0 t.note g;
}
