-- 01's policy meets the laws that the claims ask of a policy, and each step adds at most one push to its book.
use Rattle.std.specs.Prelude.{ℕ, suc, ◌+◌, ◌≤◌, ◌≡◌, refl, Bool, true, false}
use Rattle.std.proofs.Common.{arith}
use Rattle.std.proofs.Math.Option.{some}
use Rattle.exploration.specs.Graph.{Graph}
use Rattle.exploration.specs.Policy.{PolicyLaws}
use Rattle.exploration.proofs.Laws.Counts.{OneByOne}
use Rattle.exploration.proofs.Laws.Lists.{none_some}
use Rattle.exploration.proofs.Laws.Choices.{choose_some, choose_none}
use Rattle.rooms.specs.declared.Feet.{Feet}
use Rattle.rooms.specs.declared.Label.{Label}
use Rattle.rooms.specs.declared.Entry.{Entry}
use Rattle.rooms.specs.Scans.{waits}
use Rattle.rooms.specs.Rooms.{Note, node_waits, node_sooner}
use Rattle.costs.specs.Costs.{cost_by, estimate_by, cheaper, lowers, lowered_by, lowered}
use Rattle.visits.specs.Best.{opened, given, relaxed, best}

pub given_is : {A : Type 0} (b : Bool) (x r : A) → given b x ≡ some r → x ≡ r
given_is true x r e = cc
given_is false x r e = absurd (none_some e)

lower_waits : (b : Bool) (e : ℕ) (old : Entry) (g : ℕ) → waits (lowered_by b e old g) ≡ true
lower_waits true e old g = refl
lower_waits false e old g = refl

relaxed_waits : (goal : Feet) (cost : ℕ) (to : Feet) (old : Note) (g : ℕ) (r : Note × ℕ) → relaxed goal cost to old g ≡ some r → waits r.0.entry ≡ true
unfolding relaxed lowered
relaxed_waits goal cost to old g r e =
    let z = given_is (cheaper cost old.cost) (opened cost (lowered (estimate_by goal cost to) old.entry g), g + 1) r e in
    rw (← z) (lower_waits (lowers (estimate_by goal cost to) old.entry) (estimate_by goal cost to) old.entry g)

pub best_laws : (goal : Feet) → PolicyLaws (best goal)
unfolding best
best_laws goal = record {
  pick_some = λ ns g r e. choose_some node_waits node_sooner ns r e;
  pick_none = λ ns g e. choose_none node_waits node_sooner ns e;
  opening_waits = refl;
  shut_waits = λ a. refl;
  admit_waits = λ f w g. refl;
  relax_waits = λ f t w g r e. relaxed_waits goal (cost_by f.note.cost f.point w.0) w.0 t.note g r e;
}

relaxed_pushes : (goal : Feet) (cost : ℕ) (to : Feet) (old : Note) (g : ℕ) (r : Note × ℕ) → relaxed goal cost to old g ≡ some r → r.1 ≤ suc g
unfolding relaxed
relaxed_pushes goal cost to old g r e =
    let z = given_is (cheaper cost old.cost) (opened cost (lowered (estimate_by goal cost to) old.entry g), g + 1) r e in rw (← z) (omega arith)

pub best_pushes : (𝓖 : Graph Feet Label) (goal : Feet) → OneByOne 𝓖 (best goal) (λ g. g)
unfolding best
best_pushes 𝓖 goal = record {
  admits = λ f w g. omega arith;
  relaxes = λ f t w g a e. relaxed_pushes goal (cost_by f.note.cost f.point w.0) w.0 t.note g a e;
}
