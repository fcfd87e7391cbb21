-- `strides::step_to` meets its contract. Assumes nothing.
use mathlib.Core.Path.{◌≡◌, sym, ap}
use mathlib.Core.Bool.{◌||◌}
use Rattle.rooms.specs.declared.Counts.{Counts}
use Rattle.visits.specs.Visits.{counts_by}
use Rattle.strides.specs.Strides.{Strode}
use Rattle.strides.specs.Laws.{strode_nowhere, strode_to}
use Rattle.strides.proofs.step_to.Goals as goal
use Rattle.strides.proofs.step_to.Goals.{After-visit}

-- an edge that was visited, whatever the visit answers
visited : (c : After-visit) {r : Counts} → let a = c.args in counts_by a.c.counts c.visit.result ≡ r →
    Strode a.aim a.at a.edge a.j a.c (record { counts = r; level = a.c.level || c.is_level.result }) a.nodes.now a.front.now c.visit.new.nodes c.visit.new.front
visited c e =
    strode_to _ c.in-Some.way c.feet_of.result c.label_of.result c.is_level.result (sym c.in-Some.is) c.feet_of.ensures c.label_of.ensures c.is_level.ensures c.visit.ensures e

pub returns-in_default : goal.returns-in_default
returns-in_default c = strode_nowhere _ (sym c.in_default.is)

pub returns-in_default-visit : goal.returns-in_default-visit
returns-in_default-visit c = let w = visited (goal.at.returns-in_default-visit c).After-visit (ap (counts_by c.args.c.counts) c.in_default-visit.is) in record { noted = w.noted; visited = w.visited }

pub returns : goal.returns
returns c = let w = visited (goal.at.returns c).After-visit (ap (counts_by c.args.c.counts) c.in-Some-visit.is) in record { noted = w.noted; visited = w.visited }
