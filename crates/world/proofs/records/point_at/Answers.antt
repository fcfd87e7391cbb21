-- `world::records::point_at` meets its contract. Assumes nothing.
use Rattle.std.proofs.Common.{arith, ◌≤◌, ◌≡◌, ap, ◌∙◌, length}
use Rattle.world.specs.Space.{point_at}
use Rattle.world.specs.Laws.{point_past}
use Rattle.world.proofs.records.point_at.Goals as goal
use Rattle.world.proofs.records.point_at.Goals.{Joined-at-end, then-at-end, else-at-end}

-- where it reads from: the offset, or the table's end, at which the same is read
from_end : (c : Joined-at-end) → c.if-at-end.from ≤ length c.args.s.now
from_end c =
    elim c.if-at-end.branch [
      | then-at-end w ↦ omega arith
      | else-at-end w ↦ omega arith
    ]

from_same : (c : Joined-at-end) → point_at c.args.s.now c.if-at-end.from ≡ point_at c.args.s.now c.args.at
from_same c =
    let l = c.args.s.now in
    elim c.if-at-end.branch [
      | then-at-end w ↦ ap (point_at l) w.from-is
      | else-at-end w ↦ ap (point_at l) w.from-is ∙ point_past l c.args.at w.if-at-end.false
    ]

pub overflow_add-from : goal.overflow_add-from
overflow_add-from c = record { fits = omega (arith, from_end (goal.at.overflow_add-from c).Joined-at-end) }

pub overflow_add-from-2 : goal.overflow_add-from-2
overflow_add-from-2 c = record { fits = omega (arith, from_end (goal.at.overflow_add-from-2 c).Joined-at-end) }

pub returns : goal.returns
returns c = rw (c.f64_at.ensures, c.f64_at-2.ensures, c.f64_at-3.ensures) (unfold point_at in from_same (goal.at.returns c).Joined-at-end)
