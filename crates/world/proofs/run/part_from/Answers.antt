-- `world::run::part_from` meets its contract. Assumes nothing.
use Rattle.std.proofs.Common.{◌≤◌, arith, ◌≡◌, ap, ◌∙◌, length, drop}
use Rattle.world.specs.Laws.{part_is, part_past}
use Rattle.world.proofs.run.part_from.Goals as goal
use Rattle.world.proofs.run.part_from.Goals.{Joined-at-end, then-at-end, else-at-end}

-- where the part starts: at the offset, or at the table's end, from which on there is as little
start_end : (c : Joined-at-end) → c.if-at-end.start ≤ length c.args.s.now
start_end c =
    elim c.if-at-end.branch [
      | then-at-end w ↦ omega arith
      | else-at-end w ↦ omega arith
    ]

start_same : (c : Joined-at-end) → drop c.if-at-end.start c.args.s.now ≡ drop c.args.at c.args.s.now
start_same c =
    let l = c.args.s.now in
    elim c.if-at-end.branch [
      | then-at-end w ↦ ap (λ n. drop n l) w.start-is
      | else-at-end w ↦ ap (λ n. drop n l) w.start-is ∙ part_past c.args.at l w.if-at-end.false
    ]

pub slice_bounds-result-count : goal.slice_bounds-result-count
slice_bounds-result-count c = start_end (goal.at.slice_bounds-result-count c).Joined-at-end

pub returns : goal.returns
returns c = part_is c.if-at-end.start c.args.s.now ∙ start_same (goal.at.returns c).Joined-at-end
