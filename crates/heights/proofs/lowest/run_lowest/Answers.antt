-- `heights::lowest::run_lowest` meets its contract. Assumes nothing.
use Rattle.std.proofs.Common.{ℕ, sym, ap, ◌∙◌, List, Float}
use mathlib.Core.List.{map, foldl}
use Rattle.world.specs.declared.Aabb.{Aabb}
use Rattle.world.specs.Boxes.{moved}
use Rattle.world.specs.Run.{boxes_left}
use Rattle.heights.specs.Heights.{tops_of}
use Rattle.heights.specs.Put.{taken}
use Rattle.heights.proofs.Laws.{fold_cons}
use Rattle.heights.proofs.lowest.run_lowest.Goals as goal
use Rattle.heights.proofs.lowest.run_lowest.Goals.{Start}

-- what boxes that are left make of the lowest so far
abbrev made : (s : Start) → List Float × ℕ → List Aabb → List Float × ℕ
made s t bs = let a = s.args in foldl (taken a.after) t (tops_of a.shaft.band a.shaft.x a.shaft.z (map (λ (b : Aabb). moved b a.by) bs))

pub loop-b-preserved : goal.loop-b-preserved
loop-b-preserved c =
    let a = c.args in
    let l = c.loop-b in
    let s = (goal.at.loop-b-preserved c).Start in (
      c.take_box-so_far.auto.room ∙ l.invariant.0,
      c.take_box-so_far.ensures.upper_bound,
      l.invariant.2 ∙ ap (made s (l.room, l.so_far)) c.in-Some.ensures.steps
          ∙ fold_cons a.shaft.band a.shaft.x a.shaft.z (taken a.after) (l.room, l.so_far) (moved c.in-Some.b a.by) _
          ∙ ap (λ (t : List Float × ℕ). made s t (boxes_left c.next.new.self)) (sym (rw c.offset.ensures at c.take_box-so_far.ensures.result_after)),
    )

pub returns-clause-result_after : goal.returns-clause-result_after
unfolding tops_of
returns-clause-result_after c =
    let l = c.loop-b in
    sym (l.invariant.2 ∙ ap (made (goal.at.returns-clause-result_after c).Start (l.room, l.so_far)) c.in-None.ensures.steps.0)
