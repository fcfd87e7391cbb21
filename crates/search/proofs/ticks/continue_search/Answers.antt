-- `search::ticks::continue_search` meets its contract. Assumes nothing.
use Rattle.std.proofs.Common.{◌≡◌, sym, ◌∙◌, true, false, arith, length}
use mathlib.Core.Option.{none}
use Rattle.std.proofs.lemmas.Result.{err_from_is_err_and}
use Rattle.steps.specs.Bounds.{steps_bounded}
use Rattle.index.proofs.Laws.{indexed_none, zero_slots}
use Rattle.refusals.specs.Refusals.{without_call}
use Rattle.refusals.proofs.Unique.{refused_as, not_refused}
use Rattle.refusals.proofs.Laws.{Passed, passes}
use Rattle.progress.specs.Progress.{good_progress}
use Rattle.progress.specs.Laws.{CountBounds, progress_bounds}
use Rattle.search.proofs.Laws.Ticks.{left_refused, left_bad, ready_on, holds_on, goes_from, holds_over}
use Rattle.search.proofs.ticks.continue_search.Goals as goal
use Rattle.search.proofs.ticks.continue_search.Goals.{In_ok-judge_call, Else-not-good}

pub returns-in_err-judge_call : goal.returns-in_err-judge_call
returns-in_err-judge_call c =
    let a = c.args in
    let p = err_from_is_err_and c.from_residual.result c.from_residual.ensures.1 in
    rw (p.1, p.2) (record {
      gives = left_refused a.query.world.window a.query.world.cells.now a.query.world.perms.now a.query.world.shapes.now a.query.world.boxes.now a.query.request a.query.body a.nodes.now a.front.now a.out.now a.c a.expansions
          c.in_err-judge_call.field-0.0 (refused_as _ _ c.in_err-judge_call.ensures);
      goes_from = tt;
    })

-- the call passed
goes : (c : In_ok-judge_call) → let a = c.args in none ≡ without_call a.query.world.window a.query.world.cells.now a.query.world.shapes.now a.query.world.boxes.now a.query.request a.query.body (length a.nodes.now) (length a.front.now) (length a.out.now) false
goes c = not_refused _ _ c.in_ok-judge_call.ensures

pub returns-then-not-good : goal.returns-then-not-good
returns-then-not-good c =
    let a = c.args in
    record {
      gives = left_bad a.query.world.window a.query.world.cells.now a.query.world.perms.now a.query.world.shapes.now a.query.world.boxes.now a.query.request a.query.body a.nodes.now a.front.now a.out.now a.c a.expansions
          (goes (goal.at.returns-then-not-good c).In_ok-judge_call) (sym c.good_progress-good.ensures ∙ c.if-not-good.true);
      goes_from = tt;
    }

-- what is known where expansions are made
good : (c : Else-not-good) → let a = c.args in good_progress a.query.request a.nodes.now a.front.now a.c a.expansions ≡ true
good c = sym c.good_progress-good.ensures ∙ c.if-not-good.false

passed : (c : Else-not-good) → let a = c.args in Passed a.query.world.window a.query.world.cells.now a.query.world.shapes.now a.query.world.boxes.now a.query.request a.query.body (length a.nodes.now) (length a.front.now) (length a.out.now) false
passed c = let a = c.args in passes a.query.world.window a.query.world.cells.now a.query.world.shapes.now a.query.world.boxes.now a.query.request a.query.body (length a.nodes.now) (length a.front.now) (length a.out.now) false (sym (not_refused _ _ c.in_ok-judge_call.ensures))

bounds : (c : Else-not-good) → let a = c.args in CountBounds a.query.request.node_budget a.c a.expansions
bounds c = let a = c.args in progress_bounds a.query.request a.nodes.now a.front.now a.c a.expansions (good c)

pub spin-turn-requires : goal.spin-turn-requires
spin-turn-requires c =
    let a = c.args in
    let p = passed (goal.at.spin-turn-requires c).Else-not-good in
    record {
      ready = ready_on a.query.world.window a.query.world.cells.now a.query.world.perms.now a.query.world.shapes.now a.query.world.boxes.now a.query.request a.query.body a.nodes.now a.front.now a.out.now a.c a.expansions p (bounds (goal.at.spin-turn-requires c).Else-not-good);
      goal_value = (c.feet_of-goal.ensures, steps_bounded _ _ _ _ _ _ _ p.world);
      indexed = indexed_none a.nodes.now (zero_slots 32768);
    }

pub returns-then-goes_on : goal.returns-then-goes_on
returns-then-goes_on c =
    let a = c.args in
    let s = c.spin-turn in
    let d = (goal.at.returns-then-goes_on c).In_ok-judge_call in
    let e = (goal.at.returns-then-goes_on c).Else-not-good in
    let on = sym c.goes_on.ensures ∙ c.if-goes_on.true in
    rw c.counts_of-counts.ensures (record {
      gives = holds_on a.query.world.window a.query.world.cells.now a.query.world.perms.now a.query.world.shapes.now a.query.world.boxes.now a.query.request a.query.body a.nodes.now a.front.now a.out.now a.c a.expansions (passed e) (bounds e) c.feet_of-goal.ensures s.ensures (λ i. omega (arith, c.slice_known-4-1.given i)) (λ i. omega (arith, c.slice_known-5-1.given i)) s.auto.nodes s.auto.front (goes d) (good e) on;
      goes_from = goes_from a.query.world.window a.query.world.cells.now a.query.world.perms.now a.query.world.shapes.now a.query.world.boxes.now a.query.request a.query.body a.nodes.now a.front.now a.out.now a.c a.expansions (passed e) (bounds e) c.feet_of-goal.ensures s.ensures (λ i. omega (arith, c.slice_known-4-1.given i)) (λ i. omega (arith, c.slice_known-5-1.given i)) s.auto.nodes s.auto.front (goes d) (good e) on;
    })

pub returns : goal.returns
returns c =
    let a = c.args in
    let s = c.spin-turn in
    let d = (goal.at.returns c).In_ok-judge_call in
    let e = (goal.at.returns c).Else-not-good in
    let x = c.conclude-answer.ensures in
    rw c.counts_of-counts.ensures (record {
      gives = holds_over a.query.world.window a.query.world.cells.now a.query.world.perms.now a.query.world.shapes.now a.query.world.boxes.now a.query.request a.query.body a.nodes.now a.front.now a.out.now a.c a.expansions (passed e) (bounds e) c.feet_of-goal.ensures s.ensures (λ i. omega (arith, c.slice_known-4-1.given i)) (λ i. omega (arith, c.slice_known-5-1.given i)) s.auto.nodes s.auto.front (goes d) (good e) (sym c.goes_on.ensures ∙ c.if-goes_on.false) (x.result_value, x.out_after) x.front_after;
      goes_from = tt;
    })
