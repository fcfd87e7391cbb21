-- `openings::begin_search` meets its contract. Assumes nothing.
use Rattle.std.proofs.Common.{◌≡◌, sym, false, arith, length}
use Rattle.std.proofs.lemmas.Result.{err_from_is_err_and}
use mathlib.Core.Option.{none}
use Rattle.refusals.specs.Refusals.{without_search}
use Rattle.refusals.proofs.Unique.{refused_as, not_refused}
use Rattle.refusals.proofs.Laws.{Passed, begins}
use Rattle.openings.proofs.Laws.{holds_refused, state_is, holds_begun}
use Rattle.openings.proofs.begin_search.Goals as goal
use Rattle.openings.proofs.begin_search.Goals.{In_ok-judge}

pub returns-in_err-judge : goal.returns-in_err-judge
returns-in_err-judge c =
    let a = c.args in
    let q = a.query in
    let o = c.in_err-judge.field-0.0 in
    let p = err_from_is_err_and c.from_residual.result c.from_residual.ensures.1 in
    rw (p.1, p.2) (record { gives = holds_refused q.world.window q.world.cells.now q.world.perms.now q.world.shapes.now q.world.boxes.now q.request q.body a.nodes.now a.front.now a.out.now o (refused_as o _ c.in_err-judge.ensures); goes_from = tt })

-- the search begins
goes : (c : In_ok-judge) → let a = c.args in let q = a.query in none ≡ without_search q.world.window q.world.cells.now q.world.perms.now q.world.shapes.now q.world.boxes.now q.request q.body (length a.nodes.now) (length a.front.now) (length a.out.now) false
goes c = not_refused c.in_ok-judge.field-0 _ c.in_ok-judge.ensures

passed : (c : In_ok-judge) → let a = c.args in let q = a.query in Passed q.world.window q.world.cells.now q.world.shapes.now q.world.boxes.now q.request q.body (length a.nodes.now) (length a.front.now) (length a.out.now) false
passed c = let a = c.args in let q = a.query in begins q.world.window q.world.cells.now q.world.shapes.now q.world.boxes.now q.request q.body (length a.nodes.now) (length a.front.now) (length a.out.now) false q.world.perms.now (sym (goes c))

pub returns : goal.returns
returns c =
    let a = c.args in
    let q = a.query in
    let b = c.begin-counts in
    let s = rw c.feet_of.ensures at b.ensures in
    let begun = passed (goal.at.returns c).In_ok-judge in
    record {
      gives = holds_begun q.world.window q.world.cells.now q.world.perms.now q.world.shapes.now q.world.boxes.now q.request q.body a.nodes.now a.front.now a.out.now begun c.zero.ensures s (λ i. omega (arith, c.type_inv.nodes i)) (λ i. omega (arith, c.type_inv.front i)) b.auto.nodes b.auto.front (goes (goal.at.returns c).In_ok-judge);
      goes_from = state_is q.world.window q.world.cells.now q.world.perms.now q.world.shapes.now q.world.boxes.now q.request q.body a.nodes.now a.front.now a.out.now begun c.zero.ensures s (λ i. omega (arith, c.type_inv.nodes i)) (λ i. omega (arith, c.type_inv.front i)) b.auto.nodes b.auto.front;
    }
