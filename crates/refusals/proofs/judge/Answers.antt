-- `refusals::judge` meets its contract. Assumes nothing.
use Rattle.std.proofs.Common.{◌≡◌, sym, ap, ◌∙◌, Bool, true, false, cond, eq-eqb, ne_eqb, eqb}
use Rattle.std.proofs.lemmas.Result.{err_from_is_err_and}
use mathlib.Core.Option.{none, some}
use Rattle.outcomes.specs.declared.Outcome.TheVariants.{BudgetExceeded}
use Rattle.refusals.specs.Refusals.{without_call, without_search, refused_with}
use Rattle.refusals.proofs.Unique.{refused_as, not_refused}
use Rattle.refusals.proofs.Laws.{search_refused, out_bad_end, out_last}
use Rattle.refusals.proofs.judge.Goals as goal
use Rattle.refusals.proofs.judge.Goals.{Else-not-ends_good, In_ok-judge_call}

pub returns-in_err-judge_call : goal.returns-in_err-judge_call
returns-in_err-judge_call c =
    let q = c.args.query in
    let o = c.in_err-judge_call.field-0.0 in
    let p = err_from_is_err_and c.from_residual.result c.from_residual.ensures.1 in
    rw (p.1, p.2) (ap refused_with (search_refused q.world.window q.world.cells.now q.world.shapes.now q.world.boxes.now q.request q.body c.args.nodes c.args.front c.args.out c.args.wrong_index q.world.perms.now o (refused_as o _ c.in_err-judge_call.ensures)))

-- the call passed
passed : (c : In_ok-judge_call) → let q = c.args.query in none ≡ without_call q.world.window q.world.cells.now q.world.shapes.now q.world.boxes.now q.request q.body c.args.nodes c.args.front c.args.out c.args.wrong_index
passed c = not_refused c.in_ok-judge_call.field-0 _ c.in_ok-judge_call.ensures

pub returns-then-not-ends_good : goal.returns-then-not-ends_good
returns-then-not-ends_good c =
    let q = c.args.query in
    ap refused_with (out_bad_end q.world.window q.world.cells.now q.world.shapes.now q.world.boxes.now q.request q.body c.args.nodes c.args.front c.args.out c.args.wrong_index q.world.perms.now (passed (goal.at.returns-then-not-ends_good c).In_ok-judge_call) (sym c.ends_good.ensures ∙ c.if-not-ends_good.true))

-- past all tests but the last: a search, or none where it has nothing to spend
last : (c : Else-not-ends_good) → let q = c.args.query in
    none ≡ without_call q.world.window q.world.cells.now q.world.shapes.now q.world.boxes.now q.request q.body c.args.nodes c.args.front c.args.out c.args.wrong_index → (nothing : Bool) → eqb q.request.node_budget 0 ≡ nothing →
    cond nothing (some BudgetExceeded) none ≡ without_search q.world.window q.world.cells.now q.world.perms.now q.world.shapes.now q.world.boxes.now q.request q.body c.args.nodes c.args.front c.args.out c.args.wrong_index
last c p = let q = c.args.query in out_last q.world.window q.world.cells.now q.world.shapes.now q.world.boxes.now q.request q.body c.args.nodes c.args.front c.args.out c.args.wrong_index q.world.perms.now p (sym c.ends_good.ensures ∙ c.if-not-ends_good.false)

pub returns-then-query-eq0 : goal.returns-then-query-eq0
returns-then-query-eq0 c = ap refused_with (last (goal.at.returns-then-query-eq0 c).Else-not-ends_good (passed (goal.at.returns-then-query-eq0 c).In_ok-judge_call) true (eq-eqb _ _ c.if-query-eq0.true))

pub returns : goal.returns
returns c = ap refused_with (last (goal.at.returns c).Else-not-ends_good (passed (goal.at.returns c).In_ok-judge_call) false (ne_eqb _ _ c.if-query-eq0.false))
