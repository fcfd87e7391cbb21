-- `reach::visit` meets its contract. Assumes nothing.
use Rattle.std.proofs.Common.{◌<◌, ◌≡◌, refl, sym, subst, ◌∙◌, true, length}
use Rattle.rooms.specs.declared.Entry.{Entry}
use Rattle.rooms.specs.Writes.{WroteEntry}
use Rattle.costs.specs.Costs.{cost_by, pushed_as}
use Rattle.visits.specs.Visits.{Ready, ready}
use Rattle.visits.proofs.Laws.Visits.{ready_is, numbered, node_inside, entry_inside, pushes_fit, drops_fit, retains_fit, visited_known, visited_drop, visited_new, visited_if, visited_not, shut_known, shut_none}
use Rattle.reach.proofs.visit.Goals as goal
use Rattle.reach.proofs.visit.Goals.{Else-not-ready}

-- the first test, as the definition has it, and what it says
passed : (s : Else-not-ready) → ready (length s.args.nodes.now) (length s.args.front.now) s.args.aim.budget s.args.at.number s.args.c ≡ true
passed s = sym s.is_ready-ready.ensures ∙ s.if-not-ready.false

known : (s : Else-not-ready) → Ready s.args.nodes.now s.args.front.now s.args.aim.budget 1 s.args.c × (s.args.at.number < s.args.c.retained)
known s =
    let a = s.args in
    ready_is a.nodes.now a.front.now a.aim.budget a.at.number a.c (passed s)

pub returns-then-not-ready : goal.returns-then-not-ready
returns-then-not-ready c = visited_not (sym c.is_ready-ready.ensures ∙ c.if-not-ready.true)

pub again-requires : goal.again-requires
again-requires c =
    let r = known (goal.at.again-requires c).Else-not-ready in
    record { ready = r.0; j_lt_retained = (c.if-j-n.true, r.1) }

pub returns-then-j-n : goal.returns-then-j-n
returns-then-j-n c =
    let a = c.args in
    let r = known (goal.at.returns-then-j-n c).Else-not-ready in
    let v = visited_known a.aim a.at.number a.c a.nodes.now a.front.now r.0.few a.at.node a.to.feet a.to.label a.j (cost_by a.at.node.cost a.at.node.feet a.to.feet) refl c.if-j-n.true c.again.ensures.0 in
    visited_if (passed (goal.at.returns-then-j-n c).Else-not-ready) (c.again.ensures.1 ∙ sym (shut_known a.nodes.now a.c.retained a.j c.if-j-n.true)) v

pub overflow_add-result : goal.overflow_add-result
overflow_add-result c = drops_fit (known (goal.at.overflow_add-result c).Else-not-ready).0

pub returns-then-aim-n : goal.returns-then-aim-n
returns-then-aim-n c =
    let a = c.args in
    let v = visited_drop a.aim a.at.number a.c a.nodes.now a.front.now (known (goal.at.returns-then-aim-n c).Else-not-ready).0.few a.at.node a.to.feet a.to.label a.j c.if-j-n.false c.if-aim-n.true in
    visited_if (passed (goal.at.returns-then-aim-n c).Else-not-ready) (sym (shut_none a.nodes.now a.c.retained a.j c.if-j-n.false)) v

pub put_open-requires : goal.put_open-requires
put_open-requires c =
    let a = c.args in
    let r = known (goal.at.put_open-requires c).Else-not-ready in
    (node_inside r.0 a.c.retained c.if-aim-n.false, entry_inside r.0 a.c.retained c.if-aim-n.false, numbered r.0 a.at.number r.1)

pub overflow_add-result-2 : goal.overflow_add-result-2
overflow_add-result-2 c = retains_fit (known (goal.at.overflow_add-result-2 c).Else-not-ready).0

pub overflow_add-result-3 : goal.overflow_add-result-3
overflow_add-result-3 c = pushes_fit (known (goal.at.overflow_add-result-3 c).Else-not-ready).0

pub returns : goal.returns
returns c =
    let a = c.args in
    let r = known (goal.at.returns c).Else-not-ready in
    let w = subst (λ (e : Entry). WroteEntry a.front.now a.c.retained e c.put_open.new.front) (c.pushed_as-entry.ensures ∙ (λ i. pushed_as (c.estimate-e.ensures i) a.c.pushed)) c.put_open.ensures.1 in
    let v = visited_new a.aim a.at.number a.c a.nodes.now a.front.now r.0.few a.at.node a.to.feet a.to.label a.j c.cost_by-cost.result c.cost_by-cost.ensures c.if-j-n.false c.if-aim-n.false (numbered r.0 a.at.number r.1) c.put_open.ensures.0 w in
    visited_if (passed (goal.at.returns c).Else-not-ready) (sym (shut_none a.nodes.now a.c.retained a.j c.if-j-n.false)) v
