-- `visits::close` meets its contract. Assumes nothing.
use Rattle.std.proofs.Common.{lt_of_lt_of_le, ◌<◌, ◌≡◌, refl, sym, subst, ◌∙◌, true, length}
use Rattle.exploration.proofs.Laws.Lists.{true_false}
use Rattle.rooms.specs.declared.NodeRecord.{NodeRecord}
use Rattle.rooms.specs.Writes.{WroteNode}
use Rattle.visits.specs.Visits.{Ready, ready}
use Rattle.visits.proofs.Laws.Visits.{ready_is, node_inside, entry_inside, closes_fit, shut_record, closes}
use Rattle.visits.proofs.close.Goals as goal
use Rattle.visits.proofs.close.Goals.{Else-not-ready}

pub returns-then-not-ready : goal.returns-then-not-ready
returns-then-not-ready c = record { node = c.get_node-node.ensures; done = λ e. absurd (true_false e (sym c.is_ready-ready.ensures ∙ c.if-not-ready.true)); left = λ e. record { counts = refl; nodes = refl; front = refl } }

-- the test, as the definition has it, and what it says
passed : (s : Else-not-ready) → ready (length s.args.nodes.now) (length s.args.front.now) s.args.aim.budget s.args.k s.args.c ≡ true
passed s = sym s.is_ready-ready.ensures ∙ s.if-not-ready.false

known : (s : Else-not-ready) → Ready s.args.nodes.now s.args.front.now s.args.aim.budget 1 s.args.c × (s.args.k < s.args.c.retained)
known s =
    let a = s.args in
    ready_is a.nodes.now a.front.now a.aim.budget a.k a.c (passed s)

pub overflow_add-counts : goal.overflow_add-counts
overflow_add-counts c = closes_fit (known (goal.at.overflow_add-counts c).Else-not-ready).0

pub returns : goal.returns
returns c =
    let a = c.args in
    let o = c.get_node-node.ensures in
    let r = known (goal.at.returns c).Else-not-ready in
    let l = lt_of_lt_of_le r.1 r.0.few in
    let p = subst (λ (n : NodeRecord). WroteNode a.nodes.now a.k (shut_record n) c.put_node.new.nodes) o (c.put_node.ensures.wrote (node_inside r.0 a.k l)) in
    let w = c.put_entry.ensures.wrote (entry_inside r.0 a.k l) in
    record { node = o; done = λ e. closes a.aim a.k a.c a.nodes.now a.front.now r.1 r.0.few p w; left = λ e. absurd (true_false (passed (goal.at.returns c).Else-not-ready) e) }
