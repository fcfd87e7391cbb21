-- `reach::again` meets its contract. Assumes nothing.
use Rattle.std.proofs.Common.{ℕ, lt_of_lt_of_le, ◌≡◌, sym, ap, subst, ◌∙◌, ◌≢◌}
use Rattle.rooms.specs.declared.NodeRecord.{NodeRecord}
use Rattle.rooms.specs.declared.Entry.{Entry}
use Rattle.rooms.specs.Records.{node_at}
use Rattle.rooms.specs.Writes.{WroteNode, WroteEntry}
use Rattle.costs.specs.Costs.{cost_by, estimate_by, cheaper, lowered}
use Rattle.visits.proofs.Laws.Visits.{numbered, node_inside, entry_inside, pushes_fit, child_record, seen_shut, seen_dear, seen_lower, is_shut_lem, is_open}
use Rattle.reach.proofs.again.Goals as goal
use Rattle.reach.proofs.again.Goals.{After-cheaper-better, Else-old-ne0}

pub returns-then-old-ne0 : goal.returns-then-old-ne0
returns-then-old-ne0 c =
    let a = c.args in
    let h : (node_at a.nodes.now a.j).closed ≢ 0 = λ e. c.if-old-ne0.true (ap (λ (r : NodeRecord). r.closed) c.get_node-old.ensures ∙ e) in
    (seen_shut a.aim a.at.number a.c a.nodes.now a.front.now c.requires.ready.few a.j (cost_by a.at.node.cost a.at.node.feet a.to.feet) a.to.feet a.to.label h, is_shut_lem (node_at a.nodes.now a.j) h)

-- node j is open, once the first test failed
unclosed : (s : Else-old-ne0) → (node_at s.args.nodes.now s.args.j).closed ≡ 0
unclosed s = sym (ap (λ (r : NodeRecord). r.closed) s.get_node-old.ensures) ∙ s.if-old-ne0.false

-- what the second test answers
compared : (s : After-cheaper-better) → let a = s.args in s.cheaper-better.result ≡ cheaper (cost_by a.at.node.cost a.at.node.feet a.to.feet) (node_at a.nodes.now a.j).cost
compared s = s.cheaper-better.ensures ∙ (λ i. cheaper (s.cost_by-cost.ensures i) (s.get_node-old.ensures i).cost)

pub returns-then-not-better : goal.returns-then-not-better
returns-then-not-better c =
    let a = c.args in
    let h = unclosed (goal.at.returns-then-not-better c).Else-old-ne0 in
    (seen_dear a.aim a.at.number a.c a.nodes.now a.front.now c.requires.ready.few a.j (cost_by a.at.node.cost a.at.node.feet a.to.feet) a.to.feet a.to.label h (sym (compared (goal.at.returns-then-not-better c).After-cheaper-better) ∙ c.if-not-better.true), is_open (node_at a.nodes.now a.j) h)

pub put_open-requires : goal.put_open-requires
put_open-requires c =
    let l = lt_of_lt_of_le c.requires.j_lt_retained.0 c.requires.ready.few in
    (node_inside c.requires.ready c.args.j l, entry_inside c.requires.ready c.args.j l, numbered c.requires.ready c.args.at.number c.requires.j_lt_retained.1)

pub overflow_add-result : goal.overflow_add-result
overflow_add-result c = pushes_fit c.requires.ready

pub returns : goal.returns
returns c =
    let a = c.args in
    let cost = c.cost_by-cost.ensures in
    let p = subst (λ (n : NodeRecord). WroteNode a.nodes.now a.j n c.put_open.new.nodes) (λ i. child_record a.at.number (c.get_node-old.ensures i).feet a.to.label (cost i)) c.put_open.ensures.0 in
    let e = c.estimate-e.ensures ∙ ap (λ (x : ℕ). estimate_by a.aim.goal x a.to.feet) cost in
    let w = subst (λ (e : Entry). WroteEntry a.front.now a.j e c.put_open.new.front) (c.lowered-entry.ensures ∙ (λ i. lowered (e i) (c.get_entry-waiting.ensures i) a.c.pushed)) c.put_open.ensures.1 in
    let h = unclosed (goal.at.returns c).Else-old-ne0 in
    (seen_lower a.aim a.at.number a.c a.nodes.now a.front.now c.requires.ready.few a.j (cost_by a.at.node.cost a.at.node.feet a.to.feet) a.to.feet a.to.label (numbered c.requires.ready a.at.number c.requires.j_lt_retained.1) c.requires.j_lt_retained.0 h (sym (compared (goal.at.returns c).After-cheaper-better) ∙ c.if-not-better.false) p w, is_open (node_at a.nodes.now a.j) h)
