-- `lists::span` meets its contract. Assumes nothing.
use Rattle.std.proofs.Common.{◌≡◌, sym, ◌∙◌, arith}
use Rattle.lists.specs.Laws.{count_on, count_off, count_out, count_none}
use Rattle.lists.proofs.span.Goals as goal

pub loop-m-init : goal.loop-m-init
loop-m-init c = let a = c.args in count_none a.nodes.now a.n a.k

pub returns-then-n-at : goal.returns-then-n-at
returns-then-n-at c =
    let a = c.args in
    (count_off a.nodes.now a.n a.k c.loop-m.m c.loop-m.at c.if-n-at.true c.loop-m.invariant, omega arith)

pub loop-m-preserved : goal.loop-m-preserved
loop-m-preserved c =
    let a = c.args in
    rw c.get_node-node.ensures (count_on a.nodes.now a.n a.k c.loop-m.m c.loop-m.at c.loop-m-test.true c.if-n-at.false c.loop-m.invariant)

pub returns : goal.returns
returns c =
    let a = c.args in
    let all : c.loop-m.m ≡ a.n = omega arith in
    (sym all ∙ count_out a.nodes.now a.n a.k c.loop-m.m c.loop-m.at (omega arith) c.loop-m.invariant, omega arith)
