-- `lists::back` meets its contract. Assumes nothing.
use Rattle.std.proofs.Common.{◌-◌, ◌∙◌, arith}
use Rattle.lists.specs.Laws.{backed_none, backed_more, backed_all, waypoint_is, place_before}
use Rattle.lists.proofs.back.Goals as goal

pub loop-j-init : goal.loop-j-init
loop-j-init c =
    let a = c.args in
    backed_none a.nodes.now a.n a.k a.m a.out.now c.requires.1 c.requires.0

pub loop-j-preserved : goal.loop-j-preserved
loop-j-preserved c =
    let a = c.args in
    let o = c.get_node-node.ensures in
    let j = c.loop-j.j in
    let new = c.put_waypoint.ensures ∙ waypoint_is c.loop-j.out (j - 1) _ _ (place_before c.loop-j-test.true c.loop-j.auto.j c.requires.1 c.loop-j.auto.out) in
    rw o (backed_more a.nodes.now a.n a.k a.m a.out.now c.requires.1 c.loop-j-test.true c.loop-j.auto.j c.loop-j.invariant (rw o at new))

pub returns : goal.returns
returns c =
    let a = c.args in
    backed_all a.nodes.now a.n a.k a.m a.out.now c.requires.1 (omega arith) c.loop-j.invariant
