-- `chains::mark` meets its contract. The loop's invariant: `at` is a node that reaches node 0, as each marked node does. Assumes nothing.
use Rattle.std.proofs.Common.{arith}
use Rattle.chains.specs.Marks.{reaches_back, sound_more}
use Rattle.chains.proofs.mark.Goals as goal

pub loop-i-init : goal.loop-i-init
loop-i-init c = (c.requires.1, c.requires.4, c.requires.3)

pub bounds-done-at : goal.bounds-done-at
bounds-done-at c = omega (arith, c.loop-i.invariant.0, c.requires.2)

pub loop-i-preserved : goal.loop-i-preserved
loop-i-preserved c =
    let a = c.args.nodes.now in
    let l = c.loop-i in
    rw c.up-at.ensures (c.requires.0 l.at l.invariant.0, reaches_back a 1 l.at l.invariant.1, sound_more a l.done l.at l.invariant.1 l.invariant.2)

pub returns : goal.returns
returns c = c.loop-i.invariant.2
