-- `chains::settle` meets its contract. Assumes nothing.
use Rattle.std.proofs.Common.{arith, ◌<◌}
use Rattle.chains.specs.Chains.{parent_back}
use Rattle.chains.specs.Marks.{Reaches, marked_end, marked_not, reaches_on, sound_more}
use Rattle.chains.proofs.settle.Goals as goal

pub bounds-done-parent : goal.bounds-done-parent
bounds-done-parent c =
    let l : parent_back c.args.nodes.now c.args.k < c.args.n = c.requires.0 c.args.k c.requires.1 in
    omega (arith, c.up-parent.ensures, c.requires.2, l)

pub returns-then-done-parent : goal.returns-then-done-parent
returns-then-done-parent c =
    let r : Reaches c.args.nodes.now c.args.k = reaches_on c.args.nodes.now c.args.k (rw c.up-parent.ensures at (c.requires.3 c.up-parent.result c.if-done-parent.true)) in
    marked_end (sound_more c.args.nodes.now c.args.done.now c.args.k r c.requires.3) r

pub climb-requires : goal.climb-requires
climb-requires c = (c.requires.0, c.requires.1, c.requires.2)

pub returns-in_default : goal.returns-in_default
returns-in_default c = marked_not c.requires.3 c.in_default.ensures

pub mark-requires : goal.mark-requires
mark-requires c = (c.requires.0, c.requires.1, c.requires.2, c.requires.3, c.in-Some.ensures.1 c.requires.3)

pub returns : goal.returns
returns c = marked_end c.mark.ensures (c.in-Some.ensures.1 c.requires.3)
