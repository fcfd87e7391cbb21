-- `chains::chains_end` meets its contract. The loop's invariant: the chains of the nodes passed end, and each marked node reaches node 0. Assumes nothing.
use Rattle.std.proofs.Common.{arith, ◌≡◌, refl, sym, ap, ◌∙◌, true}
use Rattle.chains.specs.Chains.{each_below, good_parent, ends_at_start}
use Rattle.chains.specs.Laws.{linked_closed, good_many, good_unlinked, good_not, good_all, ends_more}
use Rattle.chains.specs.Marks.{sound_none, looked_sure}
use Rattle.chains.proofs.chains_end.Goals as goal
use Rattle.chains.proofs.chains_end.Goals.{Else-not-linked_by}

pub returns-then-n-gt-MOST : goal.returns-then-n-gt-MOST
returns-then-n-gt-MOST c = good_many c.args.nodes.now c.args.n c.if-n-gt-MOST.true

pub look-seen-requires : goal.look-seen-requires
look-seen-requires c = (c.if-n-gt-MOST.false, sound_none c.args.nodes.now 4096)

pub returns-then-unwrap_or : goal.returns-then-unwrap_or
returns-then-unwrap_or c =
    let a = c.args in
    looked_sure a.nodes.now a.n c.look-seen.new.done c.look-seen.result c.if-n-gt-MOST.false c.look-seen.ensures (sym c.unwrap_or.ensures ∙ c.if-unwrap_or.true)

pub linked_by-requires : goal.linked_by-requires
linked_by-requires c = c.look-seen.ensures.linked

pub returns-then-not-linked_by : goal.returns-then-not-linked_by
returns-then-not-linked_by c =
    let a = c.args in
    good_unlinked a.nodes.now a.n c.if-n-gt-MOST.false (sym c.linked_by.ensures ∙ c.if-not-linked_by.true)

-- the parents are good
linked : (c : Else-not-linked_by) → let a = c.args in each_below (good_parent a.nodes.now a.n) a.n ≡ true
linked c = sym c.linked_by.ensures ∙ c.if-not-linked_by.false

pub loop-k-init : goal.loop-k-init
loop-k-init c = (c.look-seen.ensures.sound, refl)

pub settle-requires : goal.settle-requires
settle-requires c =
    let a = c.args in
    (linked_closed a.nodes.now a.n (linked (goal.at.settle-requires c).Else-not-linked_by), c.loop-k-test.true, c.if-n-gt-MOST.false, c.loop-k.invariant.0)

pub returns-then-not-settle : goal.returns-then-not-settle
returns-then-not-settle c =
    let a = c.args in
    good_not a.nodes.now a.n c.if-n-gt-MOST.false (linked (goal.at.returns-then-not-settle c).Else-not-linked_by) c.loop-k.k c.loop-k-test.true (c.settle.ensures.not_ended (c.if-not-settle.true))

pub loop-k-preserved : goal.loop-k-preserved
loop-k-preserved c =
    let a = c.args in
    let l = c.loop-k in
    let r = c.settle.ensures.ends (c.if-not-settle.false) in
    (c.settle.ensures.sound, ends_more a.nodes.now a.n c.if-n-gt-MOST.false (linked (goal.at.loop-k-preserved c).Else-not-linked_by) l.k r.0 c.loop-k-test.true r.1 l.invariant.1)

pub returns : goal.returns
returns c =
    let a = c.args in
    let e : c.loop-k.k ≡ a.n = omega arith in
    good_all a.nodes.now a.n c.if-n-gt-MOST.false (linked (goal.at.returns c).Else-not-linked_by) (ap (each_below (ends_at_start a.nodes.now a.n)) (sym e) ∙ c.loop-k.invariant.1)
