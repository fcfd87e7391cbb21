-- `progress::waits_good` meets its contract. The loop's invariant: the records before `k` are good. Assumes nothing.
use Rattle.std.proofs.Common.{arith, ◌+◌, ◌≤◌, ◌/◌, length, ◌≡◌, refl, sym, ap, ◌∙◌, true}
use Rattle.chains.specs.Chains.{each_below}
use Rattle.chains.specs.Laws.{each_more, each_not}
use Rattle.progress.specs.Progress.{good_wait}
use Rattle.progress.specs.Laws.{waits_skip}
use Rattle.progress.proofs.waits_good.Goals as goal
use Rattle.progress.proofs.waits_good.Goals.{After-next_wait-k-in-loop-k}

pub loop-k-init : goal.loop-k-init
loop-k-init c =
    let a = c.args in
    let s = waits_skip a.nodes.now a.front.now a.n (length a.front.now / 24) 0 c.next_wait-k.result c.next_wait-k.ensures (omega arith) refl in
    (s.1, s.2)

pub returns-then-not-wait_good : goal.returns-then-not-wait_good
returns-then-not-wait_good c =
    let a = c.args in
    sym (each_not (good_wait a.nodes.now a.front.now a.n) (length a.front.now / 24) c.loop-k.k c.loop-k-test.true (sym c.wait_good.ensures ∙ c.if-not-wait_good.true))

pub overflow_add-k : goal.overflow_add-k
overflow_add-k c = omega (arith, c.loop-k-test.true)

pub next_wait-k-requires-in-loop-k : goal.next_wait-k-requires-in-loop-k
next_wait-k-requires-in-loop-k c = omega (arith, c.loop-k-test.true)

-- one good record more, and those that do not wait
skipped : (c : After-next_wait-k-in-loop-k) → let a = c.args in (c.loop-k.k + 1 ≤ c.next_wait-k-in-loop-k.result) × (c.next_wait-k-in-loop-k.result ≤ length a.front.now / 24) × (each_below (good_wait a.nodes.now a.front.now a.n) c.next_wait-k-in-loop-k.result ≡ true)
skipped c =
    let a = c.args in
    let l = c.loop-k in
    waits_skip a.nodes.now a.front.now a.n (length a.front.now / 24) (l.k + 1) c.next_wait-k-in-loop-k.result c.next_wait-k-in-loop-k.ensures (omega (arith, c.loop-k-test.true))
    (each_more (good_wait a.nodes.now a.front.now a.n) l.k l.invariant.1 (sym c.wait_good.ensures ∙ c.if-not-wait_good.false))

pub loop-k-smaller : goal.loop-k-smaller
loop-k-smaller c = omega (arith, (skipped c).0, c.loop-k-test.true)

pub loop-k-preserved : goal.loop-k-preserved
loop-k-preserved c = ((skipped c).1, (skipped c).2)

pub returns : goal.returns
returns c =
    let a = c.args in
    let e : c.loop-k.k ≡ length a.front.now / 24 = omega (arith, c.loop-k.invariant.0, c.loop-k-test.false) in
    sym (ap (each_below (good_wait a.nodes.now a.front.now a.n)) (sym e) ∙ c.loop-k.invariant.1)
