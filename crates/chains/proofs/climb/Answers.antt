-- `chains::climb` meets its contract. The loop's invariant: `at` is m parents back, and no node before it is node 0. Assumes nothing.
use Rattle.std.proofs.Common.{arith, ℕ, refl, sym, ap, ◌∙◌, ⊎_elim}
use Rattle.fields.proofs.RecordLaws.{last_or}
use Rattle.chains.specs.Chains.{parent_back, parents_back}
use Rattle.chains.specs.Laws.{back_more, back_inside}
use Rattle.chains.specs.Marks.{reaches_marked}
use Rattle.chains.proofs.climb.Goals as goal

pub loop-m-init : goal.loop-m-init
loop-m-init c = (refl, λ i h. absurd (omega arith))

pub returns-then-at-eq0 : goal.returns-then-at-eq0
returns-then-at-eq0 c = (omega arith, λ s. (c.loop-m.m, sym c.loop-m.invariant.0 ∙ c.if-at-eq0.true))

pub bounds-done-at : goal.bounds-done-at
bounds-done-at c = omega (arith, c.loop-m.invariant.0, back_inside c.args.nodes.now c.args.n c.requires.0 c.loop-m.m c.args.k c.requires.1)

pub returns-then-done-at : goal.returns-then-done-at
returns-then-done-at c = (omega arith, reaches_marked c.args.nodes.now c.args.done.now c.loop-m.m c.loop-m.at c.args.k c.loop-m.invariant.0 c.if-done-at.true)

pub loop-m-preserved : goal.loop-m-preserved
loop-m-preserved c =
    let a = c.args in
    let l = c.loop-m in (
      c.up-at.ensures ∙ ap (parent_back a.nodes.now) l.invariant.0 ∙ sym (back_more a.nodes.now l.m a.k),
      λ i h. ⊎_elim (λ j. l.invariant.1 i j) (λ e z. c.if-at-eq0.false (l.invariant.0 ∙ ap (λ (x : ℕ). parents_back a.nodes.now x a.k) (sym e) ∙ z)) (last_or i l.m (omega arith)),
    )

pub returns : goal.returns
returns c = c.loop-m.invariant.1 c.args.n (omega arith)
