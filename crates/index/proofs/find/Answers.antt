-- `index::find` meets its contract. Assumes nothing.
use Rattle.std.proofs.Common.{ℕ, ltb, sym, ap, ◌∙◌, le-ltb, lt-ltb}
use Rattle.index.specs.Index.{looked_up}
use Rattle.index.proofs.find.Goals as goal

pub returns-then-k-m : goal.returns-then-k-m
unfolding looked_up
returns-then-k-m c =
    let a = c.args in
    let e = c.probe-k.ensures in
    rw (sym (ap (λ (k : ℕ). ltb k a.m) e) ∙ lt-ltb _ _ c.if-k-m.true) e

pub returns : goal.returns
unfolding looked_up
returns c =
    let a = c.args in
    rw (sym (ap (λ (k : ℕ). ltb k a.m) c.probe-k.ensures) ∙ le-ltb _ _ c.if-k-m.false) c.seek.ensures
