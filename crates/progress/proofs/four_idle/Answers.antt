-- `progress::four_idle` meets its contract. Assumes nothing.
use Rattle.std.proofs.Common.{◌≡◌, sym, ap, ◌∙◌, ℕ, eqb, true, false, not, ◌&&◌}
use borrow.Author.Tests.{not-true}
use Rattle.exploration.proofs.Laws.Lists.{and_first, and_second}
use Rattle.progress.specs.Laws.{idle_four}
use Rattle.progress.proofs.four_idle.Goals as goal

-- what is not 1, as the code tests it
other : (w v : ℕ) → w ≡ v → not (eqb w 1) ≡ true → eqb v 1 ≡ false
other w v e h = ap (λ (x : ℕ). eqb x 1) (sym e) ∙ not-true _ h

pub returns : goal.returns
returns c e =
    let p = not (eqb c.u64_at-p.result 1) in
    let q = not (eqb c.u64_at-q.result 1) in
    let r = not (eqb c.u64_at-r.result 1) in
    let s = not (eqb c.u64_at-s.result 1) in
    let x = and_first (p && q && r) s e in
    let y = and_first (p && q) r x in
    idle_four _ _
    (other _ _ c.u64_at-p.ensures (and_first p q y))
    (other _ _ c.u64_at-q.ensures (and_second p q y))
    (other _ _ c.u64_at-r.ensures (and_second (p && q) r x))
    (other _ _ c.u64_at-s.ensures (and_second (p && q && r) s e))
