-- `progress::pass_good` meets its contract. Assumes nothing.
use Rattle.std.proofs.Common.{◌≡◌, ◌%◌, true, refl, arith, rules}
use Rattle.std.proofs.lemmas.Iterator.{first_from_Range}
use borrow.Author.Tests.{tests}
use Rattle.progress.specs.Progress.{good_node}
use Rattle.progress.specs.Laws.{passed_good}
use Rattle.progress.proofs.pass_good.Goals as goal

pub returns-then-nodes-border : goal.returns-then-nodes-border
returns-then-nodes-border c = (omega arith, refl)

pub returns : goal.returns
returns c =
    let a = c.args in
    let p = good_node a.r a.nodes.now a.front.now in
    let b = a.n % 4294967296 in
    let f = first_from_Range _ _ _ c.find.result (λ k. Unit {0}) (λ k. p k ≡ true) c.find.ensures.ran (λ x q k. tt) (λ x q k. search (rules, tests)) in
    let h = passed_good p b c.find.result f in
    rw c.unwrap_or.ensures (omega (arith, h.0), h.1)
