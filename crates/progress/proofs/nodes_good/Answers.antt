-- `progress::nodes_good` meets its contract. Assumes nothing.
use Rattle.std.proofs.Common.{◌≡◌, ◌-◌, refl, true, false, rules}
use Rattle.std.proofs.lemmas.Iterator.{cases_from_all, YieldsList-from_range}
use borrow.Author.Tests.{tests}
use Rattle.chains.proofs.Each.{each_from}
use Rattle.progress.specs.Progress.{good_node}
use Rattle.progress.proofs.nodes_good.Goals as goal

pub returns : goal.returns
returns c =
    let a = c.args in
    let p = good_node a.r a.nodes.now a.front.now in
    let k = c.pass_good-first.result in
    each_from p k a.n c.all.result c.pass_good-first.ensures.0 c.pass_good-first.ensures.1
    (cases_from_all _ _ c.all.result (λ j. p j ≡ true) (λ j. p j ≡ false) c.all.ensures.ran (YieldsList-from_range k a.n (a.n - k) refl refl) (λ x q k. search (rules, tests)) (λ x q k. search (rules, tests)))
