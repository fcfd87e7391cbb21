-- `chains::all_linked` meets its contract. Assumes nothing.
use Rattle.std.proofs.Common.{◌≡◌, ◌-◌, refl, true, false, rules}
use Rattle.std.proofs.lemmas.Iterator.{cases_from_all, YieldsList-from_range}
use borrow.Author.Tests.{tests}
use Rattle.chains.specs.Chains.{good_parent}
use Rattle.chains.proofs.Each.{each_by}
use Rattle.chains.proofs.all_linked.Goals as goal

pub returns : goal.returns
returns c =
    let n = c.args.n in
    let p = good_parent c.args.nodes.now n in
    each_by p n c.all.result (cases_from_all _ _ c.all.result (λ k. p k ≡ true) (λ k. p k ≡ false) c.all.ensures.ran (YieldsList-from_range 0 n (n - 0) refl refl) (λ x q k. search (rules, tests)) (λ x q k. search (rules, tests)))
