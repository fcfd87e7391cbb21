-- `scans::first_busy` meets its contract. Assumes nothing.
use Rattle.std.proofs.Common.{◌≡◌, ◌∙◌, true, false, rules}
use Rattle.std.proofs.lemmas.Iterator.{first_from_Range}
use borrow.Author.Tests.{tests}
use Rattle.rooms.specs.Scans.{busy}
use Rattle.scans.proofs.Found.{found, found_first}
use Rattle.scans.proofs.first_busy.Goals as goal

pub returns : goal.returns
returns c =
    let a = c.args in
    let p = busy a.nodes.now a.front.now in
    let f = first_from_Range _ _ _ c.find.result (λ i. p i ≡ true) (λ i. p i ≡ false) c.find.ensures.ran (λ x q k. search (rules, tests)) (λ x q k. search (rules, tests)) in
    c.unwrap_or.ensures ∙ found_first p a.from _ a.n (found p a.from a.n c.max.result c.find.result c.max.ensures f)
