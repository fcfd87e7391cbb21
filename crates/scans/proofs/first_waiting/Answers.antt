-- `scans::first_waiting` meets its contract. Assumes nothing.
use Rattle.std.proofs.Common.{◌≡◌, ◌∙◌, ◌-◌, Bool, true, false, arith, rules, ℕ, sym}
use Rattle.std.proofs.lemmas.Iterator.{first_from_Range}
use borrow.Author.Tests.{tests}
use Rattle.rooms.specs.Records.{entry_at}
use Rattle.rooms.specs.Scans.{waits}
use Rattle.scans.specs.Laws.{first_end}
use Rattle.scans.proofs.Found.{found, found_first, missed_on}
use Rattle.scans.proofs.first_waiting.Goals as goal

pub returns-then-n-from : goal.returns-then-n-from
returns-then-n-from c = let a = c.args in sym (first_end (λ k. waits (entry_at a.front.now k)) a.from (a.n - a.from) (omega (arith, c.if-n-from.true)))

pub returns : goal.returns
returns c =
    let a = c.args in
    let p : ℕ → Bool = λ k. waits (entry_at a.front.now k) in
    let i = c.next_waiting-i.result in
    let w = c.next_waiting-i.ensures in
    let f = first_from_Range _ _ _ c.find.result (λ k. p k ≡ true) (λ k. p k ≡ false) c.find.ensures.ran (λ x q k. search (rules, tests)) (λ x q k. search (rules, tests)) in
    c.unwrap_or.ensures ∙ found_first p i _ a.n (found p i a.n a.n c.find.result (omega (arith, w.1)) f)
    ∙ sym (missed_on p a.from i a.n w.0.order w.1 w.0.idle)
