-- `scans::next_waiting` meets its contract. Assumes nothing.
use Rattle.std.proofs.Common.{◌≡◌, Bool, true, false, unwrap_or, arith, rules, ℕ, ◌*◌, ◌+◌, ◌%◌, ◌≤◌, eqb, ltb-false}
use Rattle.std.proofs.lemmas.Iterator.{first_from_Range}
use borrow.Author.Tests.{tests}
use Rattle.exploration.proofs.Laws.Lists.{or-false}
use Rattle.fields.specs.Little.{field}
use Rattle.rooms.specs.Records.{entry_at}
use Rattle.scans.specs.Laws.{idle_none}
use Rattle.scans.proofs.Found.{Found, found}
use Rattle.scans.proofs.next_waiting.Goals as goal

pub returns-then-border-from : goal.returns-then-border-from
returns-then-border-from c = (idle_none _ _, omega (arith, c.requires))

pub returns : goal.returns
unfolding entry_at
returns c =
    let a = c.args in
    let p : ℕ → Bool = λ i. eqb (field 8 a.front.now (24 * i + 16)) 1 in
    let o : a.from ≤ a.n % 4294967296 = ltb-false _ _ (or-false _ _ c.if-border-from.false).0 in
    let f = first_from_Range _ _ _ c.find.result (λ i. p i ≡ true) (λ i. p i ≡ false) c.find.ensures.ran (λ x q k. search (rules, tests)) (λ x q k. search (rules, tests)) in
    let b = a.n % 4294967296 in
    let h : Found p a.from b (unwrap_or c.find.result b) = found p a.from b b c.find.result (omega (arith, o)) f in
    rw c.unwrap_or.ensures (record { order = h.from; idle = h.missed }, omega (arith, h.within, o))
