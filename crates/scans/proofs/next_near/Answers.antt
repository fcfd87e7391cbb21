-- `scans::next_near` meets its contract. Assumes nothing.
use Rattle.std.proofs.Common.{◌≡◌, ◌*◌, ◌%◌, ◌≤◌, Bool, true, false, unwrap_or, arith, rules, ℕ, refl, ltb-false}
use Rattle.std.proofs.lemmas.Iterator.{first_from_Range}
use borrow.Author.Tests.{tests}
use Rattle.exploration.proofs.Laws.Lists.{or-false}
use Rattle.rooms.specs.Waypoints.{same_word}
use Rattle.rooms.specs.Scans.{is_at}
use Rattle.fields.specs.Little.{field}
use Rattle.scans.specs.Laws.{apart}
use Rattle.scans.proofs.Found.{Found, found, missed_on}
use Rattle.scans.proofs.next_near.Goals as goal

pub returns-then-border-from : goal.returns-then-border-from
returns-then-border-from c = (omega arith, omega (arith, c.requires), refl)

pub returns : goal.returns
returns c =
    let a = c.args in
    let p : ℕ → Bool = λ i. same_word (field 8 a.nodes.now (64 * i)) a.q.x in
    let o : a.from ≤ a.n % 4294967296 = ltb-false _ _ (or-false _ _ c.if-border-from.false).0 in
    let f = first_from_Range _ _ _ c.find.result (λ i. p i ≡ true) (λ i. p i ≡ false) c.find.ensures.ran (λ x q k. search (rules, tests)) (λ x q k. search (rules, tests)) in
    let b = a.n % 4294967296 in
    let h : Found p a.from b (unwrap_or c.find.result b) = found p a.from b b c.find.result (omega (arith, o)) f in
    rw c.unwrap_or.ensures (h.from, omega (arith, h.within, o), missed_on (is_at a.nodes.now a.q) a.from (unwrap_or c.find.result b) a.n h.from (omega (arith, h.within, o)) (λ j k l. apart a.nodes.now a.q j (h.missed j k l)))
