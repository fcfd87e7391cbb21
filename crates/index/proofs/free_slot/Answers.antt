-- `index::free_slot` meets its contract. Assumes nothing.
use Rattle.std.proofs.Common.{◌≡◌, ◌-◌, ◌+◌, sym, ◌∙◌, arith, eq-eqb, ne_eqb}
use Rattle.index.specs.Index.{slots, slot_at, free_from, free_for}
use Rattle.index.proofs.Turns.{home_less, next_slot_less, free_here, free_goes_on, free_ends}
use Rattle.index.proofs.free_slot.Goals as goal

pub returns-then-n-eq0 : goal.returns-then-n-eq0
unfolding free_for
returns-then-n-eq0 c = sym (free_ends c.args.index.now _ _ c.if-n-eq0.true)

pub home-s-requires : goal.home-s-requires
home-s-requires c = omega (arith, c.if-n-eq0.false)

pub loop-turn-init : goal.loop-turn-init
unfolding free_for
loop-turn-init c =
    let a = c.args in
    let e = c.home-s.ensures in
    let z : slots a.index.now ≡ slots a.index.now - 0 = omega arith in
    (rw e (home_less _ a.q (omega (arith, c.if-n-eq0.false))), (λ i. free_from a.index.now (z i) (sym e i)))

pub returns-then-u32_at-eq0 : goal.returns-then-u32_at-eq0
unfolding slot_at
returns-then-u32_at-eq0 c =
    let a = c.args in
    let at = c.loop-turn in
    let left = slots a.index.now - at.turn in
    let none : slot_at a.index.now at.s ≡ 0 = omega (arith, c.u32_at.ensures, c.if-u32_at-eq0.true) in
    sym (at.invariant.1 ∙ free_here a.index.now at.s left (omega (arith, c.loop-turn-test.true)) (eq-eqb _ _ none))

pub next_slot-s-requires : goal.next_slot-s-requires
next_slot-s-requires c = c.loop-turn.invariant.0

pub loop-turn-preserved : goal.loop-turn-preserved
unfolding slot_at
loop-turn-preserved c =
    let a = c.args in
    let at = c.loop-turn in
    let left = slots a.index.now - at.turn in
    let d : left - 1 ≡ slots a.index.now - (at.turn + 1) = omega arith in
    let e = c.next_slot-s.ensures in
    let some : slot_at a.index.now at.s ≡ 0 → ⊥ = λ z. omega (arith, z, c.u32_at.ensures, c.if-u32_at-eq0.false) in (
      rw e (next_slot_less _ at.s at.invariant.0),
      at.invariant.1 ∙ free_goes_on a.index.now at.s left (omega (arith, c.loop-turn-test.true)) (ne_eqb _ _ some)
          ∙ (λ i. free_from a.index.now (d i) (sym e i)),
    )

pub returns : goal.returns
returns c =
    let a = c.args in
    let at = c.loop-turn in
    let left = slots a.index.now - at.turn in
    sym (at.invariant.1 ∙ free_ends a.index.now left at.s (omega (arith, c.loop-turn-test.false)))
