-- `scans::pick` meets its contract. Assumes nothing.
use Rattle.std.proofs.Common.{arith, eq-eqb, ne_eqb, ℕ, ◌+◌, ◌-◌, ◌≡◌, sym, ap, ◌∙◌, subst, Bool, ◌||◌, eqb}
use Rattle.rooms.specs.declared.Entry.{Entry}
use Rattle.scans.specs.Laws.{Idle, from_here, from_idle, idle_from, Holds, begins, passes, passes_on, takes, stays, answers, next_later}
use Rattle.rooms.specs.Scans.{entry_from, next_from}
use Rattle.scans.proofs.pick.Goals as goal
use Rattle.scans.proofs.pick.Goals.{After-next_waiting-i, then-e-eq1+then-at-n, else-e-eq1, else-e-eq1-via-then-e-eq1+else-at-n, else-e-eq1-via-else-e-eq1}

pub next_waiting-i-requires : goal.next_waiting-i-requires
next_waiting-i-requires c = omega (arith, c.min-from.ensures)

-- to the node that `next_waiting` stops at
passed : (n : ℕ) (g : ℕ → Entry) (i r : ℕ) {at : ℕ} {e : Entry} → Idle g i r → Holds n g i at e → Holds n g r at e
passed n g i r {at} {e} h o = let l : i + (r - i) ≡ r = omega (arith, h.order) in subst (λ (m : ℕ). Holds n g m at e) l (passes_on n g (r - i) (subst (Idle g i) (sym l) h) o)

pub loop-i-init : goal.loop-i-init
loop-i-init c =
    let a = c.args in
    let r = c.next_waiting-i.result in
    (c.next_waiting-i.ensures.1, omega arith, passed a.n (entry_from r a.front.now) 0 r (from_idle r a.front.now r (omega arith)) (begins a.n (entry_from r a.front.now)))

pub loop-i-smaller : goal.loop-i-smaller
loop-i-smaller c = omega (arith, c.next_waiting-i-in-loop-i.ensures.0.order)

pub loop-i-preserved : goal.loop-i-preserved
loop-i-preserved c =
    let a = c.args in
    let f = a.front.now in
    let low = c.next_waiting-i.result in
    let held = c.loop-i.invariant.2 in
    let at = c.loop-i.at in
    let e = c.get_entry-e.ensures ∙ from_here low f c.loop-i.i c.loop-i.invariant.1 in
    let w = c.next_waiting-i-in-loop-i.ensures in (
      w.1,
      omega (arith, c.loop-i.invariant.1, w.0.order),
      passed a.n (entry_from low f) _ c.next_waiting-i-in-loop-i.result (idle_from low f _ _ (omega (arith, c.loop-i.invariant.1)) w.0) (
          elim c.if-e-eq1.branch [
            | then-e-eq1+then-at-n t ↦ rw (t.least-is, t.at-is) (takes a.n (entry_from low f) e (omega arith) (eq-eqb _ _ t.if-e-eq1.true) (ap (λ (s : Bool). eqb at a.n || s) (sym t.before-then-e-eq1.ensures) ∙ t.if-at-n.true) held)
            | else-e-eq1 t ↦ rw (t.least-is, t.at-is) (elim t.else-e-eq1.branch [
              | else-e-eq1-via-then-e-eq1+else-at-n s ↦ stays a.n (entry_from low f) e (eq-eqb _ _ s.if-e-eq1.true) (ap (λ (s : Bool). eqb at a.n || s) (sym s.before-then-e-eq1.ensures) ∙ s.if-at-n.false) held
              | else-e-eq1-via-else-e-eq1 s ↦ passes a.n (entry_from low f) e (ne_eqb _ _ s.if-e-eq1.false) held
            ])
          ]),
    )

-- the scan begins at `low`, or at the end where that lies behind it, and passed over none that waits
begun : (s : After-next_waiting-i) → let a = s.args in next_from s.next_waiting-i.result a.n a.front.now ≡ next_from a.low a.n a.front.now
begun s =
    let a = s.args in
    let w = s.next_waiting-i.ensures.0 in
    let e = s.min-from.ensures in
    next_later a.low s.next_waiting-i.result a.n a.front.now (λ k h l. omega (arith, e, w.order)) (λ j h l. w.idle j (omega (arith, e)) l)

pub returns : goal.returns
unfolding next_from
returns c =
    let a = c.args in
    let f = a.front.now in
    answers a.n (entry_from c.next_waiting-i.result f) (subst (λ (m : ℕ). Holds a.n (entry_from c.next_waiting-i.result f) m c.loop-i.at c.loop-i.least) (omega (arith, c.loop-i-test.false, c.loop-i.invariant.0)) c.loop-i.invariant.2) ∙ begun (goal.at.returns c).After-next_waiting-i
