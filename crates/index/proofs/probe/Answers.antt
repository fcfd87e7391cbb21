-- `index::probe` meets its contract. The loop's invariant: what is left to probe answers as the whole. Assumes nothing.
use Rattle.std.proofs.Common.{◌≡◌, ◌-◌, sym, ap, ◌∙◌, arith}
use Rattle.rooms.specs.declared.Feet.{Feet}
use Rattle.rooms.specs.Waypoints.{same_point}
use Rattle.rooms.specs.Scans.{is_at}
use Rattle.index.specs.Index.{slots, slot_at, probe_from, probed}
use Rattle.index.proofs.Turns.{home_less, next_slot_less, some_node, probe_stops, probe_finds, probe_goes_on, probe_ends}
use Rattle.index.proofs.probe.Goals as goal
use Rattle.index.proofs.probe.Goals.{After-same_point}

pub returns-then-n-eq0 : goal.returns-then-n-eq0
unfolding probed
returns-then-n-eq0 c =
    let a = c.args in
    sym (probe_ends a.index.now a.nodes.now a.m a.q _ _ c.if-n-eq0.true)

pub home-s-requires : goal.home-s-requires
home-s-requires c = omega (arith, c.if-n-eq0.false)

pub loop-left-init : goal.loop-left-init
unfolding probed
loop-left-init c =
    let a = c.args in
    let e = c.home-s.ensures in
    (rw e (home_less _ a.q (omega (arith, c.if-n-eq0.false))), omega arith, ap (probe_from a.index.now a.nodes.now a.m a.q (slots a.index.now)) (sym e))

pub returns-then-e-m : goal.returns-then-e-m
unfolding slot_at
returns-then-e-m c =
    let a = c.args in
    let at = c.loop-left in
    sym (at.invariant.2 ∙ probe_stops a.index.now a.nodes.now a.m a.q at.s _ c.u32_at-e.ensures at.left c.loop-left-test.true c.if-e-m.true)

pub overflow_sub-k : goal.overflow_sub-k
overflow_sub-k c = some_node _ _ c.if-e-m.false

-- what the test says of the node in the slot
tested : (s : After-same_point) → s.same_point.result ≡ is_at s.args.nodes.now s.args.q (s.u32_at-e.result - 1)
tested s = s.same_point.ensures ∙ ap (λ (p : Feet). same_point p s.args.q) s.get_feet.ensures

pub returns-then-same_point : goal.returns-then-same_point
unfolding slot_at
returns-then-same_point c =
    let a = c.args in
    let at = c.loop-left in
    sym (at.invariant.2 ∙ probe_finds a.index.now a.nodes.now a.m a.q at.s _ c.u32_at-e.ensures at.left c.loop-left-test.true c.if-e-m.false (sym (tested (goal.at.returns-then-same_point c).After-same_point) ∙ c.if-same_point.true))

pub next_slot-s-requires : goal.next_slot-s-requires
next_slot-s-requires c = c.loop-left.invariant.0

pub loop-left-preserved : goal.loop-left-preserved
unfolding slot_at
loop-left-preserved c =
    let a = c.args in
    let at = c.loop-left in
    let e = c.next_slot-s.ensures in (
      rw e (next_slot_less _ at.s at.invariant.0),
      omega (arith, at.invariant.1),
      at.invariant.2 ∙ probe_goes_on a.index.now a.nodes.now a.m a.q at.s _ c.u32_at-e.ensures at.left c.loop-left-test.true c.if-e-m.false (sym (tested (goal.at.loop-left-preserved c).After-same_point) ∙ c.if-same_point.false)
          ∙ ap (probe_from a.index.now a.nodes.now a.m a.q (at.left - 1)) (sym e),
    )

pub returns : goal.returns
returns c =
    let a = c.args in
    let at = c.loop-left in
    sym (at.invariant.2 ∙ probe_ends a.index.now a.nodes.now a.m a.q at.left at.s (omega (arith, c.loop-left-test.false)))
