-- `index::enter` meets its contract. The loop's invariant: what is left to enter makes of the room at hand what the whole makes of the first one. Assumes
use Rattle.std.proofs.Common.{◌≡◌, ◌+◌, ◌-◌, ◌%◌, ◌≤◌, sym, refl, ap, ◌∙◌, arith, lt-ltb, ltb-false}
use Rattle.exploration.proofs.Laws.Lists.{or-false}
use Rattle.rooms.specs.Records.{node_at}
use Rattle.index.specs.Index.{free_for, entered, extend_by, extended}
use Rattle.index.proofs.Turns.{extend_goes_on}
use Rattle.index.proofs.enter.Goals as goal
use Rattle.index.proofs.enter.Goals.{After-free_slot-s}

pub returns-then-border-from : goal.returns-then-border-from
unfolding extended
returns-then-border-from c = (refl, refl)

pub loop-k-init : goal.loop-k-init
unfolding extended
loop-k-init c = (refl, refl)

-- the slot that was found is that of the definition
slot : (s : After-free_slot-s) → s.free_slot-s.result ≡ free_for s.loop-k.index (node_at s.args.nodes.now s.loop-k.k).feet
slot s = s.free_slot-s.ensures ∙ ap (free_for s.loop-k.index) s.near_feet.ensures

pub shape_of-index-then-index-s : goal.shape_of-index-then-index-s
shape_of-index-then-index-s c = c.loop-k.invariant.0

pub returns-then-index-s : goal.returns-then-index-s
returns-then-index-s c = c.loop-k.invariant

pub overflow_mul-s : goal.overflow_mul-s
overflow_mul-s c = omega (arith, c.if-index-s.false, c.loop-k.invariant.0)

pub loop-k-preserved : goal.loop-k-preserved
unfolding entered
loop-k-preserved c =
    let a = c.args in
    let at = c.loop-k in
    let d : a.n - at.k - 1 ≡ a.n - (at.k + 1) = omega arith in (
      c.put_u32.auto.s ∙ at.invariant.0,
      at.invariant.1 ∙ extend_goes_on at.index a.nodes.now at.k _ (slot (goal.at.loop-k-preserved c).After-free_slot-s) (a.n - at.k) (omega (arith, c.loop-k-test.true)) (lt-ltb _ _ c.if-index-s.false)
          ∙ (λ i. extend_by (d i) (sym c.put_u32.ensures i) a.nodes.now (at.k + 1)),
    )

pub shape_of-index : goal.shape_of-index
shape_of-index c = c.loop-k.invariant.0

pub returns : goal.returns
returns c =
    let o : c.args.from ≤ c.args.n % 4294967296 = ltb-false _ _ (or-false _ _ c.if-border-from.false).0 in
    let e : c.loop-k.k ≡ c.args.n % 4294967296 = omega (arith, o, c.loop-k-test.false) in
    rw (← e) c.loop-k.invariant
