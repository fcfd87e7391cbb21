-- `index::extend` meets its contract. The loop's invariant: what is left to enter makes of the room at hand what it makes of the one that `enter` left. Assumes
use Rattle.std.proofs.Common.{◌≡◌, ℕ, ◌+◌, ◌-◌, List, sym, refl, ap, ◌∙◌, arith, le-ltb, lt-ltb}
use Rattle.rooms.specs.Records.{node_at}
use Rattle.index.specs.Index.{free_for, entered, extend_by}
use Rattle.index.proofs.Turns.{extend_full, extend_goes_on, extend_ends}
use Rattle.index.proofs.extend.Goals as goal
use Rattle.index.proofs.extend.Goals.{After-free_slot-s}

-- a pair, part by part
parts : {r : List ℕ × ℕ} {x : List ℕ} {k : ℕ} → r ≡ (x, k) → (k ≡ r.1) × (x ≡ r.0)
parts e = (sym (ap (λ (p : List ℕ × ℕ). p.1) e), sym (ap (λ (p : List ℕ × ℕ). p.0) e))

pub returns-then-n-first : goal.returns-then-n-first
returns-then-n-first c =
    let a = c.args in
    let first = c.enter-first.result in
    parts (c.enter-first.ensures.1 ∙ extend_ends (a.n - first) c.enter-first.new.index a.nodes.now first (omega (arith, c.if-n-first.true)))

pub loop-k-init : goal.loop-k-init
loop-k-init c = (refl, refl)

-- the slot that was found is that of the definition
slot : (s : After-free_slot-s) → s.free_slot-s.result ≡ free_for s.loop-k.index (node_at s.args.nodes.now s.loop-k.k).feet
slot s = s.free_slot-s.ensures ∙ ap (free_for s.loop-k.index) s.get_feet.ensures

pub shape_of-index-then-index-s : goal.shape_of-index-then-index-s
shape_of-index-then-index-s c = c.loop-k.invariant.0 ∙ c.enter-first.ensures.0

pub returns-then-index-s : goal.returns-then-index-s
returns-then-index-s c =
    let a = c.args in
    let at = c.loop-k in
    parts (c.enter-first.ensures.1 ∙ at.invariant.1 ∙ extend_full at.index a.nodes.now at.k _ (slot (goal.at.returns-then-index-s c).After-free_slot-s) (a.n - at.k) (omega (arith, c.loop-k-test.true)) (le-ltb _ _ c.if-index-s.true))

pub overflow_mul-s : goal.overflow_mul-s
overflow_mul-s c = omega (arith, c.if-index-s.false, c.loop-k.invariant.0, c.enter-first.ensures.0)

pub loop-k-preserved : goal.loop-k-preserved
unfolding entered
loop-k-preserved c =
    let a = c.args in
    let at = c.loop-k in
    let d : a.n - at.k - 1 ≡ a.n - (at.k + 1) = omega arith in
    let y = c.put_u32.new.s in (
      c.put_u32.auto.s ∙ at.invariant.0,
      at.invariant.1 ∙ extend_goes_on at.index a.nodes.now at.k _ (slot (goal.at.loop-k-preserved c).After-free_slot-s) (a.n - at.k) (omega (arith, c.loop-k-test.true)) (lt-ltb _ _ c.if-index-s.false)
          ∙ (λ i. extend_by (d i) (sym c.put_u32.ensures i) a.nodes.now (at.k + 1)),
    )

pub shape_of-index : goal.shape_of-index
shape_of-index c = c.loop-k.invariant.0 ∙ c.enter-first.ensures.0

pub returns : goal.returns
returns c =
    let a = c.args in
    let at = c.loop-k in
    let e : at.k ≡ a.n = omega (arith, c.loop-k-test.false, c.if-n-first.false) in
    let p = parts (c.enter-first.ensures.1 ∙ at.invariant.1 ∙ extend_ends (a.n - at.k) at.index a.nodes.now at.k (omega (arith, c.loop-k-test.false))) in
    (sym e ∙ p.0, p.1)
