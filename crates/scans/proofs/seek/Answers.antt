-- `scans::seek` meets its contract. Assumes nothing.
use Rattle.std.proofs.Common.{arith, ◌-◌, ◌+◌, ◌≡◌, sym, ap, ◌∙◌}
use Rattle.rooms.specs.declared.Feet.{Feet}
use Rattle.rooms.specs.Waypoints.{same_point}
use Rattle.rooms.specs.Scans.{first_of, is_at}
use Rattle.scans.specs.Laws.{first_here, first_later, first_end}
use Rattle.scans.proofs.seek.Goals as goal
use Rattle.scans.proofs.seek.Goals.{After-same_point}

-- what the test says of the node at hand
tested : (s : After-same_point) → s.same_point.result ≡ is_at s.args.nodes.now s.args.q s.loop-i.i
tested s = s.same_point.ensures ∙ ap (λ (p : Feet). same_point p s.args.q) s.get_feet.ensures

pub returns-then-same_point : goal.returns-then-same_point
returns-then-same_point c =
    let a = c.args in
    let p = is_at a.nodes.now a.q in
    let i = c.loop-i.i in
    sym (c.loop-i.invariant ∙ first_here p i (a.n - i) (sym (tested (goal.at.returns-then-same_point c).After-same_point) ∙ c.if-same_point.true) (omega arith))

pub loop-i-preserved : goal.loop-i-preserved
loop-i-preserved c =
    let a = c.args in
    let p = is_at a.nodes.now a.q in
    let i = c.loop-i.i in
    let e : a.n - i - 1 ≡ a.n - (i + 1) = omega arith in
    c.loop-i.invariant ∙ first_later p i (a.n - i) (sym (tested (goal.at.loop-i-preserved c).After-same_point) ∙ c.if-same_point.false) (omega arith)
    ∙ ap (first_of p (i + 1)) e ∙ c.next_near-i.ensures.2

pub returns : goal.returns
returns c =
    let a = c.args in
    let p = is_at a.nodes.now a.q in
    sym (c.loop-i.invariant ∙ first_end p c.loop-i.i (a.n - c.loop-i.i) (omega arith))
