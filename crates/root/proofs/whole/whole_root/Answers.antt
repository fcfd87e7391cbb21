-- `root::whole::whole_root` meets its contract: each turn takes two digits of the number and finds one of the root (`Turns`). Assumes nothing.
use native.Mathlib.Omega.{arith}
use mathlib.Core.Path.{◌≡◌, subst}
use Prim.Native.Nat.{ℕ, ◌<◌}
use Rattle.root.proofs.Turns.{AfterTurns, begins, turn_one, turn_zero, ends}
use Rattle.root.proofs.whole.whole_root.Goals as goal
use Rattle.root.proofs.whole.whole_root.Goals.{then-trial-rest, else-trial-rest}

pub loop-init : goal.loop-init
loop-init c = begins c.args.m c.requires

pub loop-preserved : goal.loop-preserved
loop-preserved c =
    let i : c.loop.counter < 54 = omega (arith, c.loop-test.true) in
    elim c.if-trial-rest.branch [ then-trial-rest w ↦ rw (w.rest-is, w.root-is) (turn_one c.args.m c.loop.counter c.loop.number c.loop.rest c.loop.root i c.loop.invariant (omega arith)) | else-trial-rest w ↦ rw (w.rest-is, w.root-is) (turn_zero c.args.m c.loop.counter c.loop.number c.loop.rest c.loop.root i c.loop.invariant (omega arith)) ]

pub returns : goal.returns
returns c =
    let t = c.loop.invariant in
    let l : c.loop.counter ≡ 54 = omega arith in
    ends c.args.m c.loop.number c.loop.rest c.loop.root (subst (λ (i : ℕ). AfterTurns c.args.m i c.loop.number c.loop.rest c.loop.root) l t)
