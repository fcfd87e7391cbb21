-- `segments::carries` meets its contract. The loop's invariant: what is covered is covered by 01's sentence. The measure is how many intervals end beyond it.
use Rattle.std.proofs.Common.{arith, sym, ◌∙◌, List}
use Rattle.regions.specs.Regions.{cells_of}
use Rattle.world.specs.Space.{space_of}
use Rattle.support.specs.Cover.{nothing, enough}
use Rattle.support.specs.Rounds.{beyond_less}
use Rattle.support.specs.Support.{Shape, shapes_at}
use Rattle.support.specs.PassLaws.{found, refused_not, carried_ends, covered_on, carried_falls}
use Rattle.segments.proofs.carries.Goals as goal
use Rattle.segments.proofs.carries.Goals.{Start}

-- the shapes that a start passes over
abbrev under : (s : Start) → List Shape
under s = shapes_at (space_of s.args.world) (cells_of s.args.region)

pub loop-to-init : goal.loop-to-init
loop-to-init c = nothing

pub returns-in_default : goal.returns-in_default
returns-in_default c = sym (refused_not c.args.way (under (goal.at.returns-in_default c).Start) c.loop-to.covered (sym c.reach_all.ensures ∙ c.in_default.is))

pub returns-then-enough-covered : goal.returns-then-enough-covered
unfolding enough
returns-then-enough-covered c =
    sym (carried_ends c.args.way (under (goal.at.returns-then-enough-covered c).Start) c.loop-to.covered _ (sym c.reach_all.ensures ∙ c.in-Some.is) c.if-enough-covered.true c.loop-to.invariant)

pub loop-to-smaller-then-passes-lt-PATIENCE : goal.loop-to-smaller-then-passes-lt-PATIENCE
unfolding enough
loop-to-smaller-then-passes-lt-PATIENCE c =
    carried_falls c.args.way (under (goal.at.loop-to-smaller-then-passes-lt-PATIENCE c).Start) c.loop-to.covered _ (sym c.reach_all.ensures ∙ c.in-Some.is) c.if-enough-covered.false

pub loop-to-preserved-then-passes-lt-PATIENCE : goal.loop-to-preserved-then-passes-lt-PATIENCE
unfolding enough
loop-to-preserved-then-passes-lt-PATIENCE c =
    covered_on c.args.way (under (goal.at.loop-to-preserved-then-passes-lt-PATIENCE c).Start) c.loop-to.covered _ (sym c.reach_all.ensures ∙ c.in-Some.is) c.loop-to.invariant

pub loop-to-smaller : goal.loop-to-smaller
unfolding enough
loop-to-smaller c =
    let ss = under (goal.at.loop-to-smaller c).Start in
    let e = sym c.reach_all.ensures ∙ c.in-Some.is in
    let joined = c.join_far-covered.ensures.further (covered_on c.args.way ss c.loop-to.covered _ e c.loop-to.invariant) in
    omega (arith, carried_falls c.args.way ss c.loop-to.covered _ e c.if-enough-covered.false, beyond_less c.in-Some.to c.join_far-covered.result joined.no_less (found c.args.way ss))

pub loop-to-preserved : goal.loop-to-preserved
loop-to-preserved c =
    let ss = under (goal.at.loop-to-preserved c).Start in
    (c.join_far-covered.ensures.further (covered_on c.args.way ss c.loop-to.covered _ (sym c.reach_all.ensures ∙ c.in-Some.is) c.loop-to.invariant)).covered
