-- `policy::policy::WalkPolicy::door_passage` meets its contract: what is no door is met by its shape, and a door by two tests. Assumes nothing.
use mathlib.Core.Path.{◌≡◌, sym, ◌∙◌}
use mathlib.Core.Bool.{true}
use Rattle.policy.specs.Flags.{has, DOOR}
use Rattle.policy.specs.Doors.{door_case, door_passage}
use Rattle.policy.specs.DoorLaws.{met, met_plainly, met_by_breaker}
use Rattle.policy.proofs.policy.WalkPolicy.door_passage.Goals as goal
use Rattle.policy.proofs.policy.WalkPolicy.door_passage.Goals.{Joined-self, then-self, else-self}

-- a door, whichever way the test for a breaker went
sorted : (c : Joined-self) → door_passage c.args.self c.args.flags.bits ≡ met c.if-self.crosses c.if-self.passes
sorted c =
    let door : has DOOR c.args.flags.bits ≡ true = sym c.has.ensures ∙ c.if-not-has.false in
    elim c.if-self.branch [
      | then-self w ↦ rw (door, w.if-self.true, w.crosses-is, w.passes-is, w.has-open.ensures, w.has-iron.ensures) (met_by_breaker _ _ _ _ _)
      | else-self w ↦ rw (door, w.if-self.false, w.crosses-is, w.passes-is) (met_plainly _ _ _ _ _)
    ]

pub returns-then-not-has : goal.returns-then-not-has
unfolding door_case
returns-then-not-has c = rw (sym c.has.ensures ∙ c.if-not-has.true)

pub returns-then-crosses : goal.returns-then-crosses
returns-then-crosses c = sym (sorted (goal.at.returns-then-crosses c).Joined-self ∙ rw c.if-crosses.true)

pub returns-then-passes : goal.returns-then-passes
returns-then-passes c = sym (sorted (goal.at.returns-then-passes c).Joined-self ∙ rw (c.if-crosses.false, c.if-passes.true))

pub returns : goal.returns
returns c = sym (sorted (goal.at.returns c).Joined-self ∙ rw (c.if-crosses.false, c.if-passes.false))
