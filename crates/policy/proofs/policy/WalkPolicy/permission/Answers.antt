-- `policy::policy::WalkPolicy::permission` meets its contract: the byte of its passage, and of that one bit where a flag is forbidden. Assumes nothing.
use mathlib.Core.Path.{◌≡◌, sym, ap, ◌∙◌}
use mathlib.Core.Bool.{true, false}
use Prim.Native.Nat.{ℕ}
use lib.Bits.{bit_and}
use Rattle.policy.specs.Answers.{passage_number}
use Rattle.policy.specs.Permission.{forbidden}
use Rattle.policy.specs.PermissionLaws.{byte_of, byte, forbidden_byte}
use Rattle.policy.proofs.policy.WalkPolicy.permission.Goals as goal
use Rattle.policy.proofs.policy.WalkPolicy.permission.Goals.{Joined-door_passage, in-Shape, in-Through, in-Wall}

-- the byte of its passage, whichever that is
free : (c : Joined-door_passage) → c.match-door_passage.byte ≡ byte_of (passage_number c.door_passage.result) false
free c =
    elim c.match-door_passage.branch [
      | in-Shape w ↦ rw (w.byte-is, w.in-Shape.is)
      | in-Through w ↦ rw (w.byte-is, w.in-Through.is)
      | in-Wall w ↦ rw (w.byte-is, w.in-Wall.is)
    ]

pub returns-then-water-damage : goal.returns-then-water-damage
unfolding forbidden
returns-then-water-damage c =
    ap (λ (n : ℕ). bit_and n 4) (free (goal.at.returns-then-water-damage c).Joined-door_passage)
    ∙ forbidden_byte c.door_passage.result
    ∙ sym (byte _ _ _ _ true (sym c.door_passage.ensures) (rw (← c.has.ensures, ← c.has-2.ensures) c.if-water-damage.true))

pub returns-else-water-damage : goal.returns-else-water-damage
unfolding forbidden
returns-else-water-damage c =
    free (goal.at.returns-else-water-damage c).Joined-door_passage
    ∙ sym (byte _ _ _ _ false (sym c.door_passage.ensures) (rw (← c.has.ensures, ← c.has-2.ensures) c.if-water-damage.false))
