-- `jump::jump_apex` meets its contract. Assumes nothing.
use Rattle.std.proofs.Common.{sym, ap, ◌∙◌, arith}
use lib.Ieee.{of_bits}
use Rattle.jump.specs.Laws.{endless, at_rest, ticked, drag_bits}
use Rattle.jump.specs.Jump.{apex_of}
use Rattle.jump.proofs.jump_apex.Goals as goal

pub loop-init : goal.loop-init
unfolding of_bits
loop-init c = record { on_its_way = λ l. rw c.f32_to_f64_with_nan-velocity.ensures; never_rests = λ l. absurd (omega arith) }

pub returns-then-not-rises : goal.returns-then-not-rises
unfolding of_bits
returns-then-not-rises c = sym (c.loop.invariant.on_its_way c.loop-test.true ∙ at_rest _ _ _ c.if-not-rises.true)

pub loop-preserved : goal.loop-preserved
unfolding of_bits
loop-preserved c =
    let now = c.loop.invariant.on_its_way c.loop-test.true in
    record {
      on_its_way = λ l. now ∙ ap (apex_of _) (ticked _ _ 65536 c.loop.counter (omega arith) c.if-not-rises.false) ∙ rw drag_bits;
      never_rests = λ l. now ∙ endless _ _ _ (omega arith) c.if-not-rises.false;
    }

pub returns : goal.returns
returns c = sym (c.loop.invariant.never_rests c.loop-test.false)
