-- `walk_c::apex::walkprint_jump_apex` meets its contract. Assumes nothing.
use Rattle.std.proofs.Common.{◌≡◌, refl, ◌∙◌, ap, List, ℕ, Float, Option, Some, None}
use Rattle.jump.specs.Answers.{apex_answer}
use Rattle.walk_c.specs.Answers.{float_number, float_written, first_written}
use Rattle.walk_c.proofs.apex.walkprint_jump_apex.Goals as goal

-- the height's number and bytes are those of the answer
same_number : (o : Option Float) → float_number 6 o ≡ (apex_answer o).0
same_number (Some h) = refl
same_number None = refl

same_bytes : (o : Option Float) (old : List ℕ) → float_written o old ≡ first_written (apex_answer o).1 old
same_bytes (Some h) old = refl
same_bytes None old = refl

pub returns : goal.returns
returns c =
    let e = c.jump_apex.ensures in
    let old = c.args.height.now in
    record {
      value = c.put_float.ensures.value ∙ same_number c.jump_apex.result ∙ ap (λ (a : ℕ × List Float). a.0) e;
      height_after = c.put_float.ensures.to_after ∙ same_bytes c.jump_apex.result old ∙ ap (λ (a : ℕ × List Float). first_written a.1 old) e;
    }
