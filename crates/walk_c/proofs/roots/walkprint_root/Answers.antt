-- `walk_c::roots::walkprint_root` meets its contract. Assumes nothing.
use Rattle.std.proofs.Common.{◌≡◌, refl, ◌∙◌, ap, List, ℕ, Float, Option, Some, None}
use Rattle.root.specs.Root.{Given, given}
use Rattle.walk_c.specs.Answers.{float_number, float_written, root_number, root_written}
use Rattle.walk_c.proofs.roots.walkprint_root.Goals as goal

-- the root's number and bytes are those of what it gives
same_number : (o : Option Float) → float_number 9 o ≡ root_number (given o)
same_number (Some r) = refl
same_number None = refl

same_bytes : (o : Option Float) (old : List ℕ) → float_written o old ≡ root_written (given o) old
same_bytes (Some r) old = refl
same_bytes None old = refl

pub returns : goal.returns
returns c =
    let e = c.root.ensures.is_answer in
    let old = c.args.root.now in
    record {
      value = c.put_float.ensures.value ∙ same_number c.root.result ∙ ap root_number e;
      root_after = c.put_float.ensures.to_after ∙ same_bytes c.root.result old ∙ ap (λ (g : Given). root_written g old) e;
    }
