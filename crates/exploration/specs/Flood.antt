-- The plainest policy: expand points in discovery order, with no costs. A node's note is whether it waits; nothing is re-parented. For No. 12 of 02 and the
-- worked example: nothing that 01 asks for rests on it.
use Rattle.std.specs.Prelude.{Bool, true, false}
use Rattle.std.proofs.Math.Option.{none}
use Rattle.exploration.specs.Policy.{Policy}
use Rattle.exploration.specs.Choose.{choose}

module _ {P L : Type 0} where
  -- no waiting node beats another, and so the scan keeps the first
  unfoldable pub flood : Policy P L Bool (Unit {0})
  flood = record {
    waits = λ a. a;
    pick = λ ns g. choose (λ n. n.note) (λ n m. false) ns;
    opening = (true, tt);
    shut = λ a. false;
    admit = λ f w g. (true, tt);
    relax = λ f t w g. none;
  }
