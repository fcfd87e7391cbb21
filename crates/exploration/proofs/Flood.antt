-- The plainest policy meets what the claims ask of a policy.
use Rattle.std.specs.Prelude.{refl, false}
use Rattle.exploration.specs.Policy.{PolicyLaws}
use Rattle.exploration.specs.Flood.{flood}
use Rattle.exploration.proofs.Laws.Choices.{choose_some, choose_none}
use Rattle.exploration.proofs.Laws.Lists.{none_some}

module _ {P L : Type 0} where
  pub flood_laws : PolicyLaws {P = P} {L = L} flood
  unfolding flood
  flood_laws = record {
    pick_some = λ ns g r e. choose_some (λ n. n.note) (λ n m. false) ns r e;
    pick_none = λ ns g e. choose_none (λ n. n.note) (λ n m. false) ns e;
    opening_waits = refl;
    shut_waits = λ a. refl;
    admit_waits = λ f w g. refl;
    relax_waits = λ f t w g r e. absurd (none_some e);
  }
