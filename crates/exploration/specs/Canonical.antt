-- A graph whose points are read by their canonical form: `same` is equality of the canonical forms, and steps and connector are worked out from the canonical
-- form. The laws of a graph then hold for free. (In document 01 the canonical form reads -0.0 as 0.0: no law of float operations is needed.)
use Rattle.std.specs.Prelude.{◌≡◌, Bool, true, List}
use Rattle.std.proofs.Math.Option.{Option}
use Rattle.exploration.specs.Graph.{Graph, GraphLaws}

module _ {P L : Type 0} (canon : P → P) (equal : P → P → Bool) (alike : L → L → Bool) (start : P) (start_label : L) (goal : P) (steps : P → List (P × L)) (connector : P → Option L) where
  unfoldable pub canonical : Graph P L
  canonical = record { same = λ p q. equal (canon p) (canon q); alike = alike; start = start; start_label = start_label; goal = goal; steps = λ p. steps (canon p); connector = λ p. connector (canon p) }

  pub canonical_laws : ((p q : P) → equal p q ≡ true → p ≡ q) → ((p : P) → equal p p ≡ true) → ((l : L) → alike l l ≡ true) → GraphLaws canonical
  unfolding canonical
  canonical_laws sound equal_refl alike_refl = record {
    same_refl = λ p. equal_refl (canon p);
    same_sym = λ p q e. rw (sound (canon p) (canon q) e) (equal_refl (canon q));
    same_trans = λ p q r e f. rw (sound (canon p) (canon q) e) f;
    alike_refl = alike_refl;
    step_same = λ p q w e h. rw (← (sound (canon p) (canon q) e)) h;
    connector_same = λ p q w e h. rw (← (sound (canon p) (canon q) e)) h;
  }
