-- One graph step of an expansion, by its four cases.
use Rattle.std.specs.Prelude.{◌≡◌, refl, Bool, true, false, List, [], ◌∷◌, ◌++◌, map, ℕ, zero, suc, ◌≤◌, ◌<◌, ltb, length, set}
use Rattle.std.proofs.Math.Option.{Option, none, some}
use Rattle.std.proofs.Common.{⊎_elim, ltb-true, ltb-false}
use Rattle.exploration.specs.Lists.{nth, has}
use Rattle.exploration.specs.Graph.{Graph}
use Rattle.exploration.specs.Policy.{Node, Policy, PolicyLaws}
use Rattle.exploration.specs.Explore.{State, head_or, seek, child, effect, effect_known, effect_at, keep_or_drop, apply, visit}
use Rattle.exploration.proofs.Laws.Lists.{none_some, true_false, or_left, or_right, or_cases}

module _ {P L A : Type 0} (𝓖 : Graph P L) where
  open 𝓖 use {same}

  abbrev pub known : List (Node P L A) → P → Bool
  known ns q = has (λ p. same p q) (map (λ n. n.point) ns)

  -- a lookup answers a retained node at that point, or there is none
  pub data Sought (ns : List (Node P L A)) (q : P) : Option (ℕ × Node P L A) → Type 0 where
    at : (r : ℕ × Node P L A) → nth ns r.0 ≡ some r.1 → same r.1.point q ≡ true → Sought ns q (some r)
    nowhere : known ns q ≡ false → Sought ns q none

  sought_cons : (n : Node P L A) (ns : List (Node P L A)) (q : P) (b : Bool) (o : Option (ℕ × Node P L A)) → same n.point q ≡ b → Sought ns q o → Sought (n ∷ ns) q (head_or b n o)
  sought_cons n ns q true o e v = at (0, n) refl e
  sought_cons n ns q false o e (at r h i) = at (suc r.0, r.1) h i
  sought_cons n ns q false o e (nowhere h) = nowhere (rw e h)

  pub sought : (ns : List (Node P L A)) (q : P) → Sought ns q (seek 𝓖 ns q)
  sought [] q = nowhere refl
  sought (n ∷ ns) q = sought_cons n ns q (same n.point q) (seek 𝓖 ns q) refl (sought ns q)

  pub at_known : (ns : List (Node P L A)) (j : ℕ) (m : Node P L A) (q : P) → nth ns j ≡ some m → same m.point q ≡ true → known ns q ≡ true
  at_known [] j m q e h = absurd (none_some e)
  at_known (n ∷ ns) zero m q e h = let h' : same n.point q ≡ true = cc in or_left _ _ h'
  at_known (n ∷ ns) (suc j) m q e h = or_right (same n.point q) _ (at_known ns j m q e h)

  pub known_at : (ns : List (Node P L A)) (q : P) → known ns q ≡ true → (k : ℕ) × (n : Node P L A) × (nth ns k ≡ some n) × (same n.point q ≡ true)
  known_at [] q h = absurd (true_false h refl)
  known_at (n ∷ ns) q h = ⊎_elim (λ e. (0, n, refl, e)) (λ e. let r = known_at ns q e in (suc r.0, r.1, r.2, r.3)) (or_cases (same n.point q) _ h)

module _ {P L A B : Type 0} (𝓖 : Graph P L) (𝓟 : Policy P L A B) where
  open 𝓖 use {same, alike, start, start_label, goal, steps, connector}
  open 𝓟 use {waits, pick, opening, shut, admit, relax}

  -- a step to a known point changes nothing, or re-parents an open node there; to a new point it retains a node, or drops it
  pub data Visited (b k : ℕ) (s : State P L A B) (w : P × L) : State P L A B → Type 0 where
    kept : known 𝓖 s.nodes w.0 ≡ true → Visited b k s w s
    reparented : (j : ℕ) (m : Node P L A) (a : A) (g : B) → nth s.nodes j ≡ some m → same m.point w.0 ≡ true → m.closed ≡ false → waits a ≡ true
        → Visited b k s w (record { nodes = set s.nodes j (child k m.point w.1 a); book = g; closings = s.closings; dropped = s.dropped; found = s.found })
    retained : (a : A) (g : B) → known 𝓖 s.nodes w.0 ≡ false → length s.nodes < b → waits a ≡ true
        → Visited b k s w (record { nodes = s.nodes ++ (child k w.0 w.1 a ∷ []); book = g; closings = s.closings; dropped = s.dropped; found = s.found })
    lost : known 𝓖 s.nodes w.0 ≡ false → b ≤ length s.nodes
        → Visited b k s w (record { nodes = s.nodes; book = s.book; closings = s.closings; dropped = suc s.dropped; found = s.found })

  module _ (laws : PolicyLaws 𝓟) (b k : ℕ) (f : Node P L A) (s : State P L A B) (w : P × L) where
    at_node : (r : ℕ × Node P L A) (c : Bool) (o : Option (A × B)) → nth s.nodes r.0 ≡ some r.1 → same r.1.point w.0 ≡ true → r.1.closed ≡ c
        → relax f r.1 w s.book ≡ o → Visited b k s w (apply b s (effect_known k w r c o))
    at_node r true o e h c x = kept (at_known 𝓖 s.nodes r.0 r.1 w.0 e h)
    at_node r false none e h c x = kept (at_known 𝓖 s.nodes r.0 r.1 w.0 e h)
    at_node r false (some a) e h c x = reparented r.0 r.1 a.0 a.1 e h c (laws.relax_waits f r.1 w s.book a x)

    at_new : (c : Bool) → ltb (length s.nodes) b ≡ c → known 𝓖 s.nodes w.0 ≡ false
        → Visited b k s w (keep_or_drop c s (child k w.0 w.1 (admit f w s.book).0) (admit f w s.book).1)
    at_new true e h = retained _ _ h (ltb-true _ _ e) (laws.admit_waits f w s.book)
    at_new false e h = lost h (ltb-false _ _ e)

    by_sought : (o : Option (ℕ × Node P L A)) → Sought 𝓖 s.nodes w.0 o → Visited b k s w (apply b s (effect_at 𝓖 𝓟 k f s.book w o))
    by_sought o (at r e h) = at_node r r.1.closed (relax f r.1 w s.book) e h refl refl
    by_sought o (nowhere h) = at_new (ltb (length s.nodes) b) refl h

    pub visited : Visited b k s w (visit 𝓖 𝓟 b k f s w)
    unfolding effect
    visited = by_sought (seek 𝓖 s.nodes w.0) (sought 𝓖 s.nodes w.0)
