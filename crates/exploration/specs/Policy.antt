-- What a bounded search keeps of a point, and what a policy decides: which waiting node is expanded next, and when an open node is re-parented. A policy sees
-- the retained nodes and its own notes. It sees neither the budget nor what was dropped, and so the claims hold of every policy.
use Rattle.std.specs.Prelude.{◌≡◌, Bool, true, false, List, ℕ}
use Rattle.std.proofs.Math.Option.{Option, none, some}
use Rattle.exploration.specs.Lists.{nth}

-- A retained point, the label of the edge to it, the place of the node that it was reached from, whether it is closed, and the policy's note on it (its cost
-- and its frontier entry, say).
pub record Node (P L A : Type 0) : Type 0 where
  pub point : P
  pub label : L
  pub parent : Option ℕ
  pub closed : Bool
  pub note : A

-- Over notes A, one a node, and a book B, one a search (a count of pushes, say).
pub record Policy (P L A B : Type 0) : Type 0 where
  -- whether a node with this note waits in the frontier
  pub waits : A → Bool
  -- the waiting node to be expanded next, with its place
  pub pick : List (Node P L A) → B → Option (ℕ × Node P L A)
  -- the start's note, and the book that a search opens with
  pub opening : A × B
  -- the note of a node that is closed
  pub shut : A → A
  -- from an expanded node to a new point: the new node's note
  pub admit : Node P L A → P × L → B → A × B
  -- from an expanded node to an open one: its new note if it is re-parented, none if it stays as it is
  pub relax : Node P L A → Node P L A → P × L → B → Option (A × B)

-- What the claims ask of a policy: it picks a node that waits, and none only where none waits; a node waits from when it is retained or re-parented until it
-- is closed.
pub record PolicyLaws {P L A B : Type 0} (𝓟 : Policy P L A B) : Type 0 where
  pub pick_some : (ns : List (Node P L A)) (g : B) (r : ℕ × Node P L A) → 𝓟.pick ns g ≡ some r → (nth ns r.0 ≡ some r.1) × (𝓟.waits r.1.note ≡ true)
  pub pick_none : (ns : List (Node P L A)) (g : B) → 𝓟.pick ns g ≡ none → (k : ℕ) (n : Node P L A) → nth ns k ≡ some n → 𝓟.waits n.note ≡ false
  pub opening_waits : 𝓟.waits 𝓟.opening.0 ≡ true
  pub shut_waits : (a : A) → 𝓟.waits (𝓟.shut a) ≡ false
  pub admit_waits : (f : Node P L A) (w : P × L) (g : B) → 𝓟.waits (𝓟.admit f w g).0 ≡ true
  pub relax_waits : (f t : Node P L A) (w : P × L) (g : B) (r : A × B) → 𝓟.relax f t w g ≡ some r → 𝓟.waits r.0 ≡ true
