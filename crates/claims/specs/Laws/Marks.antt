-- The closed word of a node record is 1 for a closed node and else 0, in every state that a search comes to: the word that the search notes, and the four bytes of it.
use Rattle.std.specs.Prelude.{ℕ, suc, ◌+◌, ◌%◌, ◌^◌, ◌≡◌, Bool, true, false, cond, eqb}
use Rattle.std.proofs.Math.Path.{refl}
use Rattle.std.proofs.Common.{ap}
use Rattle.std.proofs.Math.Option.{some}
use mathlib.Core.List.{List, [], ◌∷◌, map}
use Rattle.exploration.specs.Lists.{count, tally}
use Rattle.exploration.specs.Graph.{Graph}
use Rattle.exploration.specs.Policy.{Node}
use Rattle.exploration.specs.Explore.{child, closed_node, start_node, run, begin}
use Rattle.exploration.proofs.Laws.Kept.{Kept, each_any, run_kept}
use Rattle.rooms.specs.declared.Feet.{Feet}
use Rattle.rooms.specs.declared.Label.{Label}
use Rattle.rooms.specs.Rooms.{Note}
use Rattle.costs.specs.Costs.{cost_by, estimate_by, cheaper, lowered}
use Rattle.visits.specs.Best.{opened, relaxed, best}
use Rattle.visits.proofs.Laws.Policy.{best_laws, given_is}
use Rattle.claims.specs.Laws.Nodes.{AllOf, none_there, one_more, in_place}
use Rattle.claims.specs.Laws.ReadBack.{held}

abbrev pub Marked : Node Feet Label Note → Type 0
Marked x = x.note.mark ≡ cond x.closed 1 0

-- which four bytes hold
marked_held : (x : Node Feet Label Note) → Marked x → (held x).closed ≡ cond x.closed 1 0
marked_held x h = go x.closed x.note.mark h
  where
    go : (b : Bool) (m : ℕ) → m ≡ cond b 1 0 → m % 256 ^ 4 ≡ cond b 1 0
    go true m e = rw e
    go false m e = rw e

-- so that whoever counts the words counts the closed nodes
pub words_counted : (ns : List (Node Feet Label Note)) → count (λ c. eqb c 1) (map (λ x. cond x.closed 1 0) ns) ≡ count (λ x. x.closed) ns
words_counted [] = refl
words_counted (x ∷ ns) = go x.closed (words_counted ns)
  where
    go : {m n : ℕ} (b : Bool) → m ≡ n → tally (eqb (cond b 1 0) 1) m ≡ tally b n
    go true e = ap suc e
    go false e = e

module _ (𝓖 : Graph Feet Label) (goal : Feet) where
  opened_again : (n : Note) (k : ℕ) (to p : Feet) (l : Label) (cost g : ℕ) (a : Note × ℕ) → relaxed goal cost to n g ≡ some a →
      Marked (child k p l a.0)
  unfolding relaxed
  opened_again n k to p l cost g a e =
      let z = given_is (cheaper cost n.cost) (opened cost (lowered (estimate_by goal cost to) n.entry g), g + 1) a e in rw (← z) refl

  kept : Kept 𝓖 (best goal) (λ c ns g. AllOf Marked ns) (λ c f. Unit {0}) (λ w. Unit {0})
  unfolding best
  kept = record {
    empty = none_there Marked;
    begins = one_more Marked [] (start_node 𝓖 (best goal)) (none_there Marked) refl;
    steps = λ c f j. each_any (𝓖.steps f.point);
    closes = λ c ns g k n i e w. (in_place Marked ns k (closed_node 𝓖 (best goal) n) i refl, tt);
    retains = λ c ns g k f w j t i. one_more Marked ns (child k w.0 w.1 ((best goal).admit f w g).0) i refl;
    reparents = λ c ns g k f w j m a _ _ i e s o x. in_place Marked ns j _ i (opened_again m.note k w.0 m.point w.1 (cost_by f.note.cost f.point w.0) g a x);
  }

  -- in every state that a search comes to
  pub nodes_marked : (b n : ℕ) → AllOf Marked (run 𝓖 (best goal) b n (begin 𝓖 (best goal) b)).nodes
  nodes_marked b n = run_kept 𝓖 (best goal) (λ c ns g. AllOf Marked ns) (λ c f. Unit {0}) (λ w. Unit {0}) (best_laws goal) kept b n

  pub marks_held : (b n : ℕ) → AllOf (λ x. (held x).closed ≡ cond x.closed 1 0) (run 𝓖 (best goal) b n (begin 𝓖 (best goal) b)).nodes
  marks_held b n k x e = marked_held x (nodes_marked b n k x e)
