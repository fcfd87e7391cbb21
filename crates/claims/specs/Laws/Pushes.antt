-- No two nodes that wait were pushed at one time: in every state that a search comes to, each has its own number of pushes, below the book's.
use Rattle.std.specs.Prelude.{ℕ, ◌+◌, ◌≤◌, ◌<◌, ◌≡◌, Bool, true, false, ◌⊎◌, ◌≢◌, length, set}
use Rattle.std.proofs.Common.{arith, sym, ap, ◌∙◌, inl, inr, ⊎_elim}
use Rattle.std.proofs.Math.Path.{refl}
use Rattle.std.proofs.Math.Option.{some}
use mathlib.Core.List.{List, [], ◌∷◌, ◌++◌}
use Rattle.exploration.specs.Lists.{nth}
use Rattle.exploration.specs.Graph.{Graph}
use Rattle.exploration.specs.Policy.{Node}
use Rattle.exploration.specs.Explore.{child, closed_node, start_node, run, begin}
use Rattle.exploration.proofs.Laws.Lists.{none_some, true_false, nth_snoc, nth_set}
use Rattle.exploration.proofs.Laws.Kept.{Kept, each_any, run_kept}
use Rattle.rooms.specs.declared.Feet.{Feet}
use Rattle.rooms.specs.declared.Label.{Label}
use Rattle.rooms.specs.Rooms.{Note, node_waits}
use Rattle.costs.specs.Costs.{cost_by, estimate_by, cheaper, lowers, lowered_by, lowered}
use Rattle.visits.specs.Best.{opened, relaxed, best}
use Rattle.visits.proofs.Laws.Policy.{best_laws, given_is}
use Rattle.claims.specs.Words.{push_of}

abbrev Nodes : Type 0
Nodes = List (Node Feet Label Note)

-- an open node waits; what waits was pushed before the book's number, and no other node then
record Apart (ns : Nodes) (g : ℕ) : Type 0 where
  pub open_waits : (k : ℕ) (x : Node Feet Label Note) → nth ns k ≡ some x → x.closed ≡ false → node_waits x ≡ true
  pub before : (k : ℕ) (x : Node Feet Label Note) → nth ns k ≡ some x → node_waits x ≡ true → push_of x < g
  pub alone : (j k : ℕ) (x y : Node Feet Label Note) → nth ns j ≡ some x → nth ns k ≡ some y → node_waits x ≡ true → node_waits y ≡ true → push_of x ≡ push_of y → j ≡ k

none_there : {X : Type 0} (k : ℕ) (x : Node Feet Label Note) → nth [] k ≡ some x → X
none_there k x e = absurd (none_some e)

empty : (g : ℕ) → Apart [] g
empty g = record { open_waits = λ k x e. none_there k x e; before = λ k x e. none_there k x e; alone = λ j k x y e. none_there j x e }

-- one more node, pushed last
module _ (ns : Nodes) (g : ℕ) (n : Node Feet Label Note) (i : Apart ns g) (w : node_waits n ≡ true) (p : push_of n ≡ g) where
  one_more : Apart (ns ++ (n ∷ [])) (g + 1)
  one_more = record {
    open_waits = λ k x e c. ⊎_elim (λ h. i.open_waits k x h c) (λ h. rw h.1 w) (nth_snoc ns n k x e);
    before = λ k x e v. ⊎_elim (λ h. let z = i.before k x h v in omega arith) (λ h. let z : push_of x ≡ g = rw h.1 p in omega arith) (nth_snoc ns n k x e);
    alone = λ j k x y e f v u q. both j k x y v u q (nth_snoc ns n j x e) (nth_snoc ns n k y f);
  }
    where
      both : (j k : ℕ) (x y : Node Feet Label Note) → node_waits x ≡ true → node_waits y ≡ true → push_of x ≡ push_of y →
          (nth ns j ≡ some x) ⊎ ((j ≡ length ns) × (x ≡ n)) → (nth ns k ≡ some y) ⊎ ((k ≡ length ns) × (y ≡ n)) → j ≡ k
      both j k x y v u q (inl a) (inl b) = i.alone j k x y a b v u q
      both j k x y v u q (inl a) (inr b) = absurd (let z = i.before j x a v in let s : push_of y ≡ g = rw b.1 p in omega arith)
      both j k x y v u q (inr a) (inl b) = absurd (let z = i.before k y b u in let s : push_of x ≡ g = rw a.1 p in omega arith)
      both j k x y v u q (inr a) (inr b) = a.0 ∙ sym b.0

-- a node in another one's place: it waits by a number that no other waiting node has, or not at all
module _ (ns : Nodes) (g h j : ℕ) (n : Node Feet Label Note) (i : Apart ns g) (later : g ≤ h) (opens : n.closed ≡ false → node_waits n ≡ true)
    (below : node_waits n ≡ true → push_of n < h)
    (own : node_waits n ≡ true → (k : ℕ) (x : Node Feet Label Note) → k ≢ j → nth ns k ≡ some x → node_waits x ≡ true → push_of x ≢ push_of n) where
  in_place : Apart (set ns j n) h
  in_place = record {
    open_waits = λ k x e c. ⊎_elim (λ p. waits_then x p.1 c) (λ p. i.open_waits k x p.1 c) (nth_set ns j n k x e);
    before = λ k x e w. ⊎_elim (λ p. below_then x p.1 w) (λ p. let z = i.before k x p.1 w in omega arith) (nth_set ns j n k x e);
    alone = λ k l x y e f v u q. both k l x y v u q (nth_set ns j n k x e) (nth_set ns j n l y f);
  }
    where
      waits_then : (x : Node Feet Label Note) → x ≡ n → x.closed ≡ false → node_waits x ≡ true
      waits_then x e c = rw e (opens (rw (← e) c))

      below_then : (x : Node Feet Label Note) → x ≡ n → node_waits x ≡ true → push_of x < h
      below_then x e w = rw e (below (rw (← e) w))

      both : (k l : ℕ) (x y : Node Feet Label Note) → node_waits x ≡ true → node_waits y ≡ true → push_of x ≡ push_of y →
          ((k ≡ j) × (x ≡ n)) ⊎ ((k ≢ j) × (nth ns k ≡ some x)) → ((l ≡ j) × (y ≡ n)) ⊎ ((l ≢ j) × (nth ns l ≡ some y)) → k ≡ l
      both k l x y v u q (inl a) (inl b) = a.0 ∙ sym b.0
      both k l x y v u q (inl a) (inr b) = absurd (own (rw (← a.1) v) l y b.0 b.1 u (sym q ∙ ap push_of a.1))
      both k l x y v u q (inr a) (inl b) = absurd (own (rw (← b.1) u) k x a.0 a.1 v (q ∙ ap push_of b.1))
      both k l x y v u q (inr a) (inr b) = i.alone k l x y a.1 b.1 v u q

-- a node that is pushed again, with a new number or its old one
module _ (ns : Nodes) (g j k : ℕ) (m : Node Feet Label Note) (at : nth ns j ≡ some m) (unshut : m.closed ≡ false) (i : Apart ns g) (l : Label) (cost e : ℕ) where
  again : (b : Bool) → Apart (set ns j (child k m.point l (opened cost (lowered_by b e m.note.entry g)))) (g + 1)
  again true = in_place ns g (g + 1) j _ i (omega arith) (λ c. refl) (λ w. omega arith) (λ w d x o f v q. let z = i.before d x f v in omega arith)
  again false =
      in_place ns g (g + 1) j _ i (omega arith) (λ c. refl) (λ w. let z = i.before j m at (i.open_waits j m at unshut) in omega arith)
      (λ w d x o f v q. o (i.alone d j x m f at v (i.open_waits j m at unshut) q))

module _ (𝓖 : Graph Feet Label) (goal : Feet) where
  pushed_again : (ns : Nodes) (g k : ℕ) (f : Node Feet Label Note) (w : Feet × Label) (j : ℕ) (m : Node Feet Label Note) (a : Note × ℕ) → Apart ns g → nth ns j ≡ some m → m.closed ≡ false →
      relaxed goal (cost_by f.note.cost f.point w.0) w.0 m.note g ≡ some a → Apart (set ns j (child k m.point w.1 a.0)) a.1
  unfolding relaxed lowered
  pushed_again ns g k f w j m a i e c x =
      let cost = cost_by f.note.cost f.point w.0 in
      let est = estimate_by goal cost w.0 in
      let z = given_is (cheaper cost m.note.cost) (opened cost (lowered est m.note.entry g), g + 1) a x in
      rw (← z) (again ns g j k m e c i w.1 cost est (lowers est m.note.entry))

  kept : Kept 𝓖 (best goal) (λ c ns g. Apart ns g) (λ c f. Unit {0}) (λ w. Unit {0})
  unfolding best
  kept = record {
    empty = empty 1;
    begins = one_more [] 0 (start_node 𝓖 (best goal)) (empty 0) refl refl;
    steps = λ c f j. each_any (𝓖.steps f.point);
    closes = λ c ns g k n i e w. (in_place ns g g k (closed_node 𝓖 (best goal) n) i (omega arith) (λ o. absurd (true_false refl o)) (λ w. absurd (true_false w refl)) (λ w. absurd (true_false w refl)), tt);
    retains = λ c ns g k f w j t i. one_more ns g _ i refl refl;
    reparents = λ c ns g k f w j m a _ _ i e s o x. pushed_again ns g k f w j m a i e o x;
  }

  -- in every state that a search comes to, no two nodes that wait have one number
  pub pushes_apart : (b n : ℕ) → let s = run 𝓖 (best goal) b n (begin 𝓖 (best goal) b) in
      (j k : ℕ) (x y : Node Feet Label Note) → nth s.nodes j ≡ some x → nth s.nodes k ≡ some y → node_waits x ≡ true → node_waits y ≡ true → push_of x ≡ push_of y → j ≡ k
  pushes_apart b n = (run_kept 𝓖 (best goal) (λ c ns g. Apart ns g) (λ c f. Unit {0}) (λ w. Unit {0}) (best_laws goal) kept b n).alone
