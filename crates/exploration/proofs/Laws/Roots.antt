-- Once the start is closed it alone is without a parent: before that there is no other node, and a closed node is not re-parented.
use Rattle.std.specs.Prelude.{◌≡◌, refl, true, false, List, [], ◌∷◌, ◌++◌, ◌⊎◌, ◌≢◌, ℕ, zero, suc, eqb, set}
use Rattle.std.proofs.Common.{sym, ap, subst, ◌∙◌, inl, inr, ⊎_elim, eqb-true}
use Rattle.std.proofs.Math.Option.{none, some}
use Rattle.std.proofs.lemmas.Bool.{eqb-false}
use Rattle.exploration.specs.Lists.{nth}
use Rattle.exploration.specs.Graph.{Graph}
use Rattle.exploration.specs.Policy.{Node, Policy, PolicyLaws}
use Rattle.exploration.specs.Explore.{child, closed_node, start_node, run, begin}
use Rattle.exploration.proofs.Laws.Kept.{Kept, each_any, run_kept}
use Rattle.exploration.proofs.Laws.Lists.{none_some, true_false, true_or_false, nth_snoc, nth_left, nth_one, nth_set, nth_set_same, nth_set_other}

some_none : {j : ℕ} → some j ≢ none
some_none e = none_some (sym e)

module _ {P L A : Type 0} where
  -- the first node is closed, and has no parent
  record ShutFirst (ns : List (Node P L A)) : Type 0 where
    pub node : Node P L A
    pub there : nth ns 0 ≡ some node
    pub shut : node.closed ≡ true
    pub none_before : node.parent ≡ none

  -- every other one has
  abbrev Others : List (Node P L A) → Type 0
  Others ns = (k : ℕ) (n : Node P L A) → nth ns k ≡ some n → k ≢ 0 → n.parent ≢ none

  -- after so many closings
  abbrev Rooted : ℕ → List (Node P L A) → Type 0
  Rooted zero ns = (k : ℕ) (n : Node P L A) → nth ns k ≡ some n → (k ≡ 0) × (n.parent ≡ none)
  Rooted (suc c) ns = ShutFirst ns × Others ns

  -- a node put in place of one that has its parent
  first_set : (ns : List (Node P L A)) (k : ℕ) (n m : Node P L A) → ShutFirst ns → nth ns k ≡ some n → m.closed ≡ true → m.parent ≡ n.parent → ShutFirst (set ns k m)
  first_set ns k n m f e c p = go (true_or_false (eqb 0 k))
    where
      go : (eqb 0 k ≡ true) ⊎ (eqb 0 k ≡ false) → ShutFirst (set ns k m)
      go (inl q) = let z : 0 ≡ k = eqb-true 0 k q in record { node = m; there = rw (sym z) (nth_set_same ns 0 m n (rw (sym z) at e)); shut = c; none_before = p ∙ cc }
      go (inr q) = record { node = f.node; there = nth_set_other ns k m 0 (eqb-false 0 k q) ∙ f.there; shut = f.shut; none_before = f.none_before }

  -- a node put in place of another, or behind all
  others_set : (ns : List (Node P L A)) (k : ℕ) (m : Node P L A) → Others ns → (k ≢ 0 → m.parent ≢ none) → Others (set ns k m)
  others_set ns k m o h i n e z = ⊎_elim (λ q. rw q.1 (h (λ y. z (q.0 ∙ y)))) (λ q. o i n q.1 z) (nth_set ns k m i n e)

  others_more : (ns : List (Node P L A)) (m : Node P L A) → Others ns → m.parent ≢ none → Others (ns ++ (m ∷ []))
  others_more ns m o h i n e z = ⊎_elim (λ q. o i n q z) (λ q. rw q.1 h) (nth_snoc ns m i n e)

module _ {P L A B : Type 0} (𝓖 : Graph P L) (𝓟 : Policy P L A B) where
  shut_first : (c : ℕ) (ns : List (Node P L A)) (k : ℕ) (n : Node P L A) → Rooted c ns → nth ns k ≡ some n → Rooted (suc c) (set ns k (closed_node 𝓖 𝓟 n))
  shut_first zero ns k n i e =
      let at = i k n e in (
        record { node = closed_node 𝓖 𝓟 n; there = subst (λ (j : ℕ). nth (set ns k (closed_node 𝓖 𝓟 n)) j ≡ some (closed_node 𝓖 𝓟 n)) at.0 (nth_set_same ns k (closed_node 𝓖 𝓟 n) n e); shut = refl; none_before = at.1 },
        λ j m h z. ⊎_elim (λ q. absurd (z (q.0 ∙ at.0))) (λ q. absurd (z (i j m q.1).0)) (nth_set ns k (closed_node 𝓖 𝓟 n) j m h),
      )
  shut_first (suc c) ns k n i e = (first_set ns k n (closed_node 𝓖 𝓟 n) i.0 e refl refl, others_set ns k (closed_node 𝓖 𝓟 n) i.1 (λ z. i.1 k n e z))

  -- an open node is not the first
  open_later : (ns : List (Node P L A)) (j : ℕ) (m : Node P L A) → ShutFirst ns → nth ns j ≡ some m → m.closed ≡ false → 0 ≢ j
  open_later ns j m f e c z = let s : f.node ≡ m = nth_one ns 0 f.node m f.there (rw z e) in true_false (ap (λ n. n.closed) (sym s) ∙ f.shut) c

  rooted_kept : Kept 𝓖 𝓟 (λ c ns g. Rooted c ns) (λ c f. Unit {0}) (λ w. Unit {0})
  rooted_kept = record {
    empty = λ k n e. absurd (none_some e);
    begins = λ k n e. ⊎_elim (λ q. absurd (none_some q)) (λ q. (q.0, ap (λ m. m.parent) q.1)) (nth_snoc [] (start_node 𝓖 𝓟) k n e);
    steps = λ c f j. each_any (𝓖.steps f.point);
    closes = λ c ns g k n i e w. (shut_first c ns k n i e, tt);
    retains = λ c ns g k f w j t i. (
      record { node = i.0.node; there = nth_left ns _ 0 i.0.node i.0.there; shut = i.0.shut; none_before = i.0.none_before },
      others_more ns (child k w.0 w.1 (𝓟.admit f w g).0) i.1 some_none,
    );
    reparents = λ c ns g k f w j m a _ _ i e s o x. (
      record { node = i.0.node; there = nth_set_other ns j _ 0 (open_later ns j m i.0 e o) ∙ i.0.there; shut = i.0.shut; none_before = i.0.none_before },
      others_set ns j (child k m.point w.1 a.0) i.1 (λ z. some_none),
    );
  }

  rooted_alone : (c : ℕ) (ns : List (Node P L A)) → Rooted c ns → (k : ℕ) (n : Node P L A) → nth ns k ≡ some n → (k ≡ 0 → n.parent ≡ none) × (k ≢ 0 → n.parent ≢ none)
  rooted_alone zero ns i k n e = (λ z. (i k n e).1, λ z. absurd (z (i k n e).0))
  rooted_alone (suc c) ns i k n e = (λ z. let s : i.0.node ≡ n = nth_one ns 0 i.0.node n i.0.there (rw z at e) in ap (λ m. m.parent) (sym s) ∙ i.0.none_before, λ z. i.1 k n e z)

  -- in every state of a run the first node, and no other, is without a parent
  pub start_alone : PolicyLaws 𝓟 → (b n : ℕ) → let s = run 𝓖 𝓟 b n (begin 𝓖 𝓟 b) in
      (k : ℕ) (x : Node P L A) → nth s.nodes k ≡ some x → (k ≡ 0 → x.parent ≡ none) × (k ≢ 0 → x.parent ≢ none)
  start_alone laws b n =
      let s = run 𝓖 𝓟 b n (begin 𝓖 𝓟 b) in
      rooted_alone s.closings s.nodes (run_kept 𝓖 𝓟 (λ c ns g. Rooted c ns) (λ c f. Unit {0}) (λ w. Unit {0}) laws rooted_kept b n)
