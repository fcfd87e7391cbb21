-- What every state of a run keeps: a fact I of the nodes and the book that the start has, that closing keeps, and that each visit of a step keeps. J is what
-- closing tells of the node that is expanded, and 𝓛 what its steps have. I and J may turn on how many nodes were closed before.
use Rattle.std.specs.Prelude.{◌≡◌, refl, Bool, true, false, List, [], ◌∷◌, ◌++◌, ltb, length, set}
use Rattle.std.proofs.Common.{sym, subst}
use Rattle.std.proofs.Math.Option.{Option, none, some}
use Prim.Native.Nat.{ℕ, zero, suc}
use Rattle.exploration.specs.Lists.{nth}
use Rattle.exploration.specs.Graph.{Graph}
use Rattle.exploration.specs.Policy.{Node, Policy, PolicyLaws}
use Rattle.exploration.specs.Explore.{State, child, seek, ending, keep_or_drop, apply, effect_known, effect_at, effect, visit, visits, closed_node, close, expand_by, advance_by, advance, run, blank, start_node, begin}
use Rattle.exploration.proofs.Laws.Lists.{Each}
use Rattle.exploration.proofs.Laws.Counts.{visits_closings}
use Rattle.exploration.proofs.Laws.Visits.{Sought, at, nowhere, sought}

-- nothing is asked of any
pub each_any : {A : Type 0} (xs : List A) → Each (λ x. Unit {0}) xs
each_any [] = tt
each_any (x ∷ xs) = (tt, each_any xs)

module _ {P L A B : Type 0} (𝓖 : Graph P L) (𝓟 : Policy P L A B) (I : ℕ → List (Node P L A) → B → Type 0) (J : ℕ → Node P L A → Type 0) (W : P × L → Type 0) where
  open 𝓖 use {same}
  open 𝓟 use {waits, pick, opening, admit, relax}

  pub record Kept : Type 0 where
    pub empty : I 0 [] opening.1
    pub begins : I 0 (start_node 𝓖 𝓟 ∷ []) opening.1
    pub steps : (c : ℕ) (f : Node P L A) → J c f → Each W (𝓖.steps f.point)
    pub closes : (c : ℕ) (ns : List (Node P L A)) (g : B) (k : ℕ) (n : Node P L A) → I c ns g → nth ns k ≡ some n → waits n.note ≡ true →
        I (suc c) (set ns k (closed_node 𝓖 𝓟 n)) g × J c (closed_node 𝓖 𝓟 n)
    pub retains : (c : ℕ) (ns : List (Node P L A)) (g : B) (k : ℕ) (f : Node P L A) (w : P × L) → J c f → W w → I (suc c) ns g →
        I (suc c) (ns ++ (child k w.0 w.1 (admit f w g).0 ∷ [])) (admit f w g).1
    pub reparents : (c : ℕ) (ns : List (Node P L A)) (g : B) (k : ℕ) (f : Node P L A) (w : P × L) (j : ℕ) (m : Node P L A) (a : A × B) → J c f → W w → I (suc c) ns g →
        nth ns j ≡ some m → same m.point w.0 ≡ true → m.closed ≡ false → relax f m w g ≡ some a →
        I (suc c) (set ns j (child k m.point w.1 a.0)) a.1

  module _ (laws : PolicyLaws 𝓟) (kept : Kept) (b : ℕ) where
    module _ (c k : ℕ) (f : Node P L A) (j : J c f) where
      -- in an expansion that c others went before
      abbrev Holds : State P L A B → Type 0
      Holds s = I (suc c) s.nodes s.book

      by_node : (s : State P L A B) (w : P × L) (r : ℕ × Node P L A) (q : Bool) (o : Option (A × B)) → W w → Holds s → nth s.nodes r.0 ≡ some r.1 →
          same r.1.point w.0 ≡ true → r.1.closed ≡ q → relax f r.1 w s.book ≡ o → Holds (apply b s (effect_known k w r q o))
      by_node s w r true o h i e p q x = i
      by_node s w r false none h i e p q x = i
      by_node s w r false (some a) h i e p q x = kept.reparents c s.nodes s.book k f w r.0 r.1 a j h i e p q x

      by_room : (s : State P L A B) (w : P × L) (q : Bool) → W w → Holds s → Holds (keep_or_drop q s (child k w.0 w.1 (admit f w s.book).0) (admit f w s.book).1)
      by_room s w true h i = kept.retains c s.nodes s.book k f w j h i
      by_room s w false h i = i

      by_sought : (s : State P L A B) (w : P × L) (o : Option (ℕ × Node P L A)) → W w → Holds s → Sought 𝓖 s.nodes w.0 o → Holds (apply b s (effect_at 𝓖 𝓟 k f s.book w o))
      by_sought s w o h i (at r e p) = by_node s w r r.1.closed (relax f r.1 w s.book) h i e p refl refl
      by_sought s w o h i (nowhere u) = by_room s w (ltb (length s.nodes) b) h i

      visit_kept : (s : State P L A B) (w : P × L) → W w → Holds s → Holds (visit 𝓖 𝓟 b k f s w)
      unfolding effect
      visit_kept s w h i = by_sought s w (seek 𝓖 s.nodes w.0) h i (sought 𝓖 s.nodes w.0)

      visits_kept : (s : State P L A B) (ws : List (P × L)) → Each W ws → Holds s → Holds (visits 𝓖 𝓟 b k f s ws)
      visits_kept s [] h i = i
      visits_kept s (w ∷ ws) h i = visits_kept (visit 𝓖 𝓟 b k f s w) ws h.1 (visit_kept s w h.0 i)

    abbrev Keeps : State P L A B → Type 0
    Keeps s = I s.closings s.nodes s.book

    expand_kept : (s : State P L A B) (k : ℕ) (n : Node P L A) (o : Option (List (P × L))) → Keeps s → nth s.nodes k ≡ some n → waits n.note ≡ true →
        Keeps (expand_by 𝓖 𝓟 b s k n o)
    expand_kept s k n (some t) i e h = (kept.closes s.closings s.nodes s.book k n i e h).0
    expand_kept s k n none i e h =
        let c = kept.closes s.closings s.nodes s.book k n i e h in
        let shut = closed_node 𝓖 𝓟 n in
        let t = visits 𝓖 𝓟 b k shut (close 𝓖 𝓟 s k n) (𝓖.steps n.point) in
        subst (λ (i : ℕ). I i t.nodes t.book) (sym (visits_closings 𝓖 𝓟 b k shut (close 𝓖 𝓟 s k n) (𝓖.steps n.point)))
        (visits_kept s.closings k shut c.1 (close 𝓖 𝓟 s k n) (𝓖.steps n.point) (kept.steps s.closings shut c.1) c.0)

    advance_kept : (s : State P L A B) (h : Option (List (P × L))) (o : Option (ℕ × Node P L A)) → Keeps s → pick s.nodes s.book ≡ o → Keeps (advance_by 𝓖 𝓟 b s h o)
    advance_kept s (some t) o i e = i
    advance_kept s none none i e = i
    advance_kept s none (some r) i e =
        let q = laws.pick_some s.nodes s.book r e in expand_kept s r.0 r.1 (ending 𝓖 r.1.point) i q.0 q.1

    from_kept : (n : ℕ) (s : State P L A B) → Keeps s → Keeps (run 𝓖 𝓟 b n s)
    unfolding advance
    from_kept zero s i = i
    from_kept (suc n) s i = from_kept n (advance 𝓖 𝓟 b s) (advance_kept s s.found (pick s.nodes s.book) i refl)

    begin_kept : (q : Bool) → Keeps (keep_or_drop q (blank 𝓖 𝓟) (start_node 𝓖 𝓟) opening.1)
    begin_kept true = kept.begins
    begin_kept false = kept.empty

    pub run_kept : (n : ℕ) → let s = run 𝓖 𝓟 b n (begin 𝓖 𝓟 b) in I s.closings s.nodes s.book
    unfolding begin
    run_kept n = from_kept n (begin 𝓖 𝓟 b) (begin_kept (ltb 0 b))
