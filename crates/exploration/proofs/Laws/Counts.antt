-- How far the counts of a run go: an expansion closes one node, and each of its steps drops at most one point and adds at most one to what the policy counts in its book. So
-- both are bounded by the closings, where the number of steps from a point is.
use Rattle.std.specs.Prelude.{◌≡◌, refl, Bool, List, [], ◌∷◌, ltb, length}
use Rattle.std.proofs.Common.{◌∙◌, mul-suc}
use Rattle.std.proofs.Math.Bool.{true, false}
use Rattle.std.proofs.Math.Option.{Option, none, some}
use Prim.Native.Nat.{ℕ, zero, suc, ◌+◌, ◌*◌, ◌≤◌}
use native.Mathlib.Omega.{arith}
use Rattle.exploration.specs.Graph.{Graph}
use Rattle.exploration.specs.Policy.{Node, Policy}
use Rattle.exploration.specs.Explore.{State, Effect, skip, reparent, retain, child, seek, ending, keep_or_drop, apply, effect_known, effect_at, effect, visit, visits, closed_node, close, expand_by, advance_by, advance, run, blank, start_node, begin}

module _ {P L A B : Type 0} where
  room_closings : (q : Bool) (s : State P L A B) (n : Node P L A) (g : B) → (keep_or_drop q s n g).closings ≡ s.closings
  room_closings true s n g = refl
  room_closings false s n g = refl

  apply_closings : (b : ℕ) (s : State P L A B) (e : Effect P L A B) → (apply b s e).closings ≡ s.closings
  apply_closings b s skip = refl
  apply_closings b s (reparent j n g) = refl
  apply_closings b s (retain n g) = room_closings (ltb (length s.nodes) b) s n g

module _ {P L A B : Type 0} (𝓖 : Graph P L) (𝓟 : Policy P L A B) where
  open 𝓟 use {pick, opening, admit, relax}

  -- steps close no node
  pub visits_closings : (b k : ℕ) (f : Node P L A) (s : State P L A B) (ws : List (P × L)) → (visits 𝓖 𝓟 b k f s ws).closings ≡ s.closings
  visits_closings b k f s [] = refl
  visits_closings b k f s (w ∷ ws) = visits_closings b k f (visit 𝓖 𝓟 b k f s w) ws ∙ apply_closings b s (effect 𝓖 𝓟 k f s.nodes s.book w)

  -- `size` is what the policy counts in its book, as pushes
  module _ (size : B → ℕ) where
    pub record OneByOne : Type 0 where
      pub admits : (f : Node P L A) (w : P × L) (g : B) → size (admit f w g).1 ≤ suc (size g)
      pub relaxes : (f t : Node P L A) (w : P × L) (g : B) (a : A × B) → relax f t w g ≡ some a → size a.1 ≤ suc (size g)

    -- the counts of t are at most d above those of s
    abbrev Near : ℕ → State P L A B → State P L A B → Type 0
    Near d s t = (size t.book ≤ size s.book + d) × (t.dropped ≤ s.dropped + d)

    module _ (slow : OneByOne) (b : ℕ) where
      by_room : (k : ℕ) (f : Node P L A) (s : State P L A B) (w : P × L) (q : Bool) →
          Near 1 s (keep_or_drop q s (child k w.0 w.1 (admit f w s.book).0) (admit f w s.book).1)
      by_room k f s w true = (omega (arith, slow.admits f w s.book), omega arith)
      by_room k f s w false = (omega arith, omega arith)

      by_node : (k : ℕ) (f : Node P L A) (s : State P L A B) (w : P × L) (r : ℕ × Node P L A) (q : Bool) (o : Option (A × B)) → relax f r.1 w s.book ≡ o →
          Near 1 s (apply b s (effect_known k w r q o))
      by_node k f s w r true o e = (omega arith, omega arith)
      by_node k f s w r false none e = (omega arith, omega arith)
      by_node k f s w r false (some a) e = (omega (arith, slow.relaxes f r.1 w s.book a e), omega arith)

      by_lookup : (k : ℕ) (f : Node P L A) (s : State P L A B) (w : P × L) (o : Option (ℕ × Node P L A)) → Near 1 s (apply b s (effect_at 𝓖 𝓟 k f s.book w o))
      by_lookup k f s w none = by_room k f s w (ltb (length s.nodes) b)
      by_lookup k f s w (some r) = by_node k f s w r r.1.closed (relax f r.1 w s.book) refl

      visit_near : (k : ℕ) (f : Node P L A) (s : State P L A B) (w : P × L) → Near 1 s (visit 𝓖 𝓟 b k f s w)
      unfolding effect
      visit_near k f s w = by_lookup k f s w (seek 𝓖 s.nodes w.0)

      visits_near : (k : ℕ) (f : Node P L A) (s : State P L A B) (ws : List (P × L)) → Near (length ws) s (visits 𝓖 𝓟 b k f s ws)
      visits_near k f s [] = (omega arith, omega arith)
      visits_near k f s (w ∷ ws) =
          let here = visit_near k f s w in
          let others = visits_near k f (visit 𝓖 𝓟 b k f s w) ws in
          (omega (arith, here.0, others.0), omega (arith, here.1, others.1))

      module _ (most : ℕ) (few : (p : P) → length (𝓖.steps p) ≤ most) where
        -- by at most so much for each node that was closed on the way
        abbrev Slow : State P L A B → State P L A B → Type 0
        Slow s t = (size t.book + most * s.closings ≤ size s.book + most * t.closings) × (t.dropped + most * s.closings ≤ s.dropped + most * t.closings)

        expand_slow : (s : State P L A B) (k : ℕ) (n : Node P L A) (o : Option (List (P × L))) → Slow s (expand_by 𝓖 𝓟 b s k n o)
        expand_slow s k n (some t) = (omega (arith, mul-suc most s.closings), omega (arith, mul-suc most s.closings))
        expand_slow s k n none =
            let shut = closed_node 𝓖 𝓟 n in
            let ws = 𝓖.steps n.point in
            let near = visits_near k shut (close 𝓖 𝓟 s k n) ws in
            let count = visits_closings b k shut (close 𝓖 𝓟 s k n) ws in
            rw count (omega (arith, near.0, few n.point, mul-suc most s.closings), omega (arith, near.1, few n.point, mul-suc most s.closings))

        advance_slow : (s : State P L A B) (h : Option (List (P × L))) (o : Option (ℕ × Node P L A)) → Slow s (advance_by 𝓖 𝓟 b s h o)
        advance_slow s (some t) o = (omega arith, omega arith)
        advance_slow s none none = (omega arith, omega arith)
        advance_slow s none (some r) = expand_slow s r.0 r.1 (ending 𝓖 r.1.point)

        run_slow : (n : ℕ) (s : State P L A B) → Slow s (run 𝓖 𝓟 b n s)
        unfolding advance
        run_slow zero s = (omega arith, omega arith)
        run_slow (suc n) s =
            let here = advance_slow s s.found (pick s.nodes s.book) in
            let others = run_slow n (advance 𝓖 𝓟 b s) in
            (omega (arith, here.0, others.0), omega (arith, here.1, others.1))

        -- the book's count and the dropped points after any number of expansions
        pub run_counts : (n : ℕ) → let s = run 𝓖 𝓟 b n (begin 𝓖 𝓟 b) in (size s.book ≤ size opening.1 + most * s.closings) × (s.dropped ≤ 1 + most * s.closings)
        unfolding begin
        run_counts n = go (ltb 0 b)
          where
            go : (q : Bool) → let s = run 𝓖 𝓟 b n (keep_or_drop q (blank 𝓖 𝓟) (start_node 𝓖 𝓟) opening.1) in
                (size s.book ≤ size opening.1 + most * s.closings) × (s.dropped ≤ 1 + most * s.closings)
            go true = let z = run_slow n (keep_or_drop true (blank 𝓖 𝓟) (start_node 𝓖 𝓟) opening.1) in (omega (arith, z.0), omega (arith, z.1))
            go false = let z = run_slow n (keep_or_drop false (blank 𝓖 𝓟) (start_node 𝓖 𝓟) opening.1) in (omega (arith, z.0), omega (arith, z.1))
