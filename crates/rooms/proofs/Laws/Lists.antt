-- The walk back on the node room is the theory's trace.
use Rattle.std.specs.Prelude.{◌≡◌, Bool, eqb, length}
use Rattle.std.proofs.Math.Path.{refl, sym, ap}
use Rattle.std.proofs.Common.{◌∙◌, arith, lt-ltb, le-ltb, ne_eqb, le-leb, List, [], ◌∷◌, ℕ, zero, suc, ◌*◌, ◌/◌, ◌≤◌, ◌<◌}
use Rattle.std.proofs.Math.Bool.{true, false}
use Rattle.std.proofs.Math.Option.{none, some}
pub use Rattle.std.proofs.lemmas.Bool.{cases_lt as in_or_out}
use mathlib.Core.List.{reverse_aux}
use Rattle.std.proofs.Math.Logic.{⊎_elim}
use Rattle.exploration.specs.Lists.{nth}
use Rattle.exploration.specs.Explore.{trace, trace_at, arrive}
use Rattle.fields.proofs.RecordLaws.{length_firsts}
use Rattle.rooms.specs.declared.Feet.{Feet}
use Rattle.rooms.specs.declared.Label.{Label}
use Rattle.rooms.specs.declared.Counts.{Counts}
use Rattle.rooms.specs.Records.{node_at}
use Rattle.rooms.specs.Rooms.{nobody, parent_of, node_of, node_in, nodes_of, state_of}
use Rattle.rooms.specs.Lists.{node_waypoint, walk, list_of}
use Rattle.rooms.proofs.Laws.Rooms.{nth_firsts}

-- ---- one turn of a walk

pub walk_on : (f g : ℕ) (a : List ℕ) (n k : ℕ) → f ≡ suc g → k < n → walk f a n k ≡ node_waypoint a k ∷ walk g a n (node_at a k).parent
walk_on f g a n k e h = ap (λ (i : ℕ). walk i a n k) e ∙ (let t = lt-ltb k n h in rw t)

pub walk_off : (f : ℕ) (a : List ℕ) (n k : ℕ) → n ≤ k → walk f a n k ≡ []
walk_off zero a n k h = refl
walk_off (suc f) a n k h = let t = le-ltb k n h in rw t

-- ---- it is the theory's trace

nth_none : {A : Type 0} (xs : List A) (k : ℕ) → length xs ≤ k → nth xs k ≡ none
nth_none [] k h = refl
nth_none (x ∷ xs) zero h = absurd (omega arith)
nth_none (x ∷ xs) (suc k) h = nth_none xs k (omega arith)

some_parent : (k : ℕ) → k < nobody → parent_of k ≡ some k
unfolding parent_of
some_parent k h = let e = ne_eqb k nobody (λ i. omega arith) in rw e

module _ (a fr : List ℕ) (n : ℕ) (small : n ≤ nobody) where
  off : (f k : ℕ) → n ≤ k → (b : Bool) → eqb k nobody ≡ b → trace (suc f) (nodes_of n a fr) (parent_of k) ≡ []
  unfolding parent_of
  off f k h true e = rw e
  off f k h false e = let z = nth_none (nodes_of n a fr) k (rw length_firsts h) in rw (e, z)

  walk_trace : (f k : ℕ) → trace f (nodes_of n a fr) (parent_of k) ≡ walk f a n k
  unfolding node_of
  walk_trace zero k = refl
  walk_trace (suc f) k = ⊎_elim
      (λ h. ap (trace (suc f) (nodes_of n a fr)) (some_parent k (omega arith)) ∙ ap (trace_at (trace f (nodes_of n a fr))) (nth_firsts n (node_in a fr) k h) ∙ ap (λ (l : List (Feet × Label)). node_waypoint a k ∷ l) (walk_trace f (node_at a k).parent) ∙ sym (walk_on (suc f) f a n k refl h))
      (λ h. off f k h (eqb k nobody) refl ∙ sym (walk_off (suc f) a n k h))
      (in_or_out k n)

  walk_some : (f k : ℕ) → trace f (nodes_of n a fr) (some k) ≡ walk f a n k
  walk_some zero k = refl
  walk_some (suc f) k = ⊎_elim
      (λ h. ap (trace (suc f) (nodes_of n a fr)) (sym (some_parent k (omega arith))) ∙ walk_trace (suc f) k)
      (λ h. (let z = nth_none (nodes_of n a fr) k (rw length_firsts h) in rw z) ∙ sym (walk_off (suc f) a n k h))
      (in_or_out k n)

-- the list that the theory's search finds at node k is the list of the room
pub arrive_list : (a fr : List ℕ) (c : Counts) (k : ℕ) (t : List (Feet × Label)) → c.retained ≤ nobody → 64 * c.retained ≤ length a → (arrive (state_of a fr c) k t).found ≡ some (list_of a c.retained k t)
unfolding state_of list_of
arrive_list a fr c k t small room =
    let e = le-leb c.retained (length a / 64) (omega arith) in
    ap (λ (x : List (Feet × Label)). some (reverse_aux x t)) (ap (λ (n : ℕ). trace n (nodes_of c.retained a fr) (some k)) (length_firsts c.retained _) ∙ walk_some a fr c.retained small c.retained k) ∙ rw e
