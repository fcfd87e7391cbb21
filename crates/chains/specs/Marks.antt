-- What the code marks: nodes from which node 0 is reached. As the proofs of the code cite it.
use Rattle.std.specs.Prelude.{ℕ, zero, suc, ◌+◌, ◌≤◌, ◌<◌, ◌≡◌, refl, Bool, true, false, List, [], ◌∷◌, ◌≢◌, get_or, set, replicate, eqb, Option, Some, None, IfSome, MatchOption, unwrap_or}
use Rattle.std.proofs.Common.{arith, sym, ap, ◌∙◌, ⊎_elim, get_or-set_other, eq-eqb, eqb-true}
use Rattle.std.proofs.lemmas.Bool.{eqb-false}
use Rattle.exploration.proofs.Laws.Lists.{true_or_false, true_false}
use Rattle.rooms.specs.Records.{node_at}
use Rattle.chains.specs.Chains.{each_below, good_parent, parent_back, parents_back, ends_at_start, good_chains}
use Rattle.chains.specs.Laws as laws
pub use Rattle.chains.specs.Laws.{ParentsInside}

-- some number of parents back from a node is node 0
abbrev pub Reaches : List ℕ → ℕ → Type 0
Reaches a k = (m : ℕ) × (parents_back a m k ≡ 0)

-- each marked node reaches node 0
abbrev pub MarksSound : List ℕ → List Bool → Type 0
MarksSound a done = (k : ℕ) → get_or done k false ≡ true → Reaches a k

-- where a climb ends: so many parents back, at most n, at node 0 or a marked one; or n parents back it has come to neither
abbrev pub Climbed : List ℕ → List Bool → ℕ → ℕ → Option ℕ → Type 0
Climbed a done n k r = MatchOption r (parents_back a n k ≢ 0) (λ m. (m ≤ n) × (MarksSound a done → Reaches a k))

-- what comes of a chain that is followed: it ends, or n parents back it has not; and each marked node reaches node 0
pub record ChainMarked (a : List ℕ) (n k : ℕ) (done : List Bool) (r : Bool) : Type 0 where
  pub sound : MarksSound a done
  pub ends : r ≡ true → Reaches a k
  pub not_ended : r ≡ false → parents_back a n k ≢ 0

-- m parents back a marked node stands
pub reaches_marked : (a : List ℕ) (done : List Bool) (m at k : ℕ) → at ≡ parents_back a m k → get_or done at false ≡ true → MarksSound a done → Reaches a k
reaches_marked a done m at k e d s = let r = s at d in (m + r.0, laws.back_add a m r.0 k ∙ ap (parents_back a r.0) (sym e) ∙ r.1)

-- where a climb has come to node 0, to a marked node, or to neither n parents back
module _ (a : List ℕ) (done : List Bool) (n k m at : ℕ) where
  pub climbed_first : m ≤ n → at ≡ parents_back a m k → at ≡ 0 → Climbed a done n k (Some m)
  climbed_first h e d = (h, λ s. (m, sym e ∙ d))

  pub climbed_marked : m ≤ n → at ≡ parents_back a m k → get_or done at false ≡ true → Climbed a done n k (Some m)
  climbed_marked h e d = (h, reaches_marked a done m at k e d)

pub climbed_none : (a : List ℕ) (done : List Bool) (n k : ℕ) → parents_back a n k ≢ 0 → Climbed a done n k None
climbed_none a done n k d = d

-- ---- marks

-- a node that reaches node 0 does so from each node of its chain
pub reaches_back : (a : List ℕ) (i k : ℕ) → Reaches a k → Reaches a (parents_back a i k)
reaches_back a i k r = (r.0, sym (laws.back_add a i r.0 k) ∙ laws.back_later a r.0 (i + r.0) k (omega arith) r.1)

pub sound_none : (a : List ℕ) (n : ℕ) → MarksSound a (replicate n false)
sound_none a n k d = absurd (true_false d (blank n k))
  where
    blank : (n k : ℕ) → get_or (replicate n false) k false ≡ false
    blank zero k = refl
    blank (suc n) zero = refl
    blank (suc n) (suc k) = blank n k

-- a node is marked, as another is or not
set_at : (done : List Bool) (k : ℕ) (v : Bool) → get_or (set done k v) k false ≡ true → v ≡ true
set_at [] k v d = absurd (true_false d refl)
set_at (x ∷ xs) zero v d = d
set_at (x ∷ xs) (suc k) v d = set_at xs k v d

pub sound_copy : (a : List ℕ) (done : List Bool) (at : ℕ) (v : Bool) → (v ≡ true → Reaches a at) → MarksSound a done → MarksSound a (set done at v)
sound_copy a done at v r s k d = ⊎_elim (λ e. go k (eqb-true k at e) d) (λ e. s k (rw (get_or-set_other done at k v false (eqb-false k at e)) at d)) (true_or_false (eqb k at))
  where
    go : (k : ℕ) → k ≡ at → get_or (set done at v) k false ≡ true → Reaches a k
    go k e d = rw e (r (set_at done at v (rw e at d)))

-- one node more is marked
pub sound_more : (a : List ℕ) (done : List Bool) (at : ℕ) → Reaches a at → MarksSound a done → MarksSound a (set done at true)
sound_more a done at r s = sound_copy a done at true (λ e. r) s

-- ---- the ways out of `settle`

module _ {a : List ℕ} {done : List Bool} {n k : ℕ} where
  pub marked_end : MarksSound a done → Reaches a k → ChainMarked a n k done true
  marked_end s r = record { sound = s; ends = λ e. r; not_ended = λ e. absurd (true_false refl e) }

  pub marked_not : MarksSound a done → parents_back a n k ≢ 0 → ChainMarked a n k done false
  marked_not s h = record { sound = s; ends = λ e. absurd (true_false e refl); not_ended = λ e. h }

-- a node whose parent reaches node 0 reaches it
pub reaches_on : (a : List ℕ) (k : ℕ) → Reaches a (parent_back a k) → Reaches a k
reaches_on a k r = (suc r.0, r.1)

-- ---- a first look

-- what a look says: of each of n nodes that it has a good parent, and where it is true that it reaches node 0; or nothing
pub record ParentsLooked (a : List ℕ) (n : ℕ) (done : List Bool) (r : Option Bool) : Type 0 where
  pub sound : MarksSound a done
  pub linked : IfSome r (λ all. each_below (good_parent a n) n ≡ true)
  pub ended : IfSome r (λ all. all ≡ true → (k : ℕ) → k < n → Reaches a k)

-- a node whose parent is p, one of n and closed
module _ (a : List ℕ) (n k p : ℕ) (later : 1 ≤ k) (is : p ≡ (node_at a k).parent) where
  not_start : k ≢ 0
  not_start e = omega (arith, later)

  pub look_good : p < n → (node_at a p).closed ≡ 1 → good_parent a n k ≡ true
  look_good l e = sym (laws.linked_in a n k not_start (omega (arith, is, l))) ∙ eq-eqb _ 1 (ap (λ (x : ℕ). (node_at a x).closed) (sym is) ∙ e)

  pub look_reaches : (done : List Bool) → MarksSound a done → get_or done p false ≡ true → Reaches a k
  look_reaches done s d = let e : p ≡ parent_back a k = is ∙ laws.step_on a n k not_start in reaches_on a k (rw e at (s p d))

pub looked_none : {a : List ℕ} {done : List Bool} {n : ℕ} → MarksSound a done → ParentsLooked a n done None
looked_none s = record { sound = s; linked = tt; ended = tt }

-- what is found is good, so the chains are
pub looked_good : (a : List ℕ) (n : ℕ) → n ≤ 4096 → each_below (good_parent a n) n ≡ true → ((k : ℕ) → k < n → Reaches a k) → true ≡ good_chains a n
unfolding ends_at_start
looked_good a n few linked h = laws.good_all a n few linked (laws.each_all (ends_at_start a n) n (λ k l. eq-eqb (parents_back a n k) 0 (laws.ends_within a n (laws.linked_closed a n linked) (h k l).0 k l (h k l).1)))

pub looked_sure : (a : List ℕ) (n : ℕ) (done : List Bool) (r : Option Bool) → n ≤ 4096 → ParentsLooked a n done r → unwrap_or r false ≡ true → true ≡ good_chains a n
looked_sure a n done (Some all) few p e = looked_good a n few p.linked (p.ended e)
looked_sure a n done None few p e = absurd (true_false e refl)
