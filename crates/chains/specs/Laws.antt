-- Chains of parents: one that ends passes no node twice, so it is no longer than there are nodes.
use Prim.Native.Nat.{ℕ, zero, suc, ◌+◌, ◌-◌, ◌≤◌, ◌<◌}
use Rattle.std.proofs.Common.{arith, ap, subst, ◌∙◌, ⊎_elim}
use Rattle.std.specs.Prelude.{◌≡◌, Bool, true, false, List, [], ◌∷◌, ◌≢◌, ltb, length}
use Rattle.std.proofs.Math.Path.{refl, sym}
use Rattle.std.proofs.Math.Dec.{eqb}
use borrow.Author.Tests.{eq-eqb, ne_eqb, eqb-true, ltb-true, lt-ltb, le-ltb, le-leb, lt-leb}
use Rattle.exploration.specs.Lists.{has}
use Rattle.exploration.proofs.Laws.Apart.{Apart, Covered, pigeon}
use Rattle.exploration.proofs.Laws.Lists.{and_both, and_first, and_second, or_cases, true_false, has_left, has_last}
use Rattle.fields.specs.Records.{firsts}
use Rattle.fields.proofs.RecordLaws.{length_firsts, last_or}
use Rattle.rooms.specs.Records.{node_at}
use Rattle.rooms.specs.Rooms.{nobody}
use Rattle.chains.specs.Chains.{each_below, good_parent, parent_back, parents_back, ends_at_start, good_chains}

-- ---- tests of each number

pub each_more : (p : ℕ → Bool) (n : ℕ) → each_below p n ≡ true → p n ≡ true → each_below p (n + 1) ≡ true
each_more p n e h = let z : n + 1 ≡ suc n = omega arith in rw z (and_both (each_below p n) (p n) e h)

pub each_all : (p : ℕ → Bool) (n : ℕ) → ((k : ℕ) → k < n → p k ≡ true) → each_below p n ≡ true
each_all p zero h = refl
each_all p (suc n) h = and_both (each_below p n) (p n) (each_all p n (λ k l. h k (omega arith))) (h n (omega arith))

pub each_at : (p : ℕ → Bool) (n k : ℕ) → k < n → each_below p n ≡ true → p k ≡ true
each_at p zero k h e = absurd (omega arith)
each_at p (suc n) k h e = ⊎_elim (λ l. each_at p n k l (and_first (each_below p n) (p n) e)) (λ i. rw i (and_second (each_below p n) (p n) e)) (last_or k n h)

pub each_not : (p : ℕ → Bool) (n k : ℕ) → k < n → p k ≡ false → each_below p n ≡ false
each_not p n k h f = go (each_below p n) refl
  where
    go : (b : Bool) → each_below p n ≡ b → each_below p n ≡ false
    go true e = absurd (true_false (each_at p n k h e) f)
    go false e = e

not_first : (k : ℕ) → suc k ≢ 0
not_first k e = omega arith

-- ---- steps

module _ (a : List ℕ) where
  pub back_zero : (m : ℕ) → parents_back a m 0 ≡ 0
  unfolding parent_back
  back_zero zero = refl
  back_zero (suc m) = back_zero m

  pub back_add : (m l k : ℕ) → parents_back a (m + l) k ≡ parents_back a l (parents_back a m k)
  back_add zero l k = let z : 0 + l ≡ l = omega arith in rw z
  back_add (suc m) l k = let z : suc m + l ≡ suc (m + l) = omega arith in rw z (back_add m l (parent_back a k))

  -- once at node 0, always
  pub back_later : (m l k : ℕ) → m ≤ l → parents_back a m k ≡ 0 → parents_back a l k ≡ 0
  back_later m l k h e = let z : l ≡ m + (l - m) = omega arith in rw z (back_add m (l - m) k ∙ ap (parents_back a (l - m)) e ∙ back_zero (l - m))

  -- one step more, at the end
  pub back_more : (m k : ℕ) → parents_back a (m + 1) k ≡ parent_back a (parents_back a m k)
  back_more m k = back_add m 1 k

  -- the nodes from k on, before node 0
  pub data Chain : ℕ → List ℕ → Type 0 where
    ended : Chain 0 []
    onward : {k : ℕ} {xs : List ℕ} → k ≢ 0 → Chain (parent_back a k) xs → Chain k (k ∷ xs)

  pub chain_of : (m k : ℕ) → parents_back a m k ≡ 0 → (xs : List ℕ) × Chain k xs
  chain_of zero k e = ([], subst (λ (i : ℕ). Chain i []) (sym e) ended)
  chain_of (suc m) k e = go k (chain_of m (parent_back a k) e)
    where
      go : (k : ℕ) → (xs : List ℕ) × Chain (parent_back a k) xs → (xs : List ℕ) × Chain k xs
      go zero r = ([], ended)
      go (suc k) r = (suc k ∷ r.0, onward (not_first k) r.1)

  chain_one : {k : ℕ} {xs ys : List ℕ} → Chain k xs → Chain k ys → length xs ≡ length ys
  chain_one ended ended = refl
  chain_one ended (onward n c) = absurd (n refl)
  chain_one (onward n c) ended = absurd (n refl)
  chain_one (onward n c) (onward m d) = ap suc (chain_one c d)

  -- a node of a chain has a chain of its own, which is no longer
  chain_in : {k : ℕ} {xs : List ℕ} (j : ℕ) → Chain k xs → has (λ x. eqb j x) xs ≡ true → (zs : List ℕ) × Chain j zs × (length zs ≤ length xs)
  chain_in j ended h = absurd (true_false h refl)
  chain_in j (onward {k} {xs} n c) h = ⊎_elim
      (λ e. let z : k ≡ j = sym (eqb-true j k e) in (k ∷ xs, subst (λ (i : ℕ). Chain i (k ∷ xs)) z (onward n c), omega arith))
      (λ e. let r = chain_in j c e in (r.0, r.1, omega (arith, r.2)))
      (or_cases (eqb j k) _ h)

  chain_apart : {k : ℕ} {xs : List ℕ} → Chain k xs → Apart eqb xs
  chain_apart ended = tt
  chain_apart (onward {k} {xs} n c) = (go (has (λ x. eqb k x) xs) refl, chain_apart c)
    where
      go : (b : Bool) → has (λ x. eqb k x) xs ≡ b → has (λ x. eqb k x) xs ≡ false
      go false e = e
      go true e = let r = chain_in k c e in absurd (omega (arith, r.2, chain_one r.1 (onward n c)))

  pub chain_back : {k : ℕ} {xs : List ℕ} → Chain k xs → parents_back a (length xs) k ≡ 0
  chain_back ended = refl
  chain_back (onward n c) = chain_back c

-- ---- chains of n nodes

-- no step leaves the n nodes
abbrev pub ParentsInside : List ℕ → ℕ → Type 0
ParentsInside a n = (k : ℕ) → k < n → parent_back a k < n

numbers : ℕ → List ℕ
numbers n = firsts n (λ k. k)

numbered : (n k : ℕ) → k < n → has (λ x. eqb x k) (numbers n) ≡ true
unfolding numbers
numbered zero k h = absurd (omega arith)
numbered (suc n) k h = ⊎_elim (λ l. has_left (λ x. eqb x k) (numbers n) (n ∷ []) (numbered n k l)) (λ e. has_last (λ x. eqb x k) (numbers n) n (eq-eqb n k (sym e))) (last_or k n h)

module _ (a : List ℕ) (n : ℕ) (inside : ParentsInside a n) where
  pub back_inside : (m k : ℕ) → k < n → parents_back a m k < n
  back_inside zero k h = h
  back_inside (suc m) k h = back_inside m (parent_back a k) (inside k h)

  chain_covered : {k : ℕ} {xs : List ℕ} → k < n → Chain a k xs → Covered eqb (numbers n) xs
  chain_covered h ended = tt
  chain_covered h (onward {k} m c) = (numbered n k h, chain_covered (inside k h) c)

  eqb_sym : (p q : ℕ) → eqb p q ≡ true → eqb q p ≡ true
  eqb_sym p q e = eq-eqb q p (sym (eqb-true p q e))

  eqb_trans : (p q r : ℕ) → eqb p q ≡ true → eqb q r ≡ true → eqb p r ≡ true
  eqb_trans p q r e f = eq-eqb p r (eqb-true p q e ∙ eqb-true q r f)

  pub chain_short : {k : ℕ} {xs : List ℕ} → k < n → Chain a k xs → length xs ≤ n
  unfolding numbers
  chain_short {xs = xs} h c = omega (arith, pigeon eqb eqb_sym eqb_trans xs (numbers n) (chain_apart a c) (chain_covered h c), length_firsts n (λ k. k))

  -- so n parents back are as good as any number of them
  pub ends_within : (m k : ℕ) → k < n → parents_back a m k ≡ 0 → parents_back a n k ≡ 0
  ends_within m k h e = let r = chain_of a m k e in back_later a (length r.0) n k (chain_short h r.1) (chain_back a r.1)

-- ---- one parent, as the code tests it

module _ (a : List ℕ) (n k : ℕ) where
  pub linked_first : k ≡ 0 → eqb (node_at a k).parent nobody ≡ good_parent a n k
  unfolding good_parent
  linked_first e = let z = eq-eqb k 0 e in rw z

  pub linked_out : k ≢ 0 → n ≤ (node_at a k).parent → false ≡ good_parent a n k
  unfolding good_parent
  linked_out e h = let z = ne_eqb k 0 e in let y = le-ltb (node_at a k).parent n h in rw (z, y)

  pub linked_in : k ≢ 0 → (node_at a k).parent < n → eqb (node_at a (node_at a k).parent).closed 1 ≡ good_parent a n k
  unfolding good_parent
  linked_in e h = let z = ne_eqb k 0 e in let y = lt-ltb (node_at a k).parent n h in rw (z, y)

  linked_below : k ≢ 0 → good_parent a n k ≡ true → (node_at a k).parent < n
  unfolding good_parent
  linked_below e h = let z = ne_eqb k 0 e in ltb-true (node_at a k).parent n (and_first (ltb (node_at a k).parent n) (eqb (node_at a (node_at a k).parent).closed 1) (rw z at h))

  pub step_first : k ≡ 0 → 0 ≡ parent_back a k
  unfolding parent_back
  step_first e = let z = eq-eqb k 0 e in rw z

  pub step_on : k ≢ 0 → (node_at a k).parent ≡ parent_back a k
  unfolding parent_back
  step_on e = let z = ne_eqb k 0 e in rw z

-- good parents lead to no other nodes
pub linked_closed : (a : List ℕ) (n : ℕ) → each_below (good_parent a n) n ≡ true → ParentsInside a n
linked_closed a n e zero h = omega (arith, step_first a n 0 refl)
linked_closed a n e (suc k) h = omega (arith, step_on a n (suc k) (λ z. omega arith), linked_below a n (suc k) (λ z. omega arith) (each_at (good_parent a n) n (suc k) h e))

-- ---- all of them

module _ (a : List ℕ) (n : ℕ) where
  pub good_many : 4096 < n → false ≡ good_chains a n
  unfolding good_chains
  good_many h = let z = lt-leb n 4096 h in rw z

  pub good_unlinked : n ≤ 4096 → each_below (good_parent a n) n ≡ false → false ≡ good_chains a n
  unfolding good_chains
  good_unlinked h e = let z = le-leb n 4096 h in rw (z, e)

  module _ (few : n ≤ 4096) (linked : each_below (good_parent a n) n ≡ true) where
    good_by : each_below (ends_at_start a n) n ≡ good_chains a n
    unfolding good_chains
    good_by = let z = le-leb n 4096 few in rw (z, linked)

    -- a chain that has not come to node 0
    pub good_not : (k : ℕ) → k < n → parents_back a n k ≢ 0 → false ≡ good_chains a n
    unfolding ends_at_start
    good_not k h e = sym (each_not (ends_at_start a n) n k h (ne_eqb (parents_back a n k) 0 e)) ∙ good_by

    -- each chain has
    pub good_all : each_below (ends_at_start a n) n ≡ true → true ≡ good_chains a n
    good_all e = sym e ∙ good_by

    -- one chain more that ends
    pub ends_more : (k m : ℕ) → k < n → parents_back a m k ≡ 0 → each_below (ends_at_start a n) k ≡ true → each_below (ends_at_start a n) (k + 1) ≡ true
    unfolding ends_at_start
    ends_more k m h e i = each_more (ends_at_start a n) k i (eq-eqb (parents_back a n k) 0 (ends_within a n (linked_closed a n linked) m k h e))
