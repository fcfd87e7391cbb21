-- No call of an untouched search draws 12 BadProgress (02, No. 10): rooms and counts that hold a state that is still searching pass each of 12's clauses.
use Rattle.std.specs.Prelude.{ℕ, suc, ◌+◌, ◌-◌, ◌*◌, ◌/◌, ◌≤◌, ◌<◌, ◌≡◌, Bool, cond, ◌⊎◌, ◌≢◌, ltb, length, drop, replicate}
use native.Mathlib.Omega.{arith}
use Rattle.std.proofs.Math.Path.{sym, ap}
use Rattle.std.proofs.Common.{subst, ◌∙◌, inl, inr}
use Rattle.std.proofs.Math.Bool.{true, false}
use Rattle.std.proofs.Math.Option.{none, some}
use mathlib.Core.List.{List}
use Rattle.std.proofs.Math.Logic.{⊎_elim}
use Rattle.std.proofs.Math.Dec.{eqb, leb}
use Rattle.std.specs.Float.Ieee.Scale.{finite}
use borrow.Author.Tests.{eqb-true, eqb-false, eq-eqb, le-leb, lt-ltb, ltb-true, ltb-false}
use Rattle.exploration.specs.Lists.{nth}
use Rattle.exploration.specs.Graph.{Graph}
use Rattle.exploration.specs.Policy.{Node, Policy}
use Rattle.exploration.specs.Explore.{Searching, outcome}
use Rattle.exploration.proofs.Laws.Invariant.{Link, first_link, next_link, Trail, first_trail, next_trail}
use Rattle.exploration.proofs.Laws.Lists.{true_or_false, true_false, none_some, nth_lt, nth_one}
use Rattle.fields.specs.Little.{field}
use Rattle.fields.proofs.Laws.{field_zeros}
use Rattle.fields.proofs.Pieces.{field_drop}
use Rattle.fields.proofs.RecordLaws.{length_firsts}
use Rattle.world.specs.declared.Window.{Window}
use Rattle.world.specs.declared.Body.{Body}
use Rattle.world.specs.declared.Request.{Request}
use Rattle.world.specs.Space.{space}
use Rattle.tables.specs.BadWorld.{bad_world}
use Rattle.request.specs.Request.{valid_request, too_large}
use Rattle.rooms.specs.declared.Feet.{Feet}
use Rattle.rooms.specs.declared.Label.{Label}
use Rattle.rooms.specs.declared.Counts.{Counts}
use Rattle.rooms.specs.Records.{node_at, entry_at}
use Rattle.rooms.specs.Scans.{waits, estimate_of}
use Rattle.rooms.specs.Rooms.{Note, nobody, parent_of, parent_word, node_of, node_in, state_of}
use Rattle.rooms.proofs.Laws.Rooms.{nth_firsts, parent_word_lem}
use Rattle.words.specs.Words.{feet_of}
use Rattle.steps.specs.Graph.{graph}
use Rattle.visits.specs.Best.{best}
use Rattle.chains.specs.Chains.{each_below, good_parent, parents_back, ends_at_start, good_chains}
use Rattle.chains.specs.Laws.{each_all, back_zero, step_on, linked_first, linked_in, linked_closed, ends_within, good_all}
use Rattle.progress.specs.Progress.{good_counts, good_point, good_cost, good_movement, good_node, some_waits, good_wait, good_progress}
use Rattle.progress.specs.Laws.{waits_at_lem, progress_by}
use Rattle.claims.specs.Words.{InF64, after}
use Rattle.claims.specs.Laws.Bounds.{up_to_finite}
use Rattle.tick_claims.specs.UnderWay.{UnderWay, limits, under_way}

-- ---- the words of a record

parent_is : (p j : ℕ) → parent_of p ≡ some j → p ≡ j
parent_is p j e = sym (parent_word_lem p) ∙ ap parent_word e

no_parent : (p : ℕ) → parent_of p ≡ none → p ≡ nobody
no_parent p e = sym (parent_word_lem p) ∙ ap parent_word e

module _ (r : Request) (𝓖 : Graph Feet Label) (𝓟 : Policy Feet Label Note ℕ) (a f : List ℕ) (c : Counts) (g : UnderWay r 𝓖 𝓟 (state_of a f c)) where
  abbrev n : ℕ
  n = c.retained

  abbrev ns : List (Node Feet Label Note)
  ns = (state_of a f c).nodes

  many : length ns ≡ n
  unfolding state_of
  many = length_firsts n (node_in a f)

  there : (k : ℕ) → k < n → nth ns k ≡ some (node_in a f k)
  unfolding state_of
  there k h = nth_firsts n (node_in a f) k h

  retained_at : (k : ℕ) (x : Node Feet Label Note) → nth ns k ≡ some x → k < n
  retained_at k x e = omega (arith, nth_lt ns k x e, many)

  record_at_lem : (k : ℕ) (x : Node Feet Label Note) → nth ns k ≡ some x → x ≡ node_in a f k
  record_at_lem k x e = nth_one ns k x (node_in a f k) e (there k (retained_at k x e))

  -- ---- a node

  mark_at : (k : ℕ) → k < n → (node_at a k).closed ≡ cond (node_in a f k).closed 1 0
  unfolding node_of
  mark_at k h = g.marked k (node_in a f k) (there k h)

  mark_few : (k : ℕ) → k < n → (node_at a k).closed ≤ 1
  mark_few k h = go (node_in a f k).closed (mark_at k h)
    where
      go : (b : Bool) → (node_at a k).closed ≡ cond b 1 0 → (node_at a k).closed ≤ 1
      go true e = omega arith
      go false e = omega arith

  node_good : (k : ℕ) → k < n → good_node r a f k ≡ true
  unfolding good_node node_of
  node_good k h =
      let t = g.fit k (node_in a f k) (there k h) in
      let point : good_point r a k ≡ true = t.point in
      let cost : good_cost a k ≡ true = up_to_finite t.cost in
      let movement : good_movement a k ≡ true = le-leb _ _ t.movement in
      let closed : leb (node_at a k).closed 1 ≡ true = le-leb _ _ (mark_few k h) in
      let waiting : leb (entry_at f k).waiting 1 ≡ true = le-leb _ _ t.waiting in
      rw (point, cost, movement, closed, waiting)

  -- ---- its parent, and its chain

  shut_at : (j : ℕ) (x : Node Feet Label Note) → nth ns j ≡ some x → x.closed ≡ true → (node_at a j).closed ≡ 1
  shut_at j x e h = let z : (node_in a f j).closed ≡ true = ap (λ y. y.closed) (sym (record_at_lem j x e)) ∙ h in mark_at j (retained_at j x e) ∙ rw z

  alone_at : (k : ℕ) → k < n → (k ≡ 0 → parent_of (node_at a k).parent ≡ none) × (k ≢ 0 → parent_of (node_at a k).parent ≢ none)
  unfolding node_of
  alone_at k h = g.alone k (node_in a f k) (there k h)

  -- the parent of any node but the first
  record HasParent (k : ℕ) : Type 0 where
    place : ℕ
    node : Node Feet Label Note
    is : (node_at a k).parent ≡ place
    held : nth ns place ≡ some node
    shut : node.closed ≡ true

  before : (k : ℕ) → k < n → k ≢ 0 → HasParent k
  unfolding node_of
  before k h z = go (g.invariant.links k (node_in a f k) (there k h))
    where
      go : Link 𝓖 𝓟 ns (node_in a f k) → HasParent k
      go (first_link p q l) = absurd ((alone_at k h).1 z p)
      go (next_link j x p e q d) = record { place = j; node = x; is = parent_is (node_at a k).parent j p; held = e; shut = q }

  parent_good : (k : ℕ) → k < n → good_parent a n k ≡ true
  parent_good k h = ⊎_elim first other (true_or_false (eqb k 0))
    where
      first : eqb k 0 ≡ true → good_parent a n k ≡ true
      first e = let z = eqb-true k 0 e in sym (linked_first a n k z) ∙ eq-eqb (node_at a k).parent nobody (no_parent (node_at a k).parent ((alone_at k h).0 z))

      other : eqb k 0 ≡ false → good_parent a n k ≡ true
      other e =
          let z = eqb-false k 0 e in
          let b = before k h z in
          let i = b.is in
          sym (linked_in a n k z (rw i (retained_at b.place b.node b.held))) ∙ rw i (eq-eqb (node_at a b.place).closed 1 (shut_at b.place b.node b.held b.shut))

  back_once : (k : ℕ) → k < n → k ≢ 0 → (j : ℕ) → (node_at a k).parent ≡ j → (l : ℕ) → parents_back a l j ≡ 0 → parents_back a (suc l) k ≡ 0
  back_once k h z j i l e = ap (parents_back a l) (sym (step_on a n k z) ∙ i) ∙ e

  back_trail : {k : ℕ} {x : Node Feet Label Note} {ws : List (Feet × Label)} → Trail 𝓖 𝓟 ns k x ws → parents_back a (length ws) k ≡ 0
  back_trail {k} (first_trail {n = x} e q p s l) = ⊎_elim (λ i. rw (eqb-true k 0 i) (back_zero a 1)) (λ i. absurd ((g.alone k x e).1 (eqb-false k 0 i) p)) (true_or_false (eqb k 0))
  back_trail {k} (next_trail {j = j} {n = x} {c = ws} e q p s t) =
      let i : parent_of (node_at a k).parent ≡ some j = unfold node_of in ap (λ y. y.parent) (sym (record_at_lem k x e)) ∙ p in
      back_once k (retained_at k x e) (λ z. none_some (sym ((g.alone k x e).0 z) ∙ p)) j (parent_is (node_at a k).parent j i) (length ws) (back_trail t)

  chain_good : each_below (good_parent a n) n ≡ true → (k : ℕ) → k < n → ends_at_start a n k ≡ true
  unfolding ends_at_start
  chain_good linked k h = eq-eqb (parents_back a n k) 0 (⊎_elim (λ e. rw (eqb-true k 0 e) (back_zero a n)) other (true_or_false (eqb k 0)))
    where
      other : eqb k 0 ≡ false → parents_back a n k ≡ 0
      other e =
          let z = eqb-false k 0 e in
          let b = before k h z in
          let t = g.invariant.trails b.place b.node b.held b.shut in
          ends_within a n (linked_closed a n linked) (suc (length t.0)) k h (back_once k h z b.place b.is (length t.0) (back_trail t.1))

  chains_good : n ≤ 4096 → good_chains a n ≡ true
  chains_good few = let linked = each_all (good_parent a n) n parent_good in sym (good_all a n few linked (each_all (ends_at_start a n) n (chain_good linked)))

  -- ---- who waits

  some_good : some_waits f n ≡ true
  some_good =
      let k = g.next in
      let e : waits (entry_at f k) ≡ true = unfold node_of in ap (λ y. waits y.note.entry) (sym (record_at_lem k g.next_node g.next_there)) ∙ g.next_waits in
      sym (waits_at_lem f n k (retained_at k g.next_node g.next_there) (eqb-true (entry_at f k).waiting 1 e))

  open_at : (k : ℕ) → k < n → waits (entry_at f k) ≡ true → (node_at a k).closed ≡ 0
  open_at k h e = let z : (node_in a f k).closed ≡ false = g.opens k (node_in a f k) (there k h) (unfold node_of in e) in mark_at k h ∙ rw z

  wait_good : ((k : ℕ) → n ≤ k → waits (entry_at f k) ≡ false) → (k : ℕ) → good_wait a f n k ≡ true
  unfolding good_wait
  wait_good blank k = ⊎_elim (λ e. waiting e (true_or_false (ltb k n))) (λ e. rw e) (true_or_false (waits (entry_at f k)))
    where
      waiting : waits (entry_at f k) ≡ true → (ltb k n ≡ true) ⊎ (ltb k n ≡ false) → good_wait a f n k ≡ true
      waiting e (inl l) =
          let h = ltb-true k n l in
          let unshut = eq-eqb (node_at a k).closed 0 (open_at k h e) in
          let finite_estimate : finite (estimate_of (entry_at f k)) ≡ true = unfold node_of in up_to_finite (g.fit k (node_in a f k) (there k h)).estimate in
          rw (e, l, unshut, finite_estimate)
      waiting e (inr l) = absurd (true_false e (blank k (ltb-false k n l)))

  -- ---- all of it

  counts_good : (x : ℕ) → 1 ≤ x → x ≤ 4096 → good_counts r.node_budget c x ≡ true
  unfolding good_counts state_of
  counts_good x one most =
      let least = le-leb 1 x one in
      let asked = le-leb x 4096 most in
      let some = le-leb 1 n (omega (arith, retained_at g.next g.next_node g.next_there)) in
      let few = le-leb n r.node_budget (omega (arith, g.retained, many)) in
      let closes = le-leb c.closed n (omega (arith, g.closed, many)) in
      let pushes = lt-ltb c.pushed 4294967296 g.pushed in
      let drops = lt-ltb c.dropped 4294967296 g.dropped in
      rw (least, asked, some, few, closes, pushes, drops)

  progress_good : (x : ℕ) → 1 ≤ x → x ≤ 4096 → r.node_budget ≤ 4096 → ((k : ℕ) → n ≤ k → waits (entry_at f k) ≡ false) → good_progress r a f c x ≡ true
  progress_good x one most few blank =
      let nodes = each_all (good_node r a f) n node_good in
      let chains = chains_good (omega (arith, g.retained, many)) in
      let waiting = each_all (good_wait a f n) (length f / 24) (λ k h. wait_good blank k) in
      sym (progress_by r a f c x (counts_good x one most)) ∙ rw (nodes, chains, some_good, waiting)

-- past the records that hold nodes the frontier room is zero
module _ (f : List ℕ) (n : ℕ) (zero_past : drop (24 * n) f ≡ drop (24 * n) (replicate (length f) 0)) where
  idle_past : (k : ℕ) → n ≤ k → waits (entry_at f k) ≡ false
  unfolding entry_at
  idle_past k h =
      let z : 24 * k + 16 ≡ 24 * n + (24 * k + 16 - 24 * n) = omega arith in
      let none : field 8 f (24 * k + 16) ≡ 0 =
      ap (field 8 f) z ∙ sym (field_drop 8 (24 * n) f (24 * k + 16 - 24 * n)) ∙ ap (λ (t : List ℕ). field 8 t (24 * k + 16 - 24 * n)) zero_past
      ∙ field_drop 8 (24 * n) (replicate (length f) 0) (24 * k + 16 - 24 * n) ∙ field_zeros 8 (length f) (24 * n + (24 * k + 16 - 24 * n)) in
      rw none

-- ---- the claim

-- The search of a valid request that is not too large, in a world that is not bad, after m expansions and still searching: rooms that hold it pass 12's clauses, whatever number of
-- expansions from 1 to 4,096 is asked for next. Past the nodes' records the frontier room is zero, as begin leaves it and no expansion changes it.
pub untouched_accepted : (w : Window) (cells perms shapes boxes : List ℕ) (r : Request) (body : Body) → InF64 r → valid_request r body ≡ true → too_large r body ≡ false →
    bad_world w cells shapes boxes ≡ false →
    let sp = space w cells perms shapes boxes in
    (m : ℕ) → outcome (graph sp r body) (best (feet_of r.goal)) (after sp r body m) ≡ Searching →
    (nodes front : List ℕ) (c : Counts) → state_of nodes front c ≡ after sp r body m → drop (24 * c.retained) front ≡ drop (24 * c.retained) (replicate (length front) 0) →
    (n : ℕ) → 1 ≤ n → n ≤ 4096 → good_progress r nodes front c n ≡ true
untouched_accepted w cells perms shapes boxes r body f valid small good m e nodes front c held zero_past x one most =
    let sp = space w cells perms shapes boxes in
    let 𝓖 = graph sp r body in
    let 𝓟 = best (feet_of r.goal) in
    let g = under_way w cells perms shapes boxes r body f valid small good m e in
    progress_good r 𝓖 𝓟 nodes front c (subst (UnderWay r 𝓖 𝓟) (sym held) g) x one most (limits r body small).1 (idle_past front c.retained zero_past)
