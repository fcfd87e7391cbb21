-- The paths of the code through one step, one closing and the start, each in the definitions' words; and how they compose.
use Rattle.std.specs.Prelude.{◌≡◌, Option, Some, Bool, true, false, ◌&&◌, List, [], ◌∷◌, ◌++◌, ◌≢◌, ℕ, zero, suc, ◌+◌, ◌*◌, ◌/◌, ◌^◌, ◌≤◌, ◌<◌, eqb, length}
use Rattle.std.proofs.Math.Path.{refl, sym, ap}
use Rattle.std.proofs.Common.{subst, ◌∙◌, add-one, Fits, arith, eq-eqb, ne_eqb, lt-ltb, le-ltb, le-leb, ltb-true, leb-true, eqb-true}
use Rattle.std.proofs.Math.Option.{Option as Maybe, none, some}
use Rattle.std.proofs.Math.Logic.{⊎_elim}
use Rattle.std.proofs.Math.Dec.{ltb, leb}
use Rattle.std.proofs.Math.ListN.{set}
use Rattle.std.specs.Int.{w64}
use borrow.Author.Tests.{eqb-false}
use Rattle.exploration.specs.Graph.{Graph}
use Rattle.exploration.specs.Policy.{Node}
use Rattle.exploration.specs.Explore.{State, child, apply, effect, effect_at, seek, visit, begin}
use Rattle.exploration.proofs.Laws.Lists.{and_both, and_first, and_second, true_false}
use Rattle.fields.proofs.RecordLaws.{length_firsts}
use Rattle.rooms.specs.declared.Feet.{Feet}
use Rattle.rooms.specs.declared.Label.{Label}
use Rattle.rooms.specs.declared.NodeRecord.{NodeRecord}
use Rattle.rooms.specs.declared.Entry.{Entry}
use Rattle.rooms.specs.declared.Counts.{Counts}
use Rattle.rooms.specs.Records.{node_at, entry_at}
use Rattle.rooms.specs.Scans.{first_at, waits, idle}
use Rattle.rooms.specs.Rooms.{Note, nobody, parent_of, node_of, node_in, nodes_of, state_of}
use Rattle.rooms.specs.Writes.{WroteNode, WroteEntry}
use Rattle.rooms.proofs.Laws.Rooms.{BySamePoint, nodes_set, nodes_more, seek_none, seek_some}
use Rattle.rooms.proofs.Laws.Lists.{in_or_out}
use Rattle.visits.specs.declared.Aim.{Aim}
use Rattle.costs.specs.Costs.{cost_by, estimate_by, cheaper, pushed_as, lowered}
use Rattle.visits.specs.Best.{opened, relaxed, best}
pub use Rattle.visits.specs.Visits.{child_record}
use Rattle.visits.specs.Visits.{Ready, ready, Kept, Still, Rested, Rests, Untouched, Near, Seen, counts_by, says_closed, is_shut, found_at, shut_at, Visited, VisitedIf, Closed, start_record, counted, Started, Begun}

-- ---- the bytes that stay, and the counts

pub kept_none : (m : ℕ) (a f : List ℕ) → Kept m a f a f
kept_none m a f = record { nodes = λ j h. refl; front = λ j h. refl }

pub kept_wrote : {a f b g : List ℕ} {k : ℕ} {r : NodeRecord} {e : Entry} (m : ℕ) → k < m → WroteNode a k r b → WroteEntry f k e g → Kept m a f b g
kept_wrote m l p q = record { nodes = λ j h. p.past j (omega arith); front = λ j h. q.past j (omega arith) }

-- a record written over one with the same point, and one written behind the others
pub still_none : (n : ℕ) (a : List ℕ) → Still n a a
still_none n a = record { feet = λ j h. refl }

pub still_over : {a b : List ℕ} {k : ℕ} {r : NodeRecord} (n : ℕ) → r.feet ≡ (node_at a k).feet → WroteNode a k r b → Still n a b
still_over {a} {b} {k} {r} n e p = record { feet = λ j h. go j (eqb j k) refl }
  where
    go : (j : ℕ) (t : Bool) → eqb j k ≡ t → (node_at b j).feet ≡ (node_at a j).feet
    go j true i = let y = eqb-true j k i in rw y (ap (λ (x : NodeRecord). x.feet) p.here ∙ e)
    go j false i = ap (λ (x : NodeRecord). x.feet) (p.there j (eqb-false j k i))

pub still_behind : {a b : List ℕ} {k : ℕ} {r : NodeRecord} → WroteNode a k r b → Still k a b
still_behind p = record { feet = λ j h. ap (λ (x : NodeRecord). x.feet) (p.there j (λ e. omega arith)) }

pub still_trans : {a b d : List ℕ} {m n : ℕ} → m ≤ n → Still m a b → Still n b d → Still m a d
still_trans l p q = record { feet = λ j h. q.feet j (omega arith) ∙ p.feet j h }

-- what rests still does: where an open node's records are written, where new ones are, and where a node is closed
pub rests_none : (n : ℕ) (a f : List ℕ) → Rests n a f a f
rests_none n a f = record { rests = λ j h r. r }

rested_other : {a f b g : List ℕ} {k : ℕ} {r : NodeRecord} {e : Entry} → WroteNode a k r b → WroteEntry f k e g → (j : ℕ) → j ≢ k → Rested a f j → Rested b g j
rested_other p q j h x = record { closed = λ z. x.closed (sym (ap (λ (n : NodeRecord). n.closed) (p.there j h)) ∙ z); idle = ap waits (q.there j h) ∙ x.idle }

pub rests_over : {a f b g : List ℕ} {k : ℕ} {r : NodeRecord} {e : Entry} (n : ℕ) → (node_at a k).closed ≡ 0 → WroteNode a k r b → WroteEntry f k e g → Rests n a f b g
rests_over {a} n o p q = record { rests = λ j h x. rested_other p q j (λ i. x.closed (ap (λ (m : ℕ). (node_at a m).closed) i ∙ o)) x }

pub rests_behind : {a f b g : List ℕ} {k : ℕ} {r : NodeRecord} {e : Entry} → WroteNode a k r b → WroteEntry f k e g → Rests k a f b g
rests_behind p q = record { rests = λ j h x. rested_other p q j (λ i. omega arith) x }

pub rests_shut : {a f b g : List ℕ} {k : ℕ} {r : NodeRecord} {e : Entry} (n : ℕ) → r.closed ≢ 0 → waits e ≡ false → WroteNode a k r b → WroteEntry f k e g → Rests n a f b g
rests_shut {a} {f} {b} {g} {k} {r} {e} n o i p q = record { rests = λ j h x. go j x (eqb j k) refl }
  where
    go : (j : ℕ) → Rested a f j → (t : Bool) → eqb j k ≡ t → Rested b g j
    go j x true z = let y = eqb-true j k z in rw y (record { closed = λ w. o (sym (ap (λ (m : NodeRecord). m.closed) p.here) ∙ w); idle = ap waits q.here ∙ i })
    go j x false z = rested_other p q j (eqb-false j k z) x

pub rests_trans : {a f b g d h : List ℕ} {m n : ℕ} → m ≤ n → Rests m a f b g → Rests n b g d h → Rests m a f d h
rests_trans l p q = record { rests = λ j i x. q.rests j (omega arith) (p.rests j i x) }

pub kept_trans : {a f b g d h : List ℕ} {m n : ℕ} → m ≤ n → Kept m a f b g → Kept n b g d h → Kept n a f d h
kept_trans l p q = record { nodes = λ j i. q.nodes j i ∙ p.nodes j (omega arith); front = λ j i. q.front j i ∙ p.front j (omega arith) }

pub near_none : {budget d : ℕ} {c : Counts} → c.retained ≤ budget → Near budget d c c
near_none h = record { more = omega arith; few = h; pushes = omega arith; drops = omega arith; closes = omega arith }

pub near_trans : {budget d e : ℕ} {c r t : Counts} → Near budget d c r → Near budget e r t → Near budget (d + e) c t
near_trans x y = record { more = omega (arith, x.more, y.more); few = y.few; pushes = omega (arith, x.pushes, y.pushes); drops = omega (arith, x.drops, y.drops); closes = omega (arith, x.closes, y.closes) }

pub near_le : {budget d : ℕ} (e : ℕ) {c r : Counts} → d ≤ e → Near budget d c r → Near budget e c r
near_le e h x = record { more = x.more; few = x.few; pushes = omega (arith, x.pushes); drops = omega (arith, x.drops); closes = omega (arith, x.closes) }

-- ---- the test of readiness

module _ (a f : List ℕ) (budget k : ℕ) (c : Counts) where
  pub is_ready : Ready a f budget 1 c → k < c.retained → ready (length a) (length f) budget k c ≡ true
  unfolding ready
  is_ready r h =
      let p = le-leb budget (length a / 64) (omega (arith, r.node_room_lem)) in
      let q = le-leb budget (length f / 24) (omega (arith, r.front_room_lem)) in
      let s = le-leb budget nobody r.numbered in
      let t = le-leb c.retained budget r.few in
      let u = lt-ltb k c.retained h in
      let v = lt-ltb c.pushed (2 ^ 63) (omega (arith, r.pushes)) in
      let w = lt-ltb c.dropped (2 ^ 63) (omega (arith, r.drops)) in
      let x = lt-ltb c.closed (2 ^ 63) (omega (arith, r.closes)) in
      and_both _ _ (and_both _ _ (and_both _ _ (and_both _ _ p q) s) (and_both _ _ t u)) (and_both _ _ (and_both _ _ v w) x)

  pub ready_is : ready (length a) (length f) budget k c ≡ true → Ready a f budget 1 c × (k < c.retained)
  unfolding ready
  ready_is e =
      let front = and_first (((leb budget (length a / 64) && leb budget (length f / 24)) && leb budget nobody) && (leb c.retained budget && ltb k c.retained)) ((ltb c.pushed (2 ^ 63) && ltb c.dropped (2 ^ 63)) && ltb c.closed (2 ^ 63)) e in
      let roomy = and_first ((leb budget (length a / 64) && leb budget (length f / 24)) && leb budget nobody) (leb c.retained budget && ltb k c.retained) front in
      let there = and_second ((leb budget (length a / 64) && leb budget (length f / 24)) && leb budget nobody) (leb c.retained budget && ltb k c.retained) front in
      let grows = and_second (((leb budget (length a / 64) && leb budget (length f / 24)) && leb budget nobody) && (leb c.retained budget && ltb k c.retained)) ((ltb c.pushed (2 ^ 63) && ltb c.dropped (2 ^ 63)) && ltb c.closed (2 ^ 63)) e in
      let rooms = and_first (leb budget (length a / 64) && leb budget (length f / 24)) (leb budget nobody) roomy in
      let two = and_first (ltb c.pushed (2 ^ 63) && ltb c.dropped (2 ^ 63)) (ltb c.closed (2 ^ 63)) grows in
      let p = leb-true budget (length a / 64) (and_first (leb budget (length a / 64)) (leb budget (length f / 24)) rooms) in
      let q = leb-true budget (length f / 24) (and_second (leb budget (length a / 64)) (leb budget (length f / 24)) rooms) in
      let s = leb-true budget nobody (and_second (leb budget (length a / 64) && leb budget (length f / 24)) (leb budget nobody) roomy) in
      let t = leb-true c.retained budget (and_first (leb c.retained budget) (ltb k c.retained) there) in
      let u = ltb-true k c.retained (and_second (leb c.retained budget) (ltb k c.retained) there) in
      let v = ltb-true c.pushed (2 ^ 63) (and_first (ltb c.pushed (2 ^ 63)) (ltb c.dropped (2 ^ 63)) two) in
      let w = ltb-true c.dropped (2 ^ 63) (and_second (ltb c.pushed (2 ^ 63)) (ltb c.dropped (2 ^ 63)) two) in
      let x = ltb-true c.closed (2 ^ 63) (and_second (ltb c.pushed (2 ^ 63) && ltb c.dropped (2 ^ 63)) (ltb c.closed (2 ^ 63)) grows) in
      (record { node_room_lem = omega arith; front_room_lem = omega arith; numbered = s; few = t; pushes = omega arith; drops = omega arith; closes = omega arith }, u)

-- ---- what readiness gives: a node's records are inside the rooms, its number is not none's, and the counts can grow

module _ {a f : List ℕ} {budget d : ℕ} {c : Counts} (r : Ready a f budget d c) where
  pub node_inside : (j : ℕ) → j < budget → 64 * j + 64 ≤ length a
  node_inside j l = omega (arith, r.node_room_lem)

  pub entry_inside : (j : ℕ) → j < budget → 24 * j + 24 ≤ length f
  entry_inside j l = omega (arith, r.front_room_lem)

  pub numbered : (k : ℕ) → k < c.retained → k < nobody
  numbered k l = omega (arith, r.numbered, r.few)

module _ {a f : List ℕ} {budget : ℕ} {c : Counts} (r : Ready a f budget 1 c) where
  pub retains_fit : Fits w64 (c.retained + 1)
  retains_fit = omega (arith, r.numbered, r.few)

  pub pushes_fit : Fits w64 (c.pushed + 1)
  pushes_fit = omega (arith, r.pushes)

  pub drops_fit : Fits w64 (c.dropped + 1)
  drops_fit = omega (arith, r.drops)

  pub closes_fit : Fits w64 (c.closed + 1)
  closes_fit = omega (arith, r.closes)

-- ---- a step

child_node : (k : ℕ) (p : Feet) (l : Label) (cost : ℕ) (e : Entry) → k < nobody → node_of (child_record k p l cost) e ≡ child k p l (opened cost e)
unfolding node_of parent_of
child_node k p l cost e h = let z = ne_eqb k nobody (λ i. omega arith) in rw z

module _ (aim : Aim) (k : ℕ) (c : Counts) (a f : List ℕ) (few : c.retained ≤ aim.budget) where
  module _ (j cost : ℕ) (to : Feet) (label : Label) where
    pub seen_shut : (node_at a j).closed ≢ 0 → Seen aim k c j cost to label c a f a f
    unfolding node_of
    seen_shut h = record { state = (let e = ne_eqb (node_at a j).closed 0 h in rw e); kept = kept_none _ a f; still = still_none _ a; rest = rests_none _ a f; near = near_none few }

    pub seen_dear : (node_at a j).closed ≡ 0 → cheaper cost (node_at a j).cost ≡ false → Seen aim k c j cost to label c a f a f
    unfolding node_of relaxed
    seen_dear h l = record { state = (let e = eq-eqb (node_at a j).closed 0 h in rw (e, l)); kept = kept_none _ a f; still = still_none _ a; rest = rests_none _ a f; near = near_none few }

    abbrev pub pushed : Counts
    pushed = record { retained = c.retained; closed = c.closed; pushed = c.pushed + 1; dropped = c.dropped }

    pub seen_lower : {b g : List ℕ} → k < nobody → j < c.retained → (node_at a j).closed ≡ 0 → cheaper cost (node_at a j).cost ≡ true →
        WroteNode a j (child_record k (node_at a j).feet label cost) b → WroteEntry f j (lowered (estimate_by aim.goal cost to) (entry_at f j) c.pushed) g → Seen aim k c j cost to label pushed a f b g
    unfolding node_of relaxed state_of
    seen_lower {b} {g} hk hj h l p w = record {
      state = (let e = eq-eqb (node_at a j).closed 0 h in rw (e, l) (λ i. record { nodes = ns i; book = c.pushed + 1; closings = c.closed; dropped = c.dropped; found = none }));
      kept = kept_wrote c.retained hj p w;
      still = still_over c.retained refl p;
      rest = rests_over c.retained h p w;
      near = record { more = omega arith; few = few; pushes = omega arith; drops = omega arith; closes = omega arith };
    }
      where
        ns : nodes_of c.retained b g ≡ set (nodes_of c.retained a f) j (child k (node_at a j).feet label (opened cost (lowered (estimate_by aim.goal cost to) (entry_at f j) c.pushed)))
        ns = nodes_set p w c.retained hj ∙ ap (set (nodes_of c.retained a f) j) (child_node k (node_at a j).feet label cost _ hk)

  module _ (from : NodeRecord) (to : Feet) (label : Label) where
    abbrev seeing : Graph Feet Label → Node Feet Label Note → Maybe (ℕ × Node Feet Label Note) → State Feet Label Note ℕ
    seeing 𝓖 n o = apply aim.budget (state_of a f c) (effect_at 𝓖 (best aim.goal) k n c.pushed (to, label) o)

    abbrev found : ℕ → Maybe (ℕ × Node Feet Label Note)
    found j = found_at a f c.retained j

    sought_none : (j : ℕ) → c.retained ≤ j → found j ≡ none
    unfolding found_at
    sought_none j l = let z = le-ltb j c.retained l in rw z

    sought_some : (j : ℕ) → j < c.retained → found j ≡ some (j, node_in a f j)
    unfolding found_at
    sought_some j l = let z = lt-ltb j c.retained l in rw z

    -- where the lookup found the first node at the point, that is the theory's visit, over every graph whose points compare as 01 says
    pub visit_sought : (𝓖 : Graph Feet Label) → BySamePoint 𝓖 → (n : Node Feet Label Note) (j : ℕ) → j ≡ first_at a c.retained to → visit 𝓖 (best aim.goal) aim.budget k n (state_of a f c) (to, label) ≡ seeing 𝓖 n (found j)
    unfolding effect state_of
    visit_sought 𝓖 same n j e = ⊎_elim
        (λ l. ap (seeing 𝓖 n) (subst (λ (i : ℕ). seek 𝓖 (nodes_of c.retained a f) to ≡ some (i, node_in a f i)) (sym e) (seek_some 𝓖 same a f c.retained to (rw e at l)) ∙ sym (sought_some j l)))
        (λ l. ap (seeing 𝓖 n) (seek_none 𝓖 same a f c.retained to (rw e at l) ∙ sym (sought_none j l)))
        (in_or_out j c.retained)

    pub visited_known : {r : Counts} {b g : List ℕ} (j cost : ℕ) → cost ≡ cost_by from.cost from.feet to → j < c.retained → Seen aim k c j cost to label r a f b g → Visited aim k from c j to label r a f b g
    unfolding best
    visited_known j cost e l s = record {
      state = λ 𝓖 n p q. (let z : cost_by n.note.cost n.point to ≡ cost = rw (p, q) (sym e) in sym (ap (seeing 𝓖 n) (sought_some j l) ∙ rw z (sym s.state)));
      kept = s.kept;
      still = s.still;
      rest = s.rest;
      near = s.near;
    }

    abbrev pub dropped : Counts
    dropped = record { retained = c.retained; closed = c.closed; pushed = c.pushed; dropped = c.dropped + 1 }

    pub visited_drop : (j : ℕ) → c.retained ≤ j → aim.budget ≤ c.retained → Visited aim k from c j to label dropped a f a f
    unfolding state_of
    visited_drop j l m = record {
      state = λ 𝓖 n p q. sym (ap (seeing 𝓖 n) (sought_none j l) ∙ (let z = le-ltb (length (nodes_of c.retained a f)) aim.budget (rw length_firsts m) in rw (z, ← add-one)));
      kept = kept_none _ a f;
      still = still_none _ a;
      rest = rests_none _ a f;
      near = record { more = omega arith; few = few; pushes = omega arith; drops = omega arith; closes = omega arith };
    }

    abbrev pub grown : Counts
    grown = record { retained = c.retained + 1; closed = c.closed; pushed = c.pushed + 1; dropped = c.dropped }

    pub visited_new : {b g : List ℕ} (j cost : ℕ) → cost ≡ cost_by from.cost from.feet to → c.retained ≤ j → c.retained < aim.budget → k < nobody →
        WroteNode a c.retained (child_record k to label cost) b → WroteEntry f c.retained (pushed_as (estimate_by aim.goal cost to) c.pushed) g → Visited aim k from c j to label grown a f b g
    unfolding state_of best
    visited_new {b} {g} j cost e l m hk p w = record {
      state = λ 𝓖 n x y. (let z : cost_by n.note.cost n.point to ≡ cost = rw (x, y) (sym e) in let t = lt-ltb (length (nodes_of c.retained a f)) aim.budget (rw length_firsts m) in sym (ap (seeing 𝓖 n) (sought_none j l) ∙ rw (t, z) (λ i. record { nodes = sym ns i; book = c.pushed + 1; closings = c.closed; dropped = c.dropped; found = none })));
      kept = kept_wrote (c.retained + 1) (omega arith) p w;
      still = still_behind p;
      rest = rests_behind p w;
      near = record { more = omega arith; few = omega arith; pushes = omega arith; drops = omega arith; closes = omega arith };
    }
      where
        ns : nodes_of (c.retained + 1) b g ≡ nodes_of c.retained a f ++ (child k to label (opened cost (pushed_as (estimate_by aim.goal cost to) c.pushed)) ∷ [])
        ns = ap (λ (i : ℕ). nodes_of i b g) (add-one c.retained) ∙ nodes_more p w ∙ ap (λ (x : Node Feet Label Note). nodes_of c.retained a f ++ (x ∷ [])) (child_node k to label cost _ hk)

-- ---- what a visit answers

pub is_shut_lem : (r : NodeRecord) → r.closed ≢ 0 → true ≡ is_shut r
is_shut_lem r h = let e = ne_eqb r.closed 0 h in rw e refl

pub is_open : (r : NodeRecord) → r.closed ≡ 0 → false ≡ is_shut r
is_open r h = let e = eq-eqb r.closed 0 h in rw e refl

module _ (a : List ℕ) (n j : ℕ) where
  pub shut_known : j < n → shut_at a n j ≡ is_shut (node_at a j)
  unfolding shut_at
  shut_known l = let z = lt-ltb j n l in rw z

  shut_there : shut_at a n j ≡ true → (j < n) × ((node_at a j).closed ≢ 0)
  unfolding shut_at
  shut_there e = (ltb-true j n (and_first (ltb j n) (is_shut (node_at a j)) e), λ z. true_false (and_second (ltb j n) (is_shut (node_at a j)) e) (sym (is_open (node_at a j) z)))

  pub shut_none : n ≤ j → shut_at a n j ≡ false
  unfolding shut_at
  shut_none l = let z = le-ltb j n l in rw z

module _ {aim : Aim} {k : ℕ} {from : NodeRecord} {c : Counts} {j : ℕ} {to : Feet} {label : Label} {a f : List ℕ} where
  pub visited_if : {v : Option Counts} {b g : List ℕ} → ready (length a) (length f) aim.budget k c ≡ true → says_closed v ≡ shut_at a c.retained j → Visited aim k from c j to label (counts_by c v) a f b g → VisitedIf aim k from c j to label v a f b g
  visited_if p e x = record { done = λ h. x; left = λ h. absurd (true_false p h); closed = rw p e }

  pub visited_not : ready (length a) (length f) aim.budget k c ≡ false → VisitedIf aim k from c j to label (Some c) a f a f
  visited_not e = record { done = λ h. absurd (true_false h e); left = λ h. record { counts = refl; nodes = refl; front = refl }; closed = rw e refl }

  -- a step to a closed node changes nothing
  pub visited_shut : c.retained ≤ aim.budget → shut_at a c.retained j ≡ true → Visited aim k from c j to label c a f a f
  visited_shut few e =
      let shut = shut_there a c.retained j e in
      let cost = cost_by from.cost from.feet to in
      visited_known aim k c a f few from to label j cost refl shut.0 (seen_shut aim k c a f few j cost to label shut.1)

-- ---- a closing

abbrev pub shut_record : NodeRecord → NodeRecord
shut_record r = record { feet = r.feet; label = r.label; cost = r.cost; parent = r.parent; closed = 1 }

abbrev pub shut_counts : Counts → Counts
shut_counts c = record { retained = c.retained; closed = c.closed + 1; pushed = c.pushed; dropped = c.dropped }

pub closes : (aim : Aim) (k : ℕ) (c : Counts) (a f : List ℕ) {b g : List ℕ} → k < c.retained → c.retained ≤ aim.budget → WroteNode a k (shut_record (node_at a k)) b → WroteEntry f k idle g → Closed aim k c (shut_counts c) a f b g
unfolding state_of node_of best
closes aim k c a f h few p w = record {
  state = λ 𝓖. (let e = nodes_set p w c.retained h in let o = add-one c.closed in λ i. record { nodes = e i; book = c.pushed; closings = o i; dropped = c.dropped; found = none });
  kept = kept_wrote c.retained h p w;
  still = still_over c.retained refl p;
  rest = rests_shut c.retained (λ z. omega arith) refl p w;
  near = record { more = omega arith; few = few; pushes = omega arith; drops = omega arith; closes = omega arith };
}

-- ---- the start

pub begun : (budget : ℕ) (start : Feet) {r : Counts} (a f : List ℕ) {b g : List ℕ} → 64 * budget ≤ length a → 24 * budget ≤ length f → Started budget start r a f b g → Begun budget start r a f b g
unfolding begin state_of best node_of parent_of
begun zero start {r} a f {b} {g} x y s = go (s.none refl)
  where
    go : Untouched (counted 0 1) r a f b g → Begun 0 start r a f b g
    go u = rw (u.counts, u.nodes, u.front) (record { state = λ 𝓖 p q goal. refl; kept = kept_none 0 a f; near = record { more = omega arith; few = omega arith; pushes = omega arith; drops = omega arith; closes = omega arith } })
begun (suc m) start {r} a f {b} {g} x y s = let t = s.some (λ e. omega arith) in go t.0 (t.1.wrote (omega arith)) (t.2.wrote (omega arith))
  where
    go : r ≡ counted 1 0 → WroteNode a 0 (start_record start) b → WroteEntry f 0 (pushed_as 0 0) g → Begun (suc m) start r a f b g
    go e p w = rw e (record {
      state = λ 𝓖 i j goal. (let t = lt-ltb 0 (suc m) (omega arith) in rw (i, j, t) (let n = nodes_more p w in λ i. record { nodes = n i; book = 1; closings = 0; dropped = 0; found = none }));
      kept = kept_wrote 1 (omega arith) p w;
      near = record { more = omega arith; few = omega arith; pushes = omega arith; drops = omega arith; closes = omega arith };
    })
