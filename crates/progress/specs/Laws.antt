-- What a continued search may rely on.
use Rattle.std.specs.Prelude.{ℕ, zero, suc, ◌+◌, ◌-◌, ◌*◌, ◌/◌, ◌≤◌, ◌<◌, ◌≡◌, refl, Bool, true, false, not, ◌&&◌, cond, List, ◌≢◌, eqb, leb, ltb, length, Option, Some, None, MatchOption, unwrap_or}
use Rattle.std.proofs.Common.{arith, sym, ap, subst, ◌∙◌, ⊎_elim, eq-eqb, ne_eqb, leb-true, ltb-true, ltb-false}
use Rattle.exploration.proofs.Laws.Lists.{and_first, and_second}
use Rattle.std.specs.Float.{binary64}
use Rattle.std.specs.Float.Ieee.{of_bits}
use Rattle.std.specs.Float.Ieee.Scale.{finite}
use Rattle.world.specs.declared.Request.{Request}
use Rattle.places.specs.Places.{in_range}
use Rattle.rooms.specs.declared.Feet.{Feet}
use Rattle.rooms.specs.declared.Counts.{Counts}
use Rattle.fields.specs.Little.{field}
use Rattle.rooms.specs.declared.Entry.{Entry}
use Rattle.rooms.specs.Records.{entry_at}
use Rattle.rooms.specs.Scans.{first_of, waits}
use Rattle.rooms.proofs.Laws.Scans.{First, first_is}
use Rattle.rooms.proofs.Laws.Lists.{in_or_out}
use Rattle.scans.specs.Laws.{Idle, idle_none, idle_more, first_past}
use Rattle.chains.specs.Chains.{each_below, good_chains}
use Rattle.chains.specs.Laws.{each_all, each_at, each_not}
use Rattle.progress.specs.Progress.{stands_at, good_asked, good_retained, good_closed, good_pushed, good_dropped, good_counts, good_node, good_wait, is_idle, some_waits, good_progress}

-- the bounds that keep every count from wrapping: one call makes at most 4,096 expansions
pub record CountBounds (budget : ℕ) (c : Counts) (n : ℕ) : Type 0 where
  pub asked : n ≤ 4096
  pub some : 1 ≤ c.retained
  pub few : c.retained ≤ budget
  pub closes : c.closed ≤ c.retained
  pub pushes : c.pushed < 4294967296
  pub drops : c.dropped < 4294967296

counts_bound : (budget : ℕ) (c : Counts) (n : ℕ) → good_counts budget c n ≡ true → CountBounds budget c n
unfolding good_counts
counts_bound budget c n e =
    let few = good_retained budget c && good_closed c in
    let x = and_first (good_asked n && few && good_pushed c) (good_dropped c) e in
    let y = and_first (good_asked n && few) (good_pushed c) x in
    let p = and_first (good_asked n) few y in
    let q = and_second (good_asked n) few y in
    let s = and_first (good_retained budget c) (good_closed c) q in
    record {
      asked = leb-true n 4096 (and_second (leb 1 n) (leb n 4096) p);
      some = leb-true 1 c.retained (and_first (leb 1 c.retained) (leb c.retained budget) s);
      few = leb-true c.retained budget (and_second (leb 1 c.retained) (leb c.retained budget) s);
      closes = leb-true c.closed c.retained (and_second (good_retained budget c) (good_closed c) q);
      pushes = ltb-true c.pushed 4294967296 (and_second (good_asked n && few) (good_pushed c) x);
      drops = ltb-true c.dropped 4294967296 (and_second (good_asked n && few && good_pushed c) (good_dropped c) e);
    }

pub progress_bounds : (r : Request) (a f : List ℕ) (c : Counts) (n : ℕ) → good_progress r a f c n ≡ true → CountBounds r.node_budget c n
unfolding good_progress
progress_bounds r a f c n e = counts_bound r.node_budget c n (and_first (good_counts r.node_budget c n) _ e)

-- ---- the first that waits, as the code asks for it

abbrev waits_at : List ℕ → ℕ → Bool
waits_at f k = waits (entry_at f k)

-- each of those before it is idle, so some node waits where it is one of them
pub waits_first : (f : List ℕ) (n r : ℕ) → r ≡ first_of (waits_at f) 0 (n - 0) → ltb r n ≡ some_waits f n
unfolding some_waits
waits_first f n r e = go (ltb r n) refl
  where
    first : First (waits_at f) 0 (n - 0) r
    first = rw e (first_is (waits_at f) 0 (n - 0))

    go : (b : Bool) → ltb r n ≡ b → b ≡ not (each_below (is_idle f) n)
    go true h = let l = ltb-true r n h in let y = each_not (is_idle f) n r l (ap not (first.passes (omega arith))) in rw y
    go false h = let y = each_all (is_idle f) n (λ j l. ap not (first.missed j (omega arith) (omega (arith, ltb-false r n h)))) in rw y

-- a node that waits, and none that does
pub waits_at_lem : (f : List ℕ) (n k : ℕ) → k < n → (entry_at f k).waiting ≡ 1 → true ≡ some_waits f n
unfolding some_waits
waits_at_lem f n k h e = let z = eq-eqb (entry_at f k).waiting 1 e in let y = each_not (is_idle f) n k h (rw z) in rw y

pub waits_none : (f : List ℕ) (n : ℕ) → ((k : ℕ) → k < n → (entry_at f k).waiting ≢ 1) → some_waits f n ≡ false
unfolding some_waits
waits_none f n h = let y = each_all (is_idle f) n (λ k l. ap not (ne_eqb (entry_at f k).waiting 1 (h k l))) in rw y

first_least : (p : ℕ → Bool) (n k : ℕ) → k ≤ first_of p k n
first_least p zero k = omega arith
first_least p (suc n) k = go (p k) (first_least p n (suc k))
  where
    go : (b : Bool) → suc k ≤ first_of p (suc k) n → k ≤ cond b k (first_of p (suc k) n)
    go true h = omega arith
    go false h = omega arith

-- and idle records are good ones
pub waits_skip : (a f : List ℕ) (n m k r : ℕ) → r ≡ first_of (waits_at f) k (m - k) → k ≤ m → each_below (good_wait a f n) k ≡ true → (k ≤ r) × (r ≤ m) × (each_below (good_wait a f n) r ≡ true)
unfolding good_wait
waits_skip a f n m k r e l h = (rw e (first_least (waits_at f) (m - k) k), omega (arith, first.within), each_all (good_wait a f n) r (λ j i. ⊎_elim (λ b. each_at (good_wait a f n) k j b h) (λ b. idle j b i) (in_or_out j k)))
  where
    first : First (waits_at f) k (m - k) r
    first = rw e (first_is (waits_at f) k (m - k))

    idle : (j : ℕ) → k ≤ j → j < r → good_wait a f n j ≡ true
    idle j b i = let z = first.missed j b i in rw z

-- ---- over idle records

pub idle_join : (e : ℕ → Entry) (i m r : ℕ) → Idle e i m → Idle e m r → Idle e i r
idle_join e i m r g h = record { order = omega (arith, g.order, h.order); idle = λ j p q. ⊎_elim (λ l. g.idle j p l) (λ l. h.idle j l q) (in_or_out j m) }

-- four of them, as the code reads them
pub idle_four : (f : List ℕ) (k : ℕ) → eqb (field 8 f (24 * k + 16)) 1 ≡ false → eqb (field 8 f (24 * k + 40)) 1 ≡ false → eqb (field 8 f (24 * k + 64)) 1 ≡ false → eqb (field 8 f (24 * k + 88)) 1 ≡ false → Idle (entry_at f) k (k + 4)
idle_four f k p q r s =
    let x : 24 * (k + 1) + 16 ≡ 24 * k + 40 = omega arith in
    let y : 24 * (k + 1 + 1) + 16 ≡ 24 * k + 64 = omega arith in
    let z : 24 * (k + 1 + 1 + 1) + 16 ≡ 24 * k + 88 = omega arith in
    let e : k + 1 + 1 + 1 + 1 ≡ k + 4 = omega arith in
    let at : (i j : ℕ) → i ≡ j → eqb (field 8 f j) 1 ≡ false → eqb (field 8 f i) 1 ≡ false = λ i j h b. ap (λ (m : ℕ). eqb (field 8 f m) 1) h ∙ b in
    subst (Idle (entry_at f) k) e (idle_more f (idle_more f (idle_more f (idle_more f (idle_none (entry_at f) k) p) (at _ _ x q)) (at _ _ y r)) (at _ _ z s))

pub idle_past : (f : List ℕ) (from r n : ℕ) → Idle (entry_at f) from r → r ≤ n → first_of (waits_at f) r (n - r) ≡ first_of (waits_at f) from (n - from)
idle_past f from r n h l =
    let e : from + (r - from) ≡ r = omega (arith, h.order) in
    sym (first_past (waits_at f) (r - from) from n (omega (arith, h.order)) (λ j p q. h.idle j p (omega (arith, h.order))) ∙ ap (λ (m : ℕ). first_of (waits_at f) m (n - m)) e)

-- ---- the ways out of `good_progress`

module _ (r : Request) (a f : List ℕ) (c : Counts) (n : ℕ) where
  pub progress_not : good_counts r.node_budget c n ≡ false → false ≡ good_progress r a f c n
  unfolding good_progress
  progress_not e = rw e

  pub progress_by : good_counts r.node_budget c n ≡ true →
      (each_below (good_node r a f) c.retained && good_chains a c.retained && some_waits f c.retained && each_below (good_wait a f c.retained) (length f / 24)) ≡ good_progress r a f c n
  unfolding good_progress
  progress_by e = rw e

-- ---- a node by its words

abbrev pub good_words : Request → Feet → ℕ → ℕ → ℕ → ℕ → Bool
good_words r feet cost movement closed waiting = in_range r (stands_at feet) && finite (of_bits binary64 cost) && leb movement 3 && (leb closed 1 && leb waiting 1)

-- what `find` says of the first number that fails, where the others pass
pub passed_good : (p : ℕ → Bool) (n : ℕ) (r : Option ℕ) → MatchOption r ((k : ℕ) → 0 ≤ k → k < n → p k ≡ true) (λ i. (0 ≤ i) × (i < n) × Unit {0} × ((k : ℕ) → 0 ≤ k → k < i → p k ≡ true))
    → (unwrap_or r n ≤ n) × (each_below p (unwrap_or r n) ≡ true)
passed_good p n None h = (omega arith, each_all p n (λ k l. h k (omega arith) l))
passed_good p n (Some i) h = (omega (arith, h.1), each_all p i (λ k l. h.3 k (omega arith) l))
