-- The rooms as a state: a record written is a node set or retained, the scans are the theory's, and a state in bytes is the rooms that it was read from.
use Rattle.std.specs.Prelude.{◌≡◌, refl, Bool, true, false, ◌≢◌, ℕ, zero, suc, ◌+◌, ◌*◌, ◌≤◌, ◌<◌, eqb, length, take, drop, set}
use Rattle.std.proofs.Common.{sym, subst, ◌∙◌, ⊎_elim, arith, eqb-true, List, [], ◌∷◌, ◌++◌, map}
use Rattle.std.proofs.Math.Path.{ap}
use Rattle.std.proofs.Math.Option.{Option, none, some}
use Rattle.exploration.specs.Lists.{nth}
use Rattle.exploration.specs.Graph.{Graph}
use Rattle.exploration.specs.Policy.{Node}
use Rattle.exploration.specs.Explore.{seek, head_or}
use Rattle.exploration.specs.Choose.{choose, scan, keep, swap}
use Rattle.exploration.specs.Estimates.{sooner}
use Rattle.exploration.proofs.Laws.Lists.{nth_left, nth_last, nth_lt, map_snoc}
use Rattle.exploration.proofs.Laws.Choices.{choose_some}
use Rattle.fields.specs.Bytes.{Bytes}
use Rattle.fields.specs.Records.{firsts, records_bytes}
use Rattle.fields.proofs.RecordLaws.{last_or, length_firsts, firsts_more, firsts_set, record_bytes_lem, room_is}
use Rattle.rooms.specs.declared.Feet.{Feet}
use Rattle.rooms.specs.declared.Label.{Label}
use Rattle.rooms.specs.declared.NodeRecord.{NodeRecord}
use Rattle.rooms.specs.declared.Entry.{Entry}
use Rattle.rooms.specs.declared.Counts.{Counts}
use Rattle.rooms.specs.Records.{node_layout, node_at, entry_layout, entry_at}
use Rattle.rooms.specs.Scans as scans
use Rattle.rooms.specs.Scans.{waits, is_at, first_at, index_or, next_of}
pub use Rattle.rooms.specs.Rooms.{BySamePoint}
use Rattle.rooms.specs.Rooms.{Note, nobody, parent_of, node_of, node_in, nodes_of, state_of, node_waits, node_sooner, parent_word, node_bytes, node_room, entry_bytes, front_room, counts_in}
use Rattle.rooms.specs.Writes.{WroteNode, WroteEntry}
use Rattle.rooms.proofs.Laws.Scans.{First, first_is}

-- ---- the first n values of a function, by place

pub nth_firsts : {A : Type 0} (n : ℕ) (g : ℕ → A) (k : ℕ) → k < n → nth (firsts n g) k ≡ some (g k)
nth_firsts zero g k h = absurd (omega arith)
nth_firsts (suc n) g k h = ⊎_elim (λ l. nth_left (firsts n g) _ k (g k) (nth_firsts n g k l)) (λ e. rw e (subst (λ (m : ℕ). nth (firsts n g ++ (g n ∷ [])) m ≡ some (g n)) (length_firsts n g) (nth_last (firsts n g) (g n)))) (last_or k n h)

map_firsts : {A B : Type 0} (f : A → B) (n : ℕ) (g : ℕ → A) → map f (firsts n g) ≡ firsts n (λ k. f (g k))
map_firsts f zero g = refl
map_firsts f (suc n) g = map_snoc f (firsts n g) (g n) ∙ rw (map_firsts f n g)

-- ---- one record written in both rooms

module _ {a f b g : List ℕ} {k : ℕ} {r : NodeRecord} {e : Entry} (p : WroteNode a k r b) (q : WroteEntry f k e g) where
  here_both : node_in b g k ≡ node_of r e
  here_both = let x = p.here in let y = q.here in rw (x, y)

  there_both : (j : ℕ) → j ≢ k → node_in b g j ≡ node_in a f j
  there_both j h = let x = p.there j h in let y = q.there j h in rw (x, y)

  pub nodes_set : (n : ℕ) → k < n → nodes_of n b g ≡ set (nodes_of n a f) k (node_of r e)
  nodes_set n h = firsts_set n (node_in a f) (node_in b g) k (node_of r e) h here_both there_both

  pub nodes_more : nodes_of (suc k) b g ≡ nodes_of k a f ++ (node_of r e ∷ [])
  nodes_more = firsts_more k (node_in a f) (node_in b g) (node_of r e) here_both there_both

-- ---- the lookup

module _ {P L A : Type 0} (𝓖 : Graph P L) (q : P) where
  abbrev or_last : Option (ℕ × Node P L A) → ℕ → Node P L A → Bool → Option (ℕ × Node P L A)
  or_last (some r) k x b = some r
  or_last none k x true = some (k, x)
  or_last none k x false = none

  first_last : (b : Bool) (x : Node P L A) → head_or b x none ≡ or_last none 0 x b
  first_last true x = refl
  first_last false x = refl

  later_last : (b d : Bool) (y x : Node P L A) (o : Option (ℕ × Node P L A)) (k : ℕ) → head_or b y (or_last o k x d) ≡ or_last (head_or b y o) (suc k) x d
  later_last true d y x o k = refl
  later_last false d y x (some r) k = refl
  later_last false true y x none k = refl
  later_last false false y x none k = refl

  seek_snoc : (ns : List (Node P L A)) (x : Node P L A) → seek 𝓖 (ns ++ (x ∷ [])) q ≡ or_last (seek 𝓖 ns q) (length ns) x (𝓖.same x.point q)
  seek_snoc [] x = first_last (𝓖.same x.point q) x
  seek_snoc (y ∷ ns) x = ap (head_or (𝓖.same y.point q) y) (seek_snoc ns x) ∙ later_last (𝓖.same y.point q) (𝓖.same x.point q) y x (seek 𝓖 ns q) (length ns)

  seek_miss : (n : ℕ) (g : ℕ → Node P L A) → ((j : ℕ) → j < n → 𝓖.same (g j).point q ≡ false) → seek 𝓖 (firsts n g) q ≡ none
  seek_miss zero g h = refl
  seek_miss (suc n) g h = seek_snoc (firsts n g) (g n) ∙ (let e = seek_miss n g (λ j l. h j (omega arith)) in let f = h n (omega arith) in rw (e, f))

  seek_hit : (n : ℕ) (g : ℕ → Node P L A) (r : ℕ) → r < n → ((j : ℕ) → j < r → 𝓖.same (g j).point q ≡ false) → 𝓖.same (g r).point q ≡ true → seek 𝓖 (firsts n g) q ≡ some (r, g r)
  seek_hit zero g r l h t = absurd (omega arith)
  seek_hit (suc n) g r l h t = seek_snoc (firsts n g) (g n) ∙ ⊎_elim (λ m. let e = seek_hit n g r m h t in rw e) (λ m. go m) (last_or r n l)
    where
      go : r ≡ n → or_last (seek 𝓖 (firsts n g) q) (length (firsts n g)) (g n) (𝓖.same (g n).point q) ≡ some (r, g r)
      go m = let e = seek_miss n g (λ j k. h j (omega arith)) in let f : 𝓖.same (g n).point q ≡ true = rw (← m) t in rw (e, f, length_firsts, m)

module _ (𝓖 : Graph Feet Label) (same : BySamePoint 𝓖) (a f : List ℕ) (n : ℕ) (q : Feet) where
  first : First (is_at a q) 0 n (first_at a n q)
  unfolding first_at
  first = first_is (is_at a q) 0 n

  pub seek_none : n ≤ first_at a n q → seek 𝓖 (nodes_of n a f) q ≡ none
  unfolding node_of
  seek_none l = seek_miss 𝓖 q n (node_in a f) (λ j h. same (node_at a j).feet q ∙ first.missed j (omega arith) (omega arith))

  pub seek_some : first_at a n q < n → seek 𝓖 (nodes_of n a f) q ≡ some (first_at a n q, node_in a f (first_at a n q))
  unfolding node_of
  seek_some l = seek_hit 𝓖 q n (node_in a f) (first_at a n q) l (λ j h. same (node_at a j).feet q ∙ first.missed j (omega arith) h) (same (node_at a (first_at a n q)).feet q ∙ first.passes (omega arith))

-- ---- the next of the frontier

module _ {A B : Type 0} (h : A → B) (w : B → Bool) (b : B → B → Bool) where
  abbrev carry : Option (ℕ × A) → Option (ℕ × B)
  carry none = none
  carry (some r) = some (r.0, h r.1)

  keep_carry : (t : Bool) (i : ℕ) (x : A) (o : Option (ℕ × A)) → carry (keep (λ y. w (h y)) (λ y z. b (h y) (h z)) t i x o) ≡ keep w b t i (h x) (carry o)
  keep_carry false i x o = refl
  keep_carry true i x none = refl
  keep_carry true i x (some r) = go (b (h x) (h r.1))
    where
      go : (t : Bool) → carry (swap (λ y. w (h y)) (λ y z. b (h y) (h z)) t i x r) ≡ swap w b t i (h x) (r.0, h r.1)
      go true = refl
      go false = refl

  scan_carry : (i : ℕ) (o : Option (ℕ × A)) (xs : List A) → carry (scan (λ y. w (h y)) (λ y z. b (h y) (h z)) i o xs) ≡ scan w b i (carry o) (map h xs)
  scan_carry i o [] = refl
  scan_carry i o (x ∷ xs) = scan_carry (suc i) _ xs ∙ ap (λ (p : Option (ℕ × B)). scan w b (suc i) p (map h xs)) (keep_carry (w (h x)) i x o)

  index_carry : (n : ℕ) (o : Option (ℕ × A)) → index_or n (carry o) ≡ index_or n o
  index_carry n none = refl
  index_carry n (some r) = refl

module _ (a f : List ℕ) (n : ℕ) where
  abbrev entry_of : Node Feet Label Note → Entry
  entry_of x = x.note.entry

  abbrev chosen : Option (ℕ × Node Feet Label Note)
  chosen = choose node_waits node_sooner (nodes_of n a f)

  next_chosen : next_of n f ≡ index_or n chosen
  unfolding next_of node_of sooner
  next_chosen = ap (λ (l : List Entry). index_or n (choose waits scans.sooner l)) (sym (map_firsts entry_of n (node_in a f))) ∙ ap (index_or n) (sym (scan_carry entry_of waits scans.sooner 0 none (nodes_of n a f))) ∙ index_carry entry_of waits scans.sooner n chosen

  held : (r : ℕ × Node Feet Label Note) → chosen ≡ some r → (r.0 < n) × (r ≡ (r.0, node_in a f r.0))
  held r e = (l, go)
    where
      at : nth (nodes_of n a f) r.0 ≡ some r.1
      at = (choose_some node_waits node_sooner (nodes_of n a f) r e).0

      l : r.0 < n
      l = omega (arith, nth_lt (nodes_of n a f) r.0 r.1 at, length_firsts n (node_in a f))

      go : r ≡ (r.0, node_in a f r.0)
      go = let z : r.1 ≡ node_in a f r.0 = cc (at, nth_firsts n (node_in a f) r.0 l) in λ i. (r.0, z i)

  pub pick_none : n ≤ next_of n f → choose node_waits node_sooner (nodes_of n a f) ≡ none
  pick_none h = go chosen refl
    where
      go : (o : Option (ℕ × Node Feet Label Note)) → chosen ≡ o → chosen ≡ none
      go none e = e
      go (some r) e = let k : next_of n f ≡ r.0 = next_chosen ∙ ap (index_or n) e in absurd (omega (arith, (held r e).0))

  pub pick_some : next_of n f < n → choose node_waits node_sooner (nodes_of n a f) ≡ some (next_of n f, node_in a f (next_of n f))
  pick_some h = go chosen refl
    where
      go : (o : Option (ℕ × Node Feet Label Note)) → chosen ≡ o → chosen ≡ some (next_of n f, node_in a f (next_of n f))
      go none e = let k : next_of n f ≡ n = next_chosen ∙ ap (index_or n) e in absurd (omega arith)
      go (some r) e = let k : next_of n f ≡ r.0 = next_chosen ∙ ap (index_or n) e in e ∙ ap some (held r e).1 ∙ rw k

-- ---- in bytes

pub parent_word_lem : (p : ℕ) → parent_word (parent_of p) ≡ p
unfolding parent_of
parent_word_lem p = go (eqb p nobody) refl
  where
    go : (b : Bool) → eqb p nobody ≡ b → parent_word (parent_of p) ≡ p
    go true e = rw e (sym (eqb-true p nobody e))
    go false e = rw e

node_bytes_lem : (a f : List ℕ) (k : ℕ) → Bytes a → 64 * k + 64 ≤ length a → node_bytes (node_in a f k) ≡ take 64 (drop (64 * k) a)
unfolding node_of node_at
node_bytes_lem a f k h l = let e = parent_word_lem (node_at a k).parent in let z : 64 * k + 0 ≡ 64 * k = omega arith in rw e (record_bytes_lem node_layout a (64 * k) 0 h (omega arith) ∙ rw z)

entry_bytes_lem : (a f : List ℕ) (k : ℕ) → Bytes f → 24 * k + 24 ≤ length f → entry_bytes (node_in a f k) ≡ take 24 (drop (24 * k) f)
unfolding node_of entry_at
entry_bytes_lem a f k h l = let z : 24 * k + 0 ≡ 24 * k = omega arith in record_bytes_lem entry_layout f (24 * k) 0 h (omega arith) ∙ rw z

-- rooms whose bytes past n records are as they were are those records in bytes, and their old bytes
module _ (old a f : List ℕ) (n : ℕ) where
  long : length (nodes_of n a f) ≡ n
  long = length_firsts n (node_in a f)

  pub node_room_lem : Bytes a → 64 * n ≤ length a → drop (64 * n) a ≡ drop (64 * n) old → a ≡ node_room old (nodes_of n a f)
  node_room_lem h l d = room_is node_bytes 64 (node_in a f) a old n (λ k i. node_bytes_lem a f k h (omega arith)) d ∙ ap (λ (k : ℕ). records_bytes node_bytes (nodes_of n a f) ++ drop (64 * k) old) (sym long)

  pub front_room_lem : Bytes f → 24 * n ≤ length f → drop (24 * n) f ≡ drop (24 * n) old → f ≡ front_room old (nodes_of n a f)
  front_room_lem h l d = room_is entry_bytes 24 (node_in a f) f old n (λ k i. entry_bytes_lem a f k h (omega arith)) d ∙ ap (λ (k : ℕ). records_bytes entry_bytes (nodes_of n a f) ++ drop (24 * k) old) (sym long)

-- the counts of a state that rooms hold
pub counts_back : (a f : List ℕ) (c : Counts) → counts_in (state_of a f c) ≡ c
unfolding state_of
counts_back a f c = let n = length_firsts c.retained (node_in a f) in λ i. record { retained = n i; closed = c.closed; pushed = c.pushed; dropped = c.dropped }
