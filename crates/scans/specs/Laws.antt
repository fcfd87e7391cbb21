-- The scans, turn by turn.
use Rattle.std.specs.Prelude.{◌≡◌, refl, ◌⊎◌, Bool, true, false, ◌||◌, List, ℕ, zero, suc, ◌+◌, ◌-◌, ◌*◌, ◌≤◌, ◌<◌, eqb, ltb}
use Rattle.std.proofs.Common.{sym, ap, subst, ◌∙◌, inl, inr, ⊎_elim, arith, zero-add, add-zero, add-one}
use Rattle.std.proofs.Math.Option.{Option, none, some}
use borrow.Author.Tests.{eq-eqb, ne_eqb, lt-ltb, le-ltb, ltb-true, ltb-false}
use Rattle.exploration.specs.Choose.{choose, scan, keep}
use Rattle.exploration.proofs.Laws.Loops.{scan_snoc}
use Rattle.fields.specs.Little.{field}
use Rattle.fields.specs.Records.{firsts}
use Rattle.fields.proofs.RecordLaws.{length_firsts, last_or}
use Rattle.rooms.specs.declared.Feet.{Feet}
use Rattle.rooms.specs.declared.Entry.{Entry}
use Rattle.rooms.specs.Waypoints.{same_word, same_point}
use Rattle.rooms.specs.Records.{node_at, entry_at}
use Rattle.rooms.specs.Scans.{first_of, is_at, waits, sooner, index_or, entry_from, next_from, next_of}

-- ---- the first that passes a test

-- a turn of the scan: the one at hand passes, or the scan goes on, or it has ended
module _ (p : ℕ → Bool) where
  pub first_here : (k n : ℕ) → p k ≡ true → 0 < n → first_of p k n ≡ k
  first_here k zero h l = absurd (omega arith)
  first_here k (suc n) h l = rw h

  pub first_later : (k n : ℕ) → p k ≡ false → 0 < n → first_of p k n ≡ first_of p (k + 1) (n - 1)
  first_later k zero h l = absurd (omega arith)
  first_later k (suc n) h l = let e : k + 1 ≡ suc k = omega arith in let d : suc n - 1 ≡ n = omega arith in rw (h, e, d)

  pub first_end : (k n : ℕ) → n ≡ 0 → first_of p k n ≡ k
  first_end k n e = rw e

  -- over those that do not pass
  pub first_past : (d k n : ℕ) → k + d ≤ n → ((j : ℕ) → k ≤ j → j < k + d → p j ≡ false) → first_of p k (n - k) ≡ first_of p (k + d) (n - (k + d))
  first_past zero k n l h = let e : k + 0 ≡ k = omega arith in rw e
  first_past (suc d) k n l h =
      let e : n - k - 1 ≡ n - (k + 1) = omega arith in
      let i : k + 1 + d ≡ k + suc d = omega arith in
      first_later k (n - k) (h k (omega arith) (omega arith)) (omega arith) ∙ ap (first_of p (k + 1)) e
      ∙ first_past d (k + 1) n (omega arith) (λ j a b. h j (omega arith) (omega arith)) ∙ ap (λ (m : ℕ). first_of p m (n - m)) i

-- a node with another x is not at the point
pub apart : (a : List ℕ) (q : Feet) (k : ℕ) → same_word (field 8 a (64 * k)) q.x ≡ false → is_at a q k ≡ false
unfolding node_at same_point
apart a q k h = rw (add-zero (64 * k), h)

-- ---- the next of the frontier

-- none of the nodes from one on and before another waits
pub record Idle (e : ℕ → Entry) (i r : ℕ) : Type 0 where
  pub order : i ≤ r
  pub idle : (j : ℕ) → i ≤ j → j < r → waits (e j) ≡ false

pub idle_none : (e : ℕ → Entry) (i : ℕ) → Idle e i i
idle_none e i = record { order = omega arith; idle = λ j p q. absurd (omega arith) }

pub idle_more : (f : List ℕ) {i r : ℕ} → Idle (entry_at f) i r → eqb (field 8 f (24 * r + 16)) 1 ≡ false → Idle (entry_at f) i (r + 1)
unfolding entry_at
idle_more f {i} {r} h e = record { order = omega (arith, h.order); idle = λ j p q. ⊎_elim (λ l. h.idle j p l) (λ l. subst (λ (k : ℕ). eqb (field 8 f (24 * k + 16)) 1 ≡ false) (sym l) e) (last_or j r (omega arith)) }

-- the entries from one on are those of the room, and those before it are idle
module _ (low : ℕ) (f : List ℕ) where
  pub from_here : (k : ℕ) → low ≤ k → entry_at f k ≡ entry_from low f k
  unfolding entry_from
  from_here k h = let z = le-ltb k low h in rw z

  pub from_idle : (r : ℕ) → r ≤ low → Idle (entry_from low f) 0 r
  unfolding entry_from
  from_idle r h = record { order = omega arith; idle = λ j p q. (let z = lt-ltb j low (omega arith) in rw z) }

  pub idle_from : (i r : ℕ) → low ≤ i → Idle (entry_at f) i r → Idle (entry_from low f) i r
  idle_from i r l h = record { order = h.order; idle = λ j p q. ap waits (sym (from_here j (omega arith))) ∙ h.idle j p q }

module _ (n : ℕ) (g : ℕ → Entry) where
  -- what the first i entries leave
  abbrev up_to : ℕ → Option (ℕ × Entry)
  up_to i = scan waits sooner 0 none (firsts i g)

  -- node `at` with its entry e is the least of the first i, or `at` is n where none of them waits
  pub data Holds : ℕ → ℕ → Entry → Type 0 where
    nothing : {i at : ℕ} {e : Entry} → up_to i ≡ none → at ≡ n → Holds i at e
    something : {i at : ℕ} {e : Entry} → up_to i ≡ some (at, e) → at < n → Holds i at e

  -- after one more entry
  one_more : (i : ℕ) {x : Entry} → x ≡ g i → up_to (i + 1) ≡ keep waits sooner (waits x) i x (up_to i)
  one_more i q = ap (λ (m : ℕ). up_to m) (add-one i) ∙ scan_snoc waits sooner 0 none (firsts i g) (g i) ∙ rw (zero-add, length_firsts, q)

  pub begins : {e : Entry} → Holds 0 n e
  begins = nothing refl refl

  module _ {i at : ℕ} {x e : Entry} (q : x ≡ g i) where
    pub passes : waits x ≡ false → Holds i at e → Holds (i + 1) at e
    passes t (nothing u l) = nothing (one_more i q ∙ rw (t, u)) l
    passes t (something u l) = something {at = at} {e = e} (one_more i q ∙ rw (t, u)) l

    pub takes : i < n → waits x ≡ true → eqb at n || sooner x e ≡ true → Holds i at e → Holds (i + 1) i x
    takes h t b (nothing u l) = something {at = i} {e = x} (one_more i q ∙ rw (t, u)) h
    takes h t b (something u l) =
        let s : sooner x e ≡ true = rw (ne_eqb at n (λ y. omega arith)) at b in
        something {at = i} {e = x} (one_more i q ∙ rw (t, u, keep, s)) h

    pub stays : waits x ≡ true → eqb at n || sooner x e ≡ false → Holds i at e → Holds (i + 1) at e
    stays t b (nothing u l) = absurd (apart_from (rw (eq-eqb at n l) at b))
      where
        apart_from : true ≡ false → ⊥
        apart_from y = let z : ◌≡◌ {A = ℕ} 0 1 = cc in omega arith
    stays t b (something u l) =
        let s : sooner x e ≡ false = rw (ne_eqb at n (λ y. omega arith)) at b in
        something {at = at} {e = e} (one_more i q ∙ rw (t, u, keep, s)) l

  -- over nodes that do not wait
  pub passes_on : (d : ℕ) {i at : ℕ} {e : Entry} → Idle g i (i + d) → Holds i at e → Holds (i + d) at e
  passes_on zero h o = rw add-zero o
  passes_on (suc d) {i} {at} {e} h o =
      let l : i + 1 + d ≡ i + suc d = omega arith in
      subst (λ (m : ℕ). Holds m at e) l (passes_on d {i = i + 1} (record { order = omega arith; idle = λ j p q. h.idle j (omega arith) (omega arith) }) (passes refl (h.idle i (omega arith) (omega arith)) o))

  pub answers : {at : ℕ} {e : Entry} → Holds n at e → at ≡ index_or n (choose waits sooner (firsts n g))
  answers (nothing u l) = l ∙ ap (index_or n) (sym u)
  answers (something u l) = ap (index_or n) (sym u)

-- entries that differ only where they do not wait leave the same
alike : (n : ℕ) (g h : ℕ → Entry) → ((k : ℕ) → k < n → (g k ≡ h k) ⊎ ((waits (g k) ≡ false) × (waits (h k) ≡ false))) → scan waits sooner 0 none (firsts n g) ≡ scan waits sooner 0 none (firsts n h)
alike zero g h d = refl
alike (suc n) g h d =
    let e = alike n g h (λ k l. d k (omega arith)) in
    scan_snoc waits sooner 0 none (firsts n g) (g n) ∙ ⊎_elim
    (λ i. rw (e, i, length_firsts n g, length_firsts n h) refl)
    (λ i. rw (i.0, i.1, e) refl)
    (d n (omega arith)) ∙ sym (scan_snoc waits sooner 0 none (firsts n h) (h n))

-- the next from a later node on is the same, where none between waits
pub next_later : (low r n : ℕ) (f : List ℕ) → ((k : ℕ) → k < low → k < n → k < r) → ((j : ℕ) → low ≤ j → j < r → waits (entry_at f j) ≡ false) → next_from r n f ≡ next_from low n f
unfolding next_from entry_from
next_later low r n f o h = ap (index_or n) (alike n (entry_from r f) (entry_from low f) (λ k l. go k l (ltb k r) (ltb k low) refl refl))
  where
    go : (k : ℕ) → k < n → (b d : Bool) → ltb k r ≡ b → ltb k low ≡ d → (entry_from r f k ≡ entry_from low f k) ⊎ ((waits (entry_from r f k) ≡ false) × (waits (entry_from low f k) ≡ false))
    go k l true true e i = inl (rw (e, i))
    go k l true false e i = inr (rw e refl, rw i (h k (ltb-false k low i) (ltb-true k r e)))
    go k l false true e i = absurd (omega (arith, o k (ltb-true k low i) l, ltb-false k r e))
    go k l false false e i = inl (rw (e, i))

-- so where none before a node waits, the next from it on is the next of all
pub next_from_lem : (low n : ℕ) (f : List ℕ) → ((j : ℕ) → j < low → waits (entry_at f j) ≡ false) → next_from low n f ≡ next_of n f
unfolding next_from next_of
next_from_lem low n f h =
    next_later 0 low n f (λ k l m. absurd (omega arith)) (λ j l m. h j m)
    ∙ ap (index_or n) (alike n (entry_from 0 f) (entry_at f) (λ k l. inl (sym (from_here 0 f k (omega arith)))))
