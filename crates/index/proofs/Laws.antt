-- A lookup by an index of nodes answers as the scan does (02, No. 7: "It is proved that each lookup answers as the scan does"); nodes that are entered keep it
-- an index of nodes; and it is one as long as the nodes' points stay. A room all zero is the index of no nodes.
use Rattle.std.specs.Prelude.{◌≡◌, ℕ, zero, suc, ◌+◌, ◌-◌, ◌*◌, ◌/◌, ◌%◌, ◌^◌, ◌<◌, ◌≤◌, Bool, true, false, cond, ◌&&◌, ◌||◌, ltb, List, length, replicate, ◌==◌, ◌≢◌, nat_lt, refl}
use Rattle.std.proofs.Common.{sym, ap, ◌∙◌, subst, lt-ltb, le-ltb, ltb-true, ltb-false, eqb-true, ne_eqb, arith}
use Rattle.std.proofs.Math.Logic.{inl, inr, ⊎_elim}
use Rattle.std.proofs.Math.Nat.{mod-eq_of_lt}
use Rattle.std.proofs.lemmas.Bool.{eqb-false}
use Rattle.exploration.proofs.Laws.Lists.{true_false, and_first, and_second}
use Rattle.fields.proofs.Laws.{field_zeros, length_with, read_back, read_other}
use Rattle.rooms.specs.declared.Feet.{Feet}
use Rattle.rooms.specs.Waypoints.{canonical_word, same_word, same_point}
use Rattle.rooms.specs.Records.{node_at}
use Rattle.rooms.specs.Scans.{first_of, is_at, first_at}
use Rattle.rooms.proofs.Laws.Scans.{First, first_is}
use Rattle.rooms.proofs.Laws.Lists.{in_or_out}
use Rattle.index.specs.Index.{home, slots, slot_at, next_slot, probe_from, probed, looked_up, free_from, free_for, entered, extend_by, extended}
use Rattle.index.proofs.Turns.{probe_stops, probe_finds, probe_goes_on}
use Rattle.index.specs.Indexed.{Leads, here, on, Indexed}

-- ---- same points have one own slot

same_words : (a b : ℕ) → same_word a b ≡ true → canonical_word a ≡ canonical_word b
unfolding same_word
same_words a b e = eqb-true (canonical_word a) (canonical_word b) e

pub same_home : (n : ℕ) (p q : Feet) → same_point p q ≡ true → home n p ≡ home n q
unfolding same_point home
same_home n p q e =
    let sx = same_word p.x q.x in
    let sy = same_word p.y q.y in
    let sz = same_word p.z q.z in
    let x = same_words p.x q.x (and_first sx sy (and_first (sx && sy) sz e)) in
    let y = same_words p.y q.y (and_second sx sy (and_first (sx && sy) sz e)) in
    let z = same_words p.z q.z (and_second (sx && sy) sz e) in
    rw (x, y, z)

-- ---- a lookup

-- a slot that has one of m numbers does not end it, and one that does not end it has
module _ (m e : ℕ) where
  held : 0 < e → e ≤ m → (e == 0 || nat_lt m e) ≡ false
  held p l = let z = ne_eqb e 0 (λ i. omega arith) in let t = le-ltb m e l in rw (z, t)

  at_most : (e == 0 || nat_lt m e) ≡ false → (0 < e) × (e ≤ m)
  at_most t = go (e == 0) (nat_lt m e) refl refl t
    where
      go : (b d : Bool) → (e == 0) ≡ b → nat_lt m e ≡ d → (b || d) ≡ false → (0 < e) × (e ≤ m)
      go true d i j u = absurd (true_false refl u)
      go false true i j u = absurd (true_false refl u)
      go false false i j u = (omega (arith, eqb-false e 0 i), ltb-false m e j)

module _ (x a : List ℕ) (m : ℕ) (q : Feet) where
  -- where none of m nodes is at the point, whatever the slots have
  missed : ((j : ℕ) → j < m → is_at a q j ≡ false) → (f s : ℕ) → probe_from x a m q f s ≡ m
  missed h zero s = refl
  missed h (suc f) s = go (slot_at x s == 0 || nat_lt m (slot_at x s)) refl (missed h f (next_slot (slots x) s))
    where
      go : (b : Bool) → (slot_at x s == 0 || nat_lt m (slot_at x s)) ≡ b → probe_from x a m q f (next_slot (slots x) s) ≡ m → probe_from x a m q (suc f) s ≡ m
      go true t r = probe_stops x a m q s (slot_at x s) refl (suc f) (omega arith) t
      go false t r =
          let b = at_most m (slot_at x s) t in
          let d : suc f - 1 ≡ f = omega arith in
          probe_goes_on x a m q s (slot_at x s) refl (suc f) (omega arith) t (h (slot_at x s - 1) (omega arith))
          ∙ ap (λ (i : ℕ). probe_from x a m q i (next_slot (slots x) s)) d ∙ r

  -- where node k is the first of them
  hit : {k s f : ℕ} → Leads x k s f → k < m → is_at a q k ≡ true → ((j : ℕ) → j < k → is_at a q j ≡ false) → probe_from x a m q f s ≡ k
  hit {k} {s} (here {f = f} e) h t u =
      let d : suc k - 1 ≡ k = omega arith in
      probe_finds x a m q s (suc k) (sym e) (suc f) (omega arith) (held m (suc k) (omega arith) (omega arith)) (rw d t) ∙ d
  hit {k} {s} (on {f = f} p l r) h t u =
      let d : suc f - 1 ≡ f = omega arith in
      probe_goes_on x a m q s (slot_at x s) refl (suc f) (omega arith) (held m (slot_at x s) p (omega arith)) (u (slot_at x s - 1) (omega arith))
      ∙ ap (λ (i : ℕ). probe_from x a m q i (next_slot (slots x) s)) d ∙ hit r h t u

-- the first is one
module _ (p : ℕ → Bool) (k n : ℕ) where
  not_later : (r s : ℕ) → First p k n r → First p k n s → k ≤ r → r < s → ⊥
  not_later r s f g o h = true_false (f.passes (omega (arith, g.within))) (g.missed r o h)

  pub first_one : (r s : ℕ) → First p k n r → First p k n s → k ≤ r → k ≤ s → r ≡ s
  first_one r s f g o q = ⊎_elim (λ h. absurd (not_later r s f g o h)) (λ h. ⊎_elim (λ i. absurd (not_later s r g f q i)) (λ i. omega arith) (in_or_out s r)) (in_or_out r s)

module _ {x a : List ℕ} {m : ℕ} (i : Indexed x a m) (q : Feet) where
  -- of the nodes that were entered
  pub probed_first : probed x a m q ≡ first_of (is_at a q) 0 m
  unfolding probed
  probed_first = ⊎_elim inside outside (in_or_out (first_of (is_at a q) 0 m) m)
    where
      first : First (is_at a q) 0 m (first_of (is_at a q) 0 m)
      first = first_is (is_at a q) 0 m

      inside : first_of (is_at a q) 0 m < m → probe_from x a m q (slots x) (home (slots x) q) ≡ first_of (is_at a q) 0 m
      inside h =
          let k = first_of (is_at a q) 0 m in
          let at = first.passes (omega arith) in
          subst (λ (s : ℕ). probe_from x a m q (slots x) s ≡ k) (same_home (slots x) (node_at a k).feet q at)
          (hit x a m q (i.led k h) h at (λ j l. first.missed j (omega arith) l))

      outside : m ≤ first_of (is_at a q) 0 m → probe_from x a m q (slots x) (home (slots x) q) ≡ first_of (is_at a q) 0 m
      outside h =
          let e : first_of (is_at a q) 0 m ≡ m = omega (arith, first.within) in
          missed x a m q (λ j l. first.missed j (omega arith) (omega arith)) (slots x) (home (slots x) q) ∙ sym e

  -- "each lookup answers as the scan does"
  pub looked_up_lem : (n : ℕ) → m ≤ n → looked_up x a m n q ≡ first_at a n q
  unfolding looked_up first_at
  looked_up_lem n l = ⊎_elim inside outside (in_or_out (first_of p 0 m) m)
    where
      p : ℕ → Bool
      p = is_at a q

      first : First p 0 m (first_of p 0 m)
      first = first_is p 0 m

      whole : First p 0 n (first_of p 0 n)
      whole = first_is p 0 n

      rest : First p m (n - m) (first_of p m (n - m))
      rest = first_is p m (n - m)

      inside : first_of p 0 m < m → cond (nat_lt (probed x a m q) m) (probed x a m q) (first_of p m (n - m)) ≡ first_of p 0 n
      inside h =
          let t : ltb (first_of p 0 m) m ≡ true = lt-ltb _ _ h in
          rw (probed_first, t) (first_one p 0 n (first_of p 0 m) (first_of p 0 n)
          (record { within = omega arith; missed = first.missed; passes = λ k. first.passes (omega arith) }) whole (omega arith) (omega arith))

      outside : m ≤ first_of p 0 m → cond (nat_lt (probed x a m q) m) (probed x a m q) (first_of p m (n - m)) ≡ first_of p 0 n
      outside h =
          let t : ltb (first_of p 0 m) m ≡ false = le-ltb _ _ h in
          rw (probed_first, t) (first_one p 0 n (first_of p m (n - m)) (first_of p 0 n)
          (record {
            within = omega (arith, rest.within);
            missed = λ j o k. ⊎_elim (λ b. first.missed j o (omega arith)) (λ b. rest.missed j b k) (in_or_out j m);
            passes = λ k. rest.passes (omega arith);
          }) whole (omega arith) (omega arith))

-- ---- a node entered

-- slot s of a room, where node k was entered in slot t
module _ (x : List ℕ) (t k : ℕ) where
  pub length_same : length (entered x t k) ≡ length x
  unfolding entered
  length_same = length_with 4 x (4 * t) ((k + 1) % 2 ^ 32)

  pub slots_same : slots (entered x t k) ≡ slots x
  slots_same = ap (λ (n : ℕ). n / 4) length_same

  slot_here : t < slots x → k + 1 < 2 ^ 32 → slot_at (entered x t k) t ≡ suc k
  unfolding entered slot_at
  slot_here h l = let e : (k + 1) % 2 ^ 32 ≡ suc k = mod-eq_of_lt l ∙ omega arith in rw e (read_back 4 x (4 * t) (suc k) (omega arith) (omega arith))

  slot_other : (s : ℕ) → (s ≢ t) → slot_at (entered x t k) s ≡ slot_at x s
  unfolding entered slot_at
  slot_other s h = read_other 4 4 x (4 * t) (4 * s) ((k + 1) % 2 ^ 32) (⊎_elim (λ b. inl (omega arith)) (λ b. ⊎_elim (λ d. inr (omega arith)) (λ d. absurd (h (omega arith))) (in_or_out t s)) (in_or_out s t))

-- the slot that is found free is
free_is : (x : List ℕ) (f s : ℕ) → free_from x f s < slots x → slot_at x (free_from x f s) ≡ 0
free_is x zero s h = absurd (omega arith)
free_is x (suc f) s h = go (slot_at x s == 0) refl (λ l. free_is x f (next_slot (slots x) s) l)
  where
    go : (b : Bool) → (slot_at x s == 0) ≡ b → (free_from x f (next_slot (slots x) s) < slots x → slot_at x (free_from x f (next_slot (slots x) s)) ≡ 0) → slot_at x (free_from x (suc f) s) ≡ 0
    go true e r = rw e (eqb-true (slot_at x s) 0 e)
    go false e r = rw e (r (rw e at h))

module _ (x : List ℕ) (t m : ℕ) (h : t < slots x) (z : slot_at x t ≡ 0) where
  -- an occupied slot is another one
  other : (s : ℕ) → 0 < slot_at x s → slot_at (entered x t m) s ≡ slot_at x s
  other s p = slot_other x t m s (λ e. omega (arith, subst (λ (i : ℕ). 0 < slot_at x i) e p))

  -- what led to a node leads there still
  leads_still : {k s f : ℕ} → Leads x k s f → Leads (entered x t m) k s f
  leads_still {k} {s} (here {f = f} e) = here {s = s} {f = f} (other s (rw e (omega arith)) ∙ e)
  leads_still {k} {s} (on {f = f} p l r) =
      let e = other s p in
      on {s = s} {f = f} (rw e p) (rw e l) (subst (λ (n : ℕ). Leads (entered x t m) k (next_slot n s) f) (sym (slots_same x t m)) (leads_still r))

  -- and whoever looked for a free slot came by nodes of smaller numbers to the one that was entered there
  leads_new : ((s : ℕ) → slot_at x s ≤ m) → m + 1 < 2 ^ 32 → (f s : ℕ) → free_from x f s ≡ t → Leads (entered x t m) m s f
  leads_new few l zero s e = absurd (omega arith)
  leads_new few l (suc f) s e = go (slot_at x s == 0) refl (λ d. leads_new few l f (next_slot (slots x) s) d)
    where
      go : (b : Bool) → (slot_at x s == 0) ≡ b → (free_from x f (next_slot (slots x) s) ≡ t → Leads (entered x t m) m (next_slot (slots x) s) f) → Leads (entered x t m) m s (suc f)
      go true i r = let d : s ≡ t = rw i at e in here {s = s} {f = f} (ap (slot_at (entered x t m)) d ∙ slot_here x t m h l)
      go false i r =
          let p : 0 < slot_at x s = omega (arith, eqb-false (slot_at x s) 0 i) in
          let o = other s p in
          on {s = s} {f = f} (rw o p) (rw o (few s)) (subst (λ (n : ℕ). Leads (entered x t m) m (next_slot n s) f) (sym (slots_same x t m)) (r (rw i at e)))

-- an index of m nodes, and node m entered in the free slot that was found for it
pub indexed_more : {x a : List ℕ} {m t : ℕ} → Indexed x a m → t ≡ free_for x (node_at a m).feet → t < slots x → m + 1 < 2 ^ 32 → Indexed (entered x t m) a (m + 1)
unfolding free_for
indexed_more {x} {a} {m} {t} i e h l = record { few = few; led = led }
  where
    z : slot_at x t ≡ 0
    z = rw e (free_is x (slots x) (home (slots x) (node_at a m).feet) (rw e at h))

    few : (s : ℕ) → slot_at (entered x t m) s ≤ m + 1
    few s = ⊎_elim (λ b. rw (slot_other x t m s (λ y. omega arith)) (omega (arith, i.few s)))
        (λ b. ⊎_elim (λ d. rw (slot_other x t m s (λ y. omega arith)) (omega (arith, i.few s)))
        (λ d. let y : s ≡ t = omega arith in rw (y, slot_here x t m h l) (omega arith)) (in_or_out t s)) (in_or_out s t)

    led : (k : ℕ) → k < m + 1 → Leads (entered x t m) k (home (slots (entered x t m)) (node_at a k).feet) (slots (entered x t m))
    led k b = rw (slots_same x t m) (⊎_elim
        (λ d. leads_still x t m h z (i.led k d))
        (λ d. let y : k ≡ m = omega arith in rw y (leads_new x t m h z i.few l (slots x) (home (slots x) (node_at a m).feet) (sym e)))
        (in_or_out k m))

-- what entering nodes comes to: an index of more of them, in a room of the same length
pub record Longer (x a : List ℕ) (k n : ℕ) (r : List ℕ × ℕ) : Type 0 where
  pub indexed : Indexed r.0 a r.1
  pub least : k ≤ r.1
  pub most : r.1 ≤ n
  pub long : length r.0 ≡ length x

longer_by : {a : List ℕ} (f : ℕ) {x : List ℕ} {k : ℕ} → Indexed x a k → k + f < 2 ^ 32 → Longer x a k (k + f) (extend_by f x a k)
longer_by zero i l = record { indexed = i; least = omega arith; most = omega arith; long = refl }
longer_by {a} (suc f) {x} {k} i l = go (nat_lt s (slots x)) refl (λ h. longer_by f (indexed_more i refl h (omega arith)) (omega arith))
  where
    s : ℕ
    s = free_for x (node_at a k).feet

    go : (b : Bool) → nat_lt s (slots x) ≡ b → (s < slots x → Longer (entered x s k) a (k + 1) (k + 1 + f) (extend_by f (entered x s k) a (k + 1))) →
        Longer x a k (k + suc f) (cond b (extend_by f (entered x s k) a (k + 1)) (x, k))
    go false e r = record { indexed = i; least = omega arith; most = omega arith; long = refl }
    go true e r = let m = r (ltb-true s (slots x) e) in record { indexed = m.indexed; least = omega (arith, m.least); most = omega (arith, m.most); long = m.long ∙ length_same x s k }

pub longer : {x a : List ℕ} {k : ℕ} (n : ℕ) → Indexed x a k → k ≤ n → n < 2 ^ 32 → Longer x a k n (extended x a k n)
unfolding extended
longer {x} {a} {k} n i l h = let e : k + (n - k) ≡ n = omega arith in subst (λ (m : ℕ). Longer x a k m (extend_by (n - k) x a k)) e (longer_by (n - k) i (omega arith))

-- ---- the index of no nodes, and of nodes that stay where they are

pub indexed_none : {x : List ℕ} (a : List ℕ) → ((s : ℕ) → slot_at x s ≡ 0) → Indexed x a 0
indexed_none a z = record { few = λ s. rw (z s) (omega arith); led = λ k h. absurd (omega arith) }

pub zero_slots : (n s : ℕ) → slot_at (replicate n 0) s ≡ 0
unfolding slot_at
zero_slots n s = field_zeros 4 n (4 * s)

pub indexed_same : {x a b : List ℕ} {m : ℕ} → ((k : ℕ) → k < m → (node_at b k).feet ≡ (node_at a k).feet) → Indexed x a m → Indexed x b m
indexed_same {x} {a} {b} h i = record { few = i.few; led = λ k l. (let e = h k l in rw e (i.led k l)) }
