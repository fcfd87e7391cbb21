-- The loops of the code, turn by turn.
use Rattle.std.specs.Prelude.{◌≡◌, ℕ, zero, suc, ◌+◌, ◌-◌, ◌%◌, ◌^◌, ◌<◌, ◌≤◌, Bool, true, false, ◌||◌, List, ◌==◌, nat_lt, refl}
use Rattle.std.proofs.Common.{arith, ltb-true}
use Rattle.std.proofs.lemmas.Nat.{and_le_r, and_mask}
use Rattle.exploration.proofs.Laws.Lists.{true_false}
use Rattle.rooms.specs.declared.Feet.{Feet}
use Rattle.rooms.specs.Records.{node_at}
use Rattle.rooms.specs.Scans.{is_at}
use Rattle.index.specs.Index.{hash_of, home, slots, slot_at, next_slot, probe_from, free_from, free_for, entered, extend_by}

-- ---- slots

pub home_less : (n : ℕ) (p : Feet) → 0 < n → home n p < n
unfolding home
home_less n p h = omega (arith, and_le_r (hash_of p) (n - 1), h)

pub home_remainder : (k : ℕ) (p : Feet) → home (2 ^ k) p ≡ hash_of p % 2 ^ k
unfolding home
home_remainder k p = and_mask (hash_of p) k

pub next_slot_less : (n s : ℕ) → s < n → next_slot n s < n
unfolding next_slot
next_slot_less n s h = go (nat_lt (s + 1) n) refl
  where
    go : (b : Bool) → nat_lt (s + 1) n ≡ b → next_slot n s < n
    go true e = rw e (ltb-true (s + 1) n e)
    go false e = rw e (omega arith)

-- ---- a turn of a lookup

-- a slot that does not end it has a node's number plus 1
pub some_node : (m e : ℕ) → (e == 0 || nat_lt m e) ≡ false → 1 ≤ e
some_node m zero t = absurd (true_false refl t)
some_node m (suc e) t = omega arith

module _ (x a : List ℕ) (m : ℕ) (q : Feet) (s e : ℕ) (o : e ≡ slot_at x s) where
  pub probe_stops : (f : ℕ) → 0 < f → (e == 0 || nat_lt m e) ≡ true → probe_from x a m q f s ≡ m
  probe_stops zero h t = absurd (omega arith)
  probe_stops (suc f) h t = rw (← o, t)

  pub probe_finds : (f : ℕ) → 0 < f → (e == 0 || nat_lt m e) ≡ false → is_at a q (e - 1) ≡ true → probe_from x a m q f s ≡ e - 1
  probe_finds zero h t u = absurd (omega arith)
  probe_finds (suc f) h t u = rw (← o, t, u)

  pub probe_goes_on : (f : ℕ) → 0 < f → (e == 0 || nat_lt m e) ≡ false → is_at a q (e - 1) ≡ false → probe_from x a m q f s ≡ probe_from x a m q (f - 1) (next_slot (slots x) s)
  probe_goes_on zero h t u = absurd (omega arith)
  probe_goes_on (suc f) h t u = let d : suc f - 1 ≡ f = omega arith in rw (← o, t, u, d)

pub probe_ends : (x a : List ℕ) (m : ℕ) (q : Feet) (f s : ℕ) → f ≡ 0 → probe_from x a m q f s ≡ m
probe_ends x a m q f s e = rw e

-- ---- a turn towards a free slot

module _ (x : List ℕ) (s : ℕ) where
  pub free_here : (f : ℕ) → 0 < f → (slot_at x s == 0) ≡ true → free_from x f s ≡ s
  free_here zero h t = absurd (omega arith)
  free_here (suc f) h t = rw t

  pub free_goes_on : (f : ℕ) → 0 < f → (slot_at x s == 0) ≡ false → free_from x f s ≡ free_from x (f - 1) (next_slot (slots x) s)
  free_goes_on zero h t = absurd (omega arith)
  free_goes_on (suc f) h t = let d : suc f - 1 ≡ f = omega arith in rw (t, d)

pub free_ends : (x : List ℕ) (f s : ℕ) → f ≡ 0 → free_from x f s ≡ slots x
free_ends x f s e = rw e

-- ---- one node more

module _ (x a : List ℕ) (k s : ℕ) (o : s ≡ free_for x (node_at a k).feet) where
  pub extend_full : (f : ℕ) → 0 < f → nat_lt s (slots x) ≡ false → extend_by f x a k ≡ (x, k)
  extend_full zero h t = absurd (omega arith)
  extend_full (suc f) h t = rw (← o, t)

  pub extend_goes_on : (f : ℕ) → 0 < f → nat_lt s (slots x) ≡ true → extend_by f x a k ≡ extend_by (f - 1) (entered x s k) a (k + 1)
  extend_goes_on zero h t = absurd (omega arith)
  extend_goes_on (suc f) h t = let d : suc f - 1 ≡ f = omega arith in rw (← o, t, d)

pub extend_ends : (f : ℕ) (x a : List ℕ) (k : ℕ) → f ≡ 0 → extend_by f x a k ≡ (x, k)
extend_ends f x a k e = rw e
