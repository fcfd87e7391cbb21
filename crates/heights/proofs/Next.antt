-- The heights one after the other: the next one is the first of the sorted tops that is not within E of the last kept.
use Rattle.std.specs.Prelude.{Option, Some, None, ℕ, zero, suc, refl, Bool, true, false, not, cond, Float}
use Rattle.std.proofs.Math.Path.{◌≡◌}
use Rattle.std.proofs.Common.{sym, ◌∙◌, subst, arith, List, [], ◌∷◌, ◌++◌}
use Rattle.std.specs.Float.Ieee.{le, is_nan}
use Rattle.floats.specs.Order.{le_refl, le_trans, lt_le, not_le}
use Rattle.regions.specs.Ranges.{gather}
use Rattle.heights.specs.Heights.{insert, sorted, within, thinned, thinned_after, kept_after, first_of}
use Rattle.heights.specs.Lowest.{beyond}

-- ---- numbers only

abbrev pub Numbers : List Float → Type 0
Numbers [] = Unit {0}
Numbers (t ∷ ts) = (is_nan t ≡ false) × Numbers ts

pub numbers_append : (ts us : List Float) → Numbers ts → Numbers us → Numbers (ts ++ us)
numbers_append [] us p q = q
numbers_append (t ∷ ts) us p q = (p.0, numbers_append ts us p.1 q)

pub numbers_gather : (f : ℕ → List Float) → ((k : ℕ) → Numbers (f k)) → (k n : ℕ) → Numbers (gather f k n)
unfolding gather
numbers_gather f h k zero = tt
numbers_gather f h k (suc n) = numbers_append (f k) (gather f (suc k) n) (h k) (numbers_gather f h (suc k) n)

-- t is at most each
abbrev pub Least : Float → List Float → Type 0
Least t [] = Unit {0}
Least t (u ∷ us) = (le t u ≡ true) × Least t us

abbrev pub Upward : List Float → Type 0
Upward [] = Unit {0}
Upward (t ∷ ts) = (is_nan t ≡ false) × Least t ts × Upward ts

least_trans : (t u : Float) (us : List Float) → le t u ≡ true → Least u us → Least t us
least_trans t u [] h l = tt
least_trans t u (v ∷ us) h l = (le_trans t u v h l.0, least_trans t u us h l.1)

least_insert : (t u : Float) (us : List Float) → le u t ≡ true → Least u us → Least u (insert t us)
unfolding insert
least_insert t u [] h l = (h, tt)
least_insert t u (v ∷ us) h l = go (le t v) (least_insert t u us h l.1)
  where
    go : (b : Bool) → Least u (insert t us) → Least u (cond b (t ∷ (v ∷ us)) (v ∷ insert t us))
    go true r = (h, l)
    go false r = (l.0, r)

upward_insert : (t : Float) (us : List Float) → is_nan t ≡ false → Upward us → Upward (insert t us)
unfolding insert
upward_insert t [] n p = (n, tt, tt)
upward_insert t (u ∷ us) n p = go (le t u) refl (upward_insert t us n p.2)
  where
    go : (b : Bool) → le t u ≡ b → Upward (insert t us) → Upward (cond b (t ∷ (u ∷ us)) (u ∷ insert t us))
    go true e r = (n, (e, least_trans t u us e p.1), p)
    go false e r = (p.0, least_insert t u us (lt_le u t (not_le t u n p.0 e)) p.1, r)

pub upward_sorted : (ts : List Float) → Numbers ts → Upward (sorted ts)
unfolding sorted
upward_sorted [] n = tt
upward_sorted (t ∷ ts) n = upward_insert t (sorted ts) n.0 (upward_sorted ts n.1)

pub upward_numbers : (ts : List Float) → Upward ts → Numbers ts
upward_numbers [] h = tt
upward_numbers (t ∷ ts) h = (h.0, upward_numbers ts h.2)

-- ---- the first of a sorted list that is not within E of the last kept

abbrev pub first_beyond : Option Float → List Float → Option Float
first_beyond after [] = None
first_beyond after (t ∷ ts) = cond (beyond after t) (Some t) (first_beyond after ts)

first_thinned : (kept : Float) (ts : List Float) → first_of (thinned_after kept ts) ≡ first_beyond (Some kept) ts
unfolding thinned_after beyond
first_thinned kept [] = refl
first_thinned kept (t ∷ ts) = pick (within kept t) (first_thinned kept ts)
  where
    pick : (b : Bool) → first_of (thinned_after kept ts) ≡ first_beyond (Some kept) ts →
        first_of (cond b (thinned_after kept ts) (t ∷ thinned_after t ts)) ≡ cond (not b) (Some t) (first_beyond (Some kept) ts)
    pick true r = r
    pick false r = refl

pub first_kept : (after : Option Float) (ts : List Float) → first_of (kept_after after ts) ≡ first_beyond after ts
unfolding kept_after thinned beyond
first_kept None [] = refl
first_kept None (t ∷ ts) = refl
first_kept (Some kept) ts = first_thinned kept ts

-- a height that is no NaN
abbrev pub Number : Option Float → Type 0
Number None = Unit {0}
Number (Some t) = is_nan t ≡ false

pub number_first : (after : Option Float) (ts : List Float) → Upward ts → Number (first_beyond after ts)
number_first after [] p = tt
number_first after (t ∷ ts) p = pick (beyond after t) (number_first after ts p.2)
  where
    pick : (b : Bool) → Number (first_beyond after ts) → Number (cond b (Some t) (first_beyond after ts))
    pick true r = p.0
    pick false r = r

-- ---- for a caller: the heights one after the other

pub within_self : (h t : Float) → le t h ≡ true → within h t ≡ true
unfolding within
within_self h t e = rw e

at_most_first : (t : Float) (after : Option Float) (us : List Float) (h : Float) → Least t us → first_beyond after us ≡ Some h → le t h ≡ true
at_most_first t after [] h l e = absurd (let z : ◌≡◌ {A = ℕ} 0 1 = cc in omega arith)
at_most_first t after (u ∷ us) h l e = pick (beyond after u) e (at_most_first t after us h l.1)
  where
    pick : (b : Bool) → cond b (Some u) (first_beyond after us) ≡ Some h → (first_beyond after us ≡ Some h → le t h ≡ true) → le t h ≡ true
    pick true q r = let s : u ≡ h = cc in subst (λ (x : Float). le t x ≡ true) s l.0
    pick false q r = r q

thinned_again : (kept : Float) (ts : List Float) (h : Float) → Upward ts → first_beyond (Some kept) ts ≡ Some h → thinned_after kept ts ≡ h ∷ thinned_after h ts
unfolding thinned_after beyond
thinned_again kept [] h p e = absurd (let z : ◌≡◌ {A = ℕ} 0 1 = cc in omega arith)
thinned_again kept (t ∷ ts) h p e = pick (within kept t) e (thinned_again kept ts h p.2) (at_most_first t (Some kept) ts h p.1)
  where
    pick : (b : Bool) → cond (not b) (Some t) (first_beyond (Some kept) ts) ≡ Some h →
        (first_beyond (Some kept) ts ≡ Some h → thinned_after kept ts ≡ h ∷ thinned_after h ts) → (first_beyond (Some kept) ts ≡ Some h → le t h ≡ true) →
        cond b (thinned_after kept ts) (t ∷ thinned_after t ts) ≡ h ∷ cond (within h t) (thinned_after h ts) (t ∷ thinned_after t ts)
    pick true q r l = rw (within_self h t (l q)) (r q)
    pick false q r l = let s : t ≡ h = cc in rw (← s, within_self t t (le_refl t p.0))

module _ (ts : List Float) (n : Numbers ts) where
  pub kept_end : (after : Option Float) → first_of (kept_after after (sorted ts)) ≡ None → kept_after after (sorted ts) ≡ []
  kept_end after e = go (kept_after after (sorted ts)) e
    where
      go : (us : List Float) → first_of us ≡ None → us ≡ []
      go [] e = refl
      go (u ∷ us) e = absurd (let z : ◌≡◌ {A = ℕ} 0 1 = cc in omega arith)

  pub kept_next : (after : Option Float) (h : Float) → first_of (kept_after after (sorted ts)) ≡ Some h →
      kept_after after (sorted ts) ≡ h ∷ kept_after (Some h) (sorted ts)
  unfolding kept_after thinned thinned_after
  kept_next (Some kept) h e = thinned_again kept (sorted ts) h (upward_sorted ts n) (sym (first_kept (Some kept) (sorted ts)) ∙ e)
  kept_next None h e = go (sorted ts) (upward_sorted ts n) e
    where
      go : (us : List Float) → Upward us → first_of (thinned us) ≡ Some h → thinned us ≡ h ∷ thinned_after h us
      go [] p e = absurd (let z : ◌≡◌ {A = ℕ} 0 1 = cc in omega arith)
      go (u ∷ us) p e = let s : u ≡ h = cc in rw (← s, within_self u u (le_refl u p.0))
