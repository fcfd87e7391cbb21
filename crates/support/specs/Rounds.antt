-- How a loop decides a cover: it goes round while a round grows. Each round that grows leaves fewer intervals that end beyond what is covered, so no
-- more rounds grow than there are intervals.
use Prim.Native.Nat.{ℕ, zero, suc, ◌≤◌, ◌<◌}
use native.Mathlib.Omega.{arith}
use Rattle.std.specs.Prelude.{◌≡◌, Bool, ◌⊎◌, length, Float}
use Rattle.std.proofs.Math.Path.{refl, sym}
use Rattle.std.proofs.Common.{ap, ◌∙◌, inl, inr}
use Rattle.std.proofs.Math.Bool.{true, false, cond}
use mathlib.Core.List.{List, [], ◌∷◌, Memᴰ}
use Rattle.std.specs.Float.Ieee.{lt, le}
use Rattle.floats.specs.Floats.{larger}
use Rattle.floats.specs.Order.{false_true, lt_trans, lt_irrefl, lt_le, lt_right, le_left, not_lt, le_trans, le_not_lt}
use Rattle.support.specs.declared.Interval.{Interval}
use Rattle.support.specs.Cover.{joins, reach_one, round, rounds}

le_lt_trans : (x y z : Float) → le x y ≡ true → lt y z ≡ true → lt x z ≡ true
le_lt_trans x y z h k = go (lt x z) refl
  where
    go : (b : Bool) → lt x z ≡ b → b ≡ true
    go true e = refl
    go false e = false_true (sym (le_not_lt z y (le_trans z x y (not_lt x z (le_left x y h) (lt_right y z k) e) h)) ∙ k)

pub never : {X : Type 0} (c : Float) → lt c c ≡ true → X
never c h = false_true (sym (lt_irrefl c) ∙ h)

-- ---- one interval

-- it leaves what is covered, or covers it further, to its own end
pub data Reached (c : Float) (i : Interval) : Float → Type 0 where
  kept : Reached c i c
  taken : joins c i ≡ true → lt c i.end ≡ true → Reached c i i.end

pub reached : (c : Float) (i : Interval) → Reached c i (reach_one c i)
unfolding reach_one larger
reached c i = go (joins c i) refl (lt c i.end) refl
  where
    go : (s : Bool) → joins c i ≡ s → (t : Bool) → lt c i.end ≡ t → Reached c i (cond s (cond t i.end c) c)
    go false p t q = kept
    go true p false q = kept
    go true p true q = taken p q

-- ---- how many intervals end beyond c

unfoldable pub beyond : Float → List Interval → ℕ
beyond c [] = 0
beyond c (i ∷ is) = cond (lt c i.end) (suc (beyond c is)) (beyond c is)

pub beyond_some : (c : Float) (is : List Interval) → beyond c is ≤ length is
unfolding beyond
beyond_some c [] = omega arith
beyond_some c (i ∷ is) = go (lt c i.end) (beyond_some c is)
  where
    go : (b : Bool) → beyond c is ≤ length is → cond b (suc (beyond c is)) (beyond c is) ≤ suc (length is)
    go true h = omega arith
    go false h = omega arith

-- what is covered further leaves no more beyond
pub beyond_less : (c d : Float) → le c d ≡ true → (is : List Interval) → beyond d is ≤ beyond c is
unfolding beyond
beyond_less c d h [] = omega arith
beyond_less c d h (i ∷ is) = go (beyond_less c d h is) (lt d i.end) refl (lt c i.end) refl
  where
    go : beyond d is ≤ beyond c is → (s : Bool) → lt d i.end ≡ s → (t : Bool) → lt c i.end ≡ t →
        cond s (suc (beyond d is)) (beyond d is) ≤ cond t (suc (beyond c is)) (beyond c is)
    go k true p true q = omega arith
    go k true p false q = false_true (sym q ∙ le_lt_trans c d i.end h p)
    go k false p true q = omega arith
    go k false p false q = k

module _ (c d : Float) (h : lt c d ≡ true) where
  beyond_fewer : (is : List Interval) (i : Interval) → Memᴰ i is → i.end ≡ d → beyond d is < beyond c is
  unfolding beyond
  beyond_fewer [] i m q = elim m [ ]
  beyond_fewer (j ∷ is) i (Memᴰ.head e) q =
      let z : j.end ≡ d = sym (ap (λ (k : Interval). k.end) e) ∙ q in
      rw (z, lt_irrefl d, h) (omega (arith, beyond_less c d (lt_le c d h) is))
  beyond_fewer (j ∷ is) i (Memᴰ.tail m) q = go (beyond_fewer is i m q) (lt d j.end) refl (lt c j.end) refl
    where
      go : beyond d is < beyond c is → (s : Bool) → lt d j.end ≡ s → (t : Bool) → lt c j.end ≡ t →
          cond s (suc (beyond d is)) (beyond d is) < cond t (suc (beyond c is)) (beyond c is)
      go k true p true r = omega arith
      go k true p false r = false_true (sym r ∙ lt_trans c d j.end h p)
      go k false p true r = omega arith
      go k false p false r = k

-- ---- a round leaves what is covered, or covers it further, to the end of one of the intervals

pub data Rounded (c : Float) (is : List Interval) : Float → Type 0 where
  same : Rounded c is c
  grown : {i : Interval} {d : Float} → Memᴰ i is → i.end ≡ d → lt c d ≡ true → Rounded c is d

later : {c d : Float} {is : List Interval} (i : Interval) → Rounded c is d → Rounded c (i ∷ is) d
later i same = same
later i (grown m e h) = grown (Memᴰ.tail m) e h

after : {c d : Float} {is : List Interval} (i : Interval) → lt c i.end ≡ true → Rounded i.end is d → Rounded c (i ∷ is) d
after i h same = grown (Memᴰ.head refl) refl h
after {c} {d} i h (grown m e k) = grown (Memᴰ.tail m) e (lt_trans c i.end d h k)

pub rounded : (c : Float) (is : List Interval) → Rounded c is (round c is)
unfolding round
rounded c [] = same
rounded c (i ∷ is) = go (reached c i) (rounded (reach_one c i) is)
  where
    go : {d e : Float} → Reached c i d → Rounded d is e → Rounded c (i ∷ is) e
    go kept r = later i r
    go (taken p q) r = after i q r

-- the same, by what is left beyond
abbrev Turned : Float → List Interval → Float → Type 0
Turned c is d = (d ≡ c) ⊎ ((lt c d ≡ true) × (beyond d is < beyond c is))

turned : (c : Float) (is : List Interval) → Turned c is (round c is)
turned c is = go (rounded c is)
  where
    go : {d : Float} → Rounded c is d → Turned c is d
    go same = inl refl
    go {d} (grown {i} m e h) = inr (h, beyond_fewer c d h is i m e)

-- ---- rounds

module _ (is : List Interval) where
  settled : (c : Float) → round c is ≡ c → (n : ℕ) → rounds n c is ≡ c
  unfolding rounds
  settled c e zero = refl
  settled c e (suc n) = rw e (settled c e n)

  -- as many as there are intervals beyond are enough: more do not change anything
  pub many : (n m : ℕ) (c : Float) → beyond c is ≤ n → beyond c is ≤ m → rounds n c is ≡ rounds m c is
  unfolding rounds
  many zero m c h k = go (turned c is)
    where
      go : Turned c is (round c is) → c ≡ rounds m c is
      go (inl e) = sym (settled c e m)
      go (inr g) = absurd (omega (arith, g.1))
  many (suc n) zero c h k = go (turned c is)
    where
      go : Turned c is (round c is) → rounds (suc n) c is ≡ c
      go (inl e) = settled c e (suc n)
      go (inr g) = absurd (omega (arith, g.1))
  many (suc n) (suc m) c h k = go (turned c is) (many n m (round c is))
    where
      go : Turned c is (round c is) → (beyond (round c is) is ≤ n → beyond (round c is) is ≤ m → rounds n (round c is) is ≡ rounds m (round c is) is) →
          rounds n (round c is) is ≡ rounds m (round c is) is
      go (inl e) f = settled c e (suc n) ∙ sym (settled c e (suc m))
      go (inr g) f = f (omega (arith, g.1)) (omega (arith, g.1))

  -- ---- what a loop goes by: each round that grows leaves fewer beyond, and one that does not leaves what is covered

  pub falls : (c : Float) → lt c (round c is) ≡ true → beyond (round c is) is < beyond c is
  falls c h = go (turned c is)
    where
      go : Turned c is (round c is) → beyond (round c is) is < beyond c is
      go (inl e) = never c (rw e at h)
      go (inr g) = g.1

  pub settles : (c : Float) → lt c (round c is) ≡ false → round c is ≡ c
  settles c k = go (turned c is)
    where
      go : Turned c is (round c is) → round c is ≡ c
      go (inl e) = e
      go (inr g) = false_true (sym k ∙ g.0)
