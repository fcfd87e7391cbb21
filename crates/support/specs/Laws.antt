-- The cover theorem: `covers` says yes exactly where the intervals cover 0 to 1 by 01's sentence. It holds of all lists, also with NaNs: an interval that
-- begins or ends at a NaN joins nothing, or covers nothing further.
use Prim.Native.Nat.{ℕ, zero, suc}
use Rattle.std.proofs.Common.{arith, sym, ◌∙◌}
use Rattle.std.specs.Prelude.{◌≡◌, Bool, cond, length, Float}
use Rattle.std.proofs.Math.Path.{refl}
use Rattle.std.proofs.Math.Bool.{true, false}
use mathlib.Core.List.{List, [], ◌∷◌, Memᴰ}
use Rattle.std.specs.Float.Ieee.{binary64, is_nan, lt, le, add, of_bits}
use Rattle.floats.specs.Floats.{E, nought, larger}
use Rattle.floats.specs.Order.{lt_trans, le_trans, lt_le, lt_right, le_right, le_refl, not_lt}
use Rattle.floats.specs.Sums.{within_grows}
use Rattle.support.specs.declared.Interval.{Interval}
use Rattle.support.specs.Cover.{joins, enough, CoversTo, nothing, joint, Covers, reach_one, round, rounds, covers}
use Rattle.support.specs.Rounds.{never, Reached, kept, taken, reached, Rounded, same, grown, rounded, beyond_some, many}

-- ---- what rounds reach is covered

one_covers : {is : List Interval} {c : Float} (i : Interval) → Memᴰ i is → CoversTo is c → CoversTo is (reach_one c i)
unfolding reach_one
one_covers {is} {c} i m h = go (joins c i) refl
  where
    go : (b : Bool) → joins c i ≡ b → CoversTo is (cond b (larger i.end c) c)
    go true e = joint h m e
    go false e = h

pub round_covers : (is js : List Interval) (c : Float) → ((i : Interval) → Memᴰ i js → Memᴰ i is) → CoversTo is c → CoversTo is (round c js)
unfolding round
round_covers is [] c f h = h
round_covers is (j ∷ js) c f h = round_covers is js (reach_one c j) (λ i m. f i (Memᴰ.tail m)) (one_covers j (f j (Memᴰ.head refl)) h)

rounds_cover : (n : ℕ) (is : List Interval) (c : Float) → CoversTo is c → CoversTo is (rounds n c is)
unfolding rounds
rounds_cover zero is c h = h
rounds_cover (suc n) is c h = rounds_cover n is (round c is) (round_covers is is c (λ i m. m) h)

pub covers_sound : (is : List Interval) → covers is ≡ true → Covers is
unfolding covers
covers_sound is h = (rounds (length is) nought is, rounds_cover (length is) is nought nothing, h)

-- ---- where a round changes nothing, no interval does

first_kept : (c : Float) (j : Interval) (is : List Interval) → round (reach_one c j) is ≡ c → reach_one c j ≡ c
first_kept c j is e = go (reached c j) (rounded (reach_one c j) is) e
  where
    back : {x : Float} → lt c j.end ≡ true → Rounded j.end is x → x ≡ c → j.end ≡ c
    back q same e = e
    back {x} q (grown m z h) e = never c (lt_trans c j.end c q (rw e at h))

    go : {d x : Float} → Reached c j d → Rounded d is x → x ≡ c → d ≡ c
    go kept r e = refl
    go (taken p q) r e = back q r e

all_kept : (is : List Interval) (c : Float) → round c is ≡ c → (i : Interval) → Memᴰ i is → reach_one c i ≡ c
unfolding round
all_kept [] c e i m = elim m [ ]
all_kept (j ∷ is) c e i (Memᴰ.head z) = rw z (first_kept c j is e)
all_kept (j ∷ is) c e i (Memᴰ.tail m) = all_kept is c (rw (first_kept c j is e) at e) i m

ends_within : (c : Float) (i : Interval) → reach_one c i ≡ c → joins c i ≡ true → lt c i.end ≡ false
unfolding reach_one larger
ends_within c i e p = go (lt c i.end) refl
  where
    go : (b : Bool) → lt c i.end ≡ b → b ≡ false
    go false q = refl
    go true q = let z : i.end ≡ c = rw (p, q) at e in never c (rw z at q)

-- ---- what is covered is reached by rounds

pub not_below : {is : List Interval} {c : Float} → CoversTo is c → le nought c ≡ true
unfolding larger
not_below nothing = le_refl nought (unfold is_nan of_bits in refl)
not_below (joint {c} {i} h m p) = go (not_below h) (lt c i.end) refl
  where
    go : le nought c ≡ true → (b : Bool) → lt c i.end ≡ b → le nought (cond b i.end c) ≡ true
    go a true q = le_trans nought c i.end a (lt_le c i.end q)
    go a false q = a

module _ (is : List Interval) (l : Float) (fixed : round l is ≡ l) (low : le nought l ≡ true) where
  pub within : {c : Float} → CoversTo is c → le c l ≡ true
  unfolding larger joins
  within nothing = low
  within (joint {c} {i} h m p) = go (within h) (lt c i.end) refl
    where
      go : le c l ≡ true → (b : Bool) → lt c i.end ≡ b → le (cond b i.end c) l ≡ true
      go a false q = a
      go a true q =
          let j : joins l i ≡ true = le_trans i.begin (add binary64 c E) (add binary64 l E) p (within_grows c l (not_below h) a) in
          not_lt l i.end (le_right nought l low) (lt_right c i.end q) (ends_within l i (all_kept is l fixed i m) j)

module _ (is : List Interval) where
  last_round : (n : ℕ) (c : Float) → rounds (suc n) c is ≡ round (rounds n c is) is
  unfolding rounds
  last_round zero c = refl
  last_round (suc n) c = last_round n (round c is)

  settled : round (rounds (length is) nought is) is ≡ rounds (length is) nought is
  settled = sym (last_round (length is) nought) ∙ many is (suc (length is)) (length is) nought (omega (arith, beyond_some nought is)) (beyond_some nought is)

  pub covers_complete : Covers is → covers is ≡ true
  unfolding covers enough
  covers_complete x =
      le_trans _ x.0 (rounds (length is) nought is) x.2
      (within is (rounds (length is) nought is) settled (not_below (rounds_cover (length is) is nought nothing)) x.1)
