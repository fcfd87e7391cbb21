-- A top put in its place among the lowest of a room, turn by turn; and that so, of a column's tops in any order, the room has the lowest.
use Rattle.std.specs.Prelude.{min, Option, ℕ, zero, suc, ◌+◌, ◌-◌, ◌≤◌, ◌<◌, refl, Bool, true, false, cond, ltb, get_or, drop, set}
use Rattle.std.proofs.Common.{arith, add-one, sym, ◌∙◌, ltb-true, ltb-false, lt-ltb, take-append-drop, length-append, length-drop, drop-cons, take-suc, get_or-append-add, get_or-drop, length-take-le, take_at, take_all, drop-drop, List, [], ◌∷◌, ◌++◌, append-nil, append_assoc}
use Rattle.std.proofs.Math.Path.{◌≡◌, ap}
use mathlib.Core.List.{foldl}
use Rattle.std.proofs.Math.ListN.{length, take, length-take, get_or-append}
use Rattle.std.proofs.lemmas.List.{set_at, get_or_at, take-append-le, drop-append-le}
use Rattle.std.proofs.Math.Seq.{append_snoc, paste, take-append-add, drop-append_seam, drop-append-add, take-nil}
use Rattle.std.specs.Float.Ieee.{Float, lt, le, is_nan}
use Rattle.std.specs.Float.{nan}
use Rattle.floats.specs.Order.{false_true, le_trans, lt_le, lt_turned, not_lt, not_le, le_not_lt, lt_le_trans}
use Rattle.heights.specs.Heights.{insert, sorted}
use Rattle.heights.specs.Lowest.{beyond, beyonds, lowest, laid_over}
use Rattle.heights.proofs.Next.{Numbers, Least, Upward, upward_sorted, upward_numbers, numbers_append}
use Rattle.heights.specs.Put.{place_of, one_more, put_before, with_front, put, taken}

-- ---- one top more

module _ (t : Float) (room : List Float) (k : ℕ) (h : 0 < k) where
  one_down : suc (k - 1) ≡ k
  one_down = omega arith

  pub place_down : lt t (get_or room (k - 1) nan) ≡ true → place_of t room k ≡ place_of t room (k - 1)
  place_down e = ap (place_of t room) (sym one_down) ∙ rw e

  pub place_stays : lt t (get_or room (k - 1) nan) ≡ false → place_of t room k ≡ k
  place_stays e = ap (place_of t room) (sym one_down) ∙ rw e one_down

pub place_first : (t : Float) (room : List Float) (k : ℕ) → k ≤ 0 → place_of t room k ≡ k
place_first t room zero h = refl
place_first t room (suc k) h = absurd (omega arith)

-- there are no fewer, and no more than the room has places
pub no_fewer : (n k : ℕ) → k ≤ one_more n k
no_fewer n k = go (ltb k n)
  where
    go : (b : Bool) → k ≤ cond b (k + 1) k
    go true = omega arith
    go false = omega arith

pub no_more : (n k : ℕ) → k ≤ n → one_more n k ≤ n
no_more n k h = go (ltb k n) refl
  where
    go : (b : Bool) → ltb k n ≡ b → cond b (k + 1) k ≤ n
    go true e = omega (arith, ltb-true k n e)
    go false e = h

-- how many there are then, as the smaller of two
pub fewer : (n k : ℕ) → k ≤ n → min n (k + 1) ≡ one_more n k
fewer n k h = go (ltb k n) refl
  where
    go : (b : Bool) → ltb k n ≡ b → min n (k + 1) ≡ cond b (k + 1) k
    go true e = omega (arith, ltb-true k n e)
    go false e = omega (arith, ltb-false k n e)

-- ---- those above it moved up by one, and it put before them

module _ (t : Float) (room : List Float) (p : ℕ) where
  goal_length : p ≤ length room → length (put_before p t room) ≡ length room + 1
  goal_length h = length-append (take p room) (t ∷ drop p room) ∙ (let a = length-take-le p room h in let b = length-drop p room in omega arith)

  -- where all the places are filled, and it is above all of them
  pub no_room : p ≤ length room → with_front p (put_before p t room) room ≡ room
  no_room h = ap (λ (l : List Float). l ++ drop p room) (take_at (take p room) (t ∷ drop p room) p (length-take-le p room h)) ∙ take-append-drop p room

  module _ (e : ℕ) (h : p < e) (l : e ≤ length room) where
    abbrev before : List Float
    before = take p room

    abbrev above : List Float
    above = take (e - 1 - p) (drop p room)

    pub moved_up : set (paste room (p + 1) (drop p room) (e - 1 - p)) p t ≡ with_front e (put_before p t room) room
    moved_up =
        let long : length before ≡ p = length-take-le p room (omega arith) in
        let end : p + 1 + (e - 1 - p) ≡ e = omega arith in
        let one : take (p + 1) room ≡ before ++ (get_or room p nan ∷ []) = rw add-one (take-suc room p nan (omega arith)) in
        let there : take (p + 1) room ++ above ++ drop (p + 1 + (e - 1 - p)) room ≡ before ++ (get_or room p nan ∷ (above ++ drop e room)) = rw (one, end) (simp append_assoc) in
        let width : e ≡ length before + suc (e - 1 - p) = omega arith in
        let front : take e (put_before p t room) ≡ before ++ (t ∷ above) = ap (λ (n : ℕ). take n (put_before p t room)) width ∙ take-append-add before (t ∷ drop p room) (suc (e - 1 - p)) in
        ap (λ (s : List Float). set s p t) there ∙ set_at before (get_or room p nan) (above ++ drop e room) t p long
        ∙ sym (ap (λ (s : List Float). s ++ drop e room) front ∙ append_assoc before (t ∷ above) (drop e room))

-- the same place after place: each of those above it takes what stood before it

module _ (t : Float) (room : List Float) (p : ℕ) (h : p ≤ length room) where
  abbrev goal : List Float
  goal = put_before p t room

  pub carry_begins : room ≡ with_front p goal room
  carry_begins = sym (ap (λ (l : List Float). l ++ drop p room) (take_at (take p room) (t ∷ drop p room) p (length-take-le p room h)) ∙ take-append-drop p room)

  pub carried_first : t ≡ get_or goal p nan
  carried_first = sym (get_or_at (take p room) t (drop p room) nan p (length-take-le p room h))

  module _ (i : ℕ) (l : p ≤ i) (m : i < length room) where
    front : length (take i goal) ≡ i
    front = length-take-le i goal (omega (arith, goal_length t room p h))

    parts : with_front i goal room ≡ take i goal ++ (get_or room i nan ∷ drop (suc i) room)
    parts = ap (λ (x : List Float). take i goal ++ x) (drop-cons room i nan m)

    pub carry_on : set (with_front i goal room) i (get_or goal i nan) ≡ with_front (i + 1) goal room
    carry_on =
        ap (λ (x : List Float). set x i (get_or goal i nan)) parts ∙ set_at (take i goal) (get_or room i nan) (drop (suc i) room) (get_or goal i nan) i front
        ∙ sym (append_snoc (take i goal) (get_or goal i nan) (drop (suc i) room))
        ∙ ap (λ (x : List Float). x ++ drop (suc i) room) (sym (take-suc goal i nan (omega (arith, goal_length t room p h)))) ∙ rw add-one

    pub carried_on : get_or (with_front i goal room) i nan ≡ get_or goal (i + 1) nan
    carried_on =
        let n : i + 1 ≡ length (take p room) + suc (i - p) = omega (arith, length-take-le p room h) in
        let z : p + (i - p) ≡ i = omega arith in
        ap (λ (x : List Float). get_or x i nan) parts ∙ get_or_at (take i goal) (get_or room i nan) (drop (suc i) room) nan i front
        ∙ sym (ap (λ (k : ℕ). get_or goal k nan) n ∙ get_or-append-add (take p room) (t ∷ drop p room) (suc (i - p)) nan ∙ get_or-drop p room (i - p) nan ∙ ap (λ (k : ℕ). get_or room k nan) z)

no_two : {X : Type 0} {b : Bool} → b ≡ true → b ≡ false → X
no_two e f = false_true (sym f ∙ e)

-- ---- sorted from the other end: the next top goes behind those that are not above it

abbrev insert_after : Float → List Float → List Float
insert_after t [] = t ∷ []
insert_after t (u ∷ us) = cond (lt t u) (t ∷ (u ∷ us)) (u ∷ insert_after t us)

inserts_commute : (s t : Float) (us : List Float) → is_nan s ≡ false → is_nan t ≡ false → Numbers us → insert s (insert_after t us) ≡ insert_after t (insert s us)
unfolding insert
inserts_commute s t [] p q n = go (le s t) refl
  where
    go : (b : Bool) → le s t ≡ b → cond b (s ∷ (t ∷ [])) (t ∷ (s ∷ [])) ≡ cond (lt t s) (t ∷ (s ∷ [])) (s ∷ (t ∷ []))
    go true e = rw (lt_turned t s q p, e)
    go false e = rw (lt_turned t s q p, e)
inserts_commute s t (u ∷ us) p q n = go (lt t u) refl (le s u) refl (le s t) refl (inserts_commute s t us p q n.1)
  where
    go : (a : Bool) → lt t u ≡ a → (b : Bool) → le s u ≡ b → (c : Bool) → le s t ≡ c → insert s (insert_after t us) ≡ insert_after t (insert s us) →
        insert s (cond a (t ∷ (u ∷ us)) (u ∷ insert_after t us)) ≡ insert_after t (cond b (s ∷ (u ∷ us)) (u ∷ insert s us))
    go true x true y true z r = rw (z, le_not_lt s t z, x)
    go true x true y false z r = rw (z, y, not_le s t p q z)
    go true x false y true z r = no_two (le_trans s t u z (lt_le t u x)) y
    go true x false y false z r = rw (z, y, x)
    go false x true y true z r = rw (y, le_not_lt s t z, x)
    go false x true y false z r = no_two (le_trans s u t y (not_lt t u q n.0 x)) z
    go false x false y c z r = rw (y, x, r)

pub sorted_snoc : (ts : List Float) (t : Float) → Numbers ts → is_nan t ≡ false → sorted (ts ++ (t ∷ [])) ≡ insert_after t (sorted ts)
unfolding sorted insert
sorted_snoc [] t n q = refl
sorted_snoc (s ∷ ts) t n q = ap (insert s) (sorted_snoc ts t n.1 q) ∙ inserts_commute s t (sorted ts) n.0 q (upward_numbers (sorted ts) (upward_sorted ts n.1))

-- ---- of those beyond the last kept

abbrev Above : Float → List Float → Type 0
Above t [] = Unit {0}
Above t (u ∷ us) = (lt t u ≡ true) × Above t us

above_least : (t u : Float) (us : List Float) → lt t u ≡ true → Least u us → Above t us
above_least t u [] h l = tt
above_least t u (v ∷ us) h l = (lt_le_trans t u v h l.0, above_least t u us h l.1)

module _ (after : Option Float) where
  in_front : (t : Float) (us : List Float) → Above t us → insert_after t (beyonds after us) ≡ t ∷ beyonds after us
  in_front t [] h = refl
  in_front t (u ∷ us) h = go (beyond after u) (in_front t us h.1)
    where
      go : (b : Bool) → insert_after t (beyonds after us) ≡ t ∷ beyonds after us → insert_after t (cond b (u ∷ beyonds after us) (beyonds after us)) ≡ t ∷ cond b (u ∷ beyonds after us) (beyonds after us)
      go true r = rw h.0
      go false r = r

  beyonds_insert : (t : Float) (us : List Float) → Upward us → beyonds after (insert_after t us) ≡ cond (beyond after t) (insert_after t (beyonds after us)) (beyonds after us)
  beyonds_insert t [] h = refl
  beyonds_insert t (u ∷ us) h = go (lt t u) refl (beyond after t) refl (beyond after u) refl (beyonds_insert t us h.2) (λ x. in_front t us (above_least t u us x h.1))
    where
      go : (a : Bool) → lt t u ≡ a → (b : Bool) → beyond after t ≡ b → (c : Bool) → beyond after u ≡ c → beyonds after (insert_after t us) ≡ cond (beyond after t) (insert_after t (beyonds after us)) (beyonds after us) →
          (lt t u ≡ true → insert_after t (beyonds after us) ≡ t ∷ beyonds after us) →
          beyonds after (cond a (t ∷ (u ∷ us)) (u ∷ insert_after t us)) ≡ cond b (insert_after t (cond c (u ∷ beyonds after us) (beyonds after us))) (cond c (u ∷ beyonds after us) (beyonds after us))
      go true x true y true z r f = rw (y, z, x)
      go true x true y false z r f = rw (y, z, f x)
      go true x false y true z r f = rw (y, z)
      go true x false y false z r f = rw (y, z)
      go false x true y true z r f = rw (z, x, r, y)
      go false x true y false z r f = rw (z, r, y)
      go false x false y true z r f = rw (z, r, y)
      go false x false y false z r f = rw (z, r, y)

-- ---- so many of them

take_insert : (n : ℕ) (t : Float) (us : List Float) → take n (insert_after t (take n us)) ≡ take n (insert_after t us)
take_insert zero t us = refl
take_insert (suc n) t [] = refl
take_insert (suc n) t (u ∷ us) = go (lt t u) (take_insert n t us)
  where
    go : (b : Bool) → take n (insert_after t (take n us)) ≡ take n (insert_after t us) → take (suc n) (cond b (t ∷ (u ∷ take n us)) (u ∷ insert_after t (take n us))) ≡ take (suc n) (cond b (t ∷ (u ∷ us)) (u ∷ insert_after t us))
    go true r = ap (λ (l : List Float). t ∷ l) (again n u us)
      where
        again : (n : ℕ) (u : Float) (us : List Float) → take n (u ∷ take n us) ≡ take n (u ∷ us)
        again zero u us = refl
        again (suc n) u us = ap (λ (l : List Float). u ∷ l) (shorter n us)
          where
            shorter : (n : ℕ) (us : List Float) → take n (take (suc n) us) ≡ take n us
            shorter zero us = refl
            shorter (suc n) [] = refl
            shorter (suc n) (v ∷ us) = ap (λ (l : List Float). v ∷ l) (shorter n us)
    go false r = ap (λ (l : List Float). u ∷ l) r

upward_take : (n : ℕ) (us : List Float) → Upward us → Upward (take n us)
upward_take zero us h = tt
upward_take (suc n) [] h = tt
upward_take (suc n) (u ∷ us) h = (h.0, least_take n u us h.1, upward_take n us h.2)
  where
    least_take : (n : ℕ) (t : Float) (us : List Float) → Least t us → Least t (take n us)
    least_take zero t us h = tt
    least_take (suc n) t [] h = tt
    least_take (suc n) t (u ∷ us) h = (h.0, least_take n t us h.1)

upward_beyonds : (after : Option Float) (us : List Float) → Upward us → Upward (beyonds after us)
upward_beyonds after [] h = tt
upward_beyonds after (u ∷ us) h = go (beyond after u) (upward_beyonds after us h.2)
  where
    least_beyonds : (t : Float) (us : List Float) → Least t us → Least t (beyonds after us)
    least_beyonds t [] h = tt
    least_beyonds t (u ∷ us) h = pick (beyond after u) (least_beyonds t us h.1)
      where
        pick : (b : Bool) → Least t (beyonds after us) → Least t (cond b (u ∷ beyonds after us) (beyonds after us))
        pick true r = (h.0, r)
        pick false r = r

    go : (b : Bool) → Upward (beyonds after us) → Upward (cond b (u ∷ beyonds after us) (beyonds after us))
    go true r = (h.0, least_beyonds u us h.1, r)
    go false r = r

lowest_snoc : (n : ℕ) (after : Option Float) (ts : List Float) (t : Float) → Numbers ts → is_nan t ≡ false →
    lowest n after (ts ++ (t ∷ [])) ≡ cond (beyond after t) (take n (insert_after t (lowest n after ts))) (lowest n after ts)
unfolding lowest
lowest_snoc n after ts t p q = ap (λ (l : List Float). take n (beyonds after l)) (sorted_snoc ts t p q) ∙ ap (take n) (beyonds_insert after t (sorted ts) (upward_sorted ts p)) ∙ go (beyond after t)
  where
    go : (b : Bool) → take n (cond b (insert_after t (beyonds after (sorted ts))) (beyonds after (sorted ts))) ≡ cond b (take n (insert_after t (take n (beyonds after (sorted ts))))) (take n (beyonds after (sorted ts)))
    go true = sym (take_insert n t (beyonds after (sorted ts)))
    go false = refl

-- ---- the place sought from behind is that place

place_cons : (t u : Float) (us : List Float) (k : ℕ) → place_of t (u ∷ us) (suc k) ≡ cond (ltb 0 (place_of t us k)) (suc (place_of t us k)) (cond (lt t u) 0 1)
place_cons t u us zero = refl
place_cons t u us (suc k) = go (lt t (get_or us k nan)) (place_cons t u us k)
  where
    go : (b : Bool) → place_of t (u ∷ us) (suc k) ≡ cond (ltb 0 (place_of t us k)) (suc (place_of t us k)) (cond (lt t u) 0 1) →
        cond b (place_of t (u ∷ us) (suc k)) (suc (suc k)) ≡ cond (ltb 0 (cond b (place_of t us k) (suc k))) (suc (cond b (place_of t us k) (suc k))) (cond (lt t u) 0 1)
    go true r = r
    go false r = rw (lt-ltb 0 (suc k) (omega arith))

place_front : (t : Float) (us : List Float) (k : ℕ) → k ≤ length us → Above t us → place_of t us k ≡ 0
place_front t us zero h a = refl
place_front t us (suc k) h a = rw (above_at us k (omega arith) a) (place_front t us k (omega arith) a)
  where
    above_at : (us : List Float) (k : ℕ) → k < length us → Above t us → lt t (get_or us k nan) ≡ true
    above_at [] k h a = absurd (omega arith)
    above_at (u ∷ us) zero h a = a.0
    above_at (u ∷ us) (suc k) h a = above_at us k (omega arith) a.1

put_inserts : (t : Float) (us : List Float) → Upward us → put_before (place_of t us (length us)) t us ≡ insert_after t us
put_inserts t [] h = refl
put_inserts t (u ∷ us) h = rw (place_cons t u us (length us)) (go (lt t u) refl (ltb 0 (place_of t us (length us))) refl (put_inserts t us h.2))
  where
    p : ℕ
    p = place_of t us (length us)

    go : (a : Bool) → lt t u ≡ a → (b : Bool) → ltb 0 p ≡ b → put_before p t us ≡ insert_after t us →
        put_before (cond b (suc p) (cond a 0 1)) t (u ∷ us) ≡ cond a (t ∷ (u ∷ us)) (u ∷ insert_after t us)
    go true x true y r = absurd (omega (arith, ltb-true 0 p y, place_front t us (length us) (omega arith) (above_least t u us x h.1)))
    go true x false y r = refl
    go false x true y r = ap (λ (l : List Float). u ∷ l) r
    go false x false y r = ap (λ (l : List Float). u ∷ l) ((let z : p ≡ 0 = omega (arith, ltb-false 0 p y) in ap (λ (i : ℕ). put_before i t us) (sym z)) ∙ r)

-- ---- in a room

pub place_le : (t : Float) (room : List Float) (k : ℕ) → place_of t room k ≤ k
place_le t room zero = omega arith
place_le t room (suc k) = go (lt t (get_or room k nan)) (place_le t room k)
  where
    go : (b : Bool) → place_of t room k ≤ k → cond b (place_of t room k) (suc k) ≤ suc k
    go true r = omega arith
    go false r = omega arith

place_in : (t : Float) (us room : List Float) (k : ℕ) → k ≤ length us → place_of t (us ++ room) k ≡ place_of t us k
place_in t us room zero h = refl
place_in t us room (suc k) h = rw (get_or-append us room nan k (omega arith), place_in t us room k (omega arith))

put_in : (t : Float) (us room : List Float) (p : ℕ) → p ≤ length us → put_before p t (us ++ room) ≡ put_before p t us ++ room
put_in t us room p h = rw (take-append-le p us room h, drop-append-le p us room h) (sym (append_assoc (take p us) (t ∷ drop p us) room))

module _ (room : List Float) where
  -- how the room stands where it has some at its front
  abbrev holding : List Float → List Float × ℕ
  holding us = (laid_over us room, length us)

  pub length_laid : (us : List Float) → length us ≤ length room → length (laid_over us room) ≡ length room
  length_laid us h = length-append us (drop (length us) room) ∙ (let a = length-drop (length us) room in omega arith)

  put_holding : (t : Float) (us : List Float) → Upward us → length us ≤ length room → put (holding us) t ≡ holding (take (length room) (insert_after t us))
  put_holding t us u h =
      rw (length_laid us h, place_in t us rest (length us) (omega arith), put_in t us rest p (place_le t us (length us))) (go (ltb (length us) (length room)) refl)
      ∙ ap (λ (l : List Float). holding (take (length room) l)) (put_inserts t us u)
    where
      rest : List Float
      rest = drop (length us) room

      p : ℕ
      p = place_of t us (length us)

      ins : List Float
      ins = put_before p t us

      longer : length ins ≡ length us + 1
      longer = goal_length t us p (place_le t us (length us))

      go : (b : Bool) → ltb (length us) (length room) ≡ b →
          ◌≡◌ {A = List Float × ℕ} (with_front (cond b (length us + 1) (length us)) (ins ++ rest) (us ++ rest), cond b (length us + 1) (length us)) (holding (take (length room) ins))
      go true e =
          let l = ltb-true (length us) (length room) e in
          let w : take (length room) ins ≡ ins = take_all (length room) ins (omega (arith, longer)) in
          let front : take (length us + 1) (ins ++ rest) ≡ ins = take_at ins rest (length us + 1) longer in
          let back : drop (length us + 1) (us ++ rest) ≡ drop (length ins) room = drop-append-add us rest 1 ∙ drop-drop 1 (length us) room ∙ ap (λ (i : ℕ). drop i room) (sym longer) in
          rw w (λ i. (front i ++ back i, sym longer i))
      go false e =
          let l = ltb-false (length us) (length room) e in
          let same : length room ≡ length us = omega arith in
          let short : length (take (length us) ins) ≡ length us = length-take-le (length us) ins (omega (arith, longer)) in
          let front : take (length us) (ins ++ rest) ≡ take (length us) ins = take-append-le (length us) ins rest (omega (arith, longer)) in
          let back : drop (length us) (us ++ rest) ≡ drop (length (take (length us) ins)) room = drop-append_seam us rest ∙ ap (λ (i : ℕ). drop i room) (sym short) in
          rw same (λ i. (front i ++ back i, sym short i))

  module _ (after : Option Float) where
    few : (ts : List Float) → length (lowest (length room) after ts) ≤ length room
    unfolding lowest
    few ts = omega (arith, length-take (length room) (beyonds after (sorted ts)))

    upward_lowest : (ts : List Float) → Numbers ts → Upward (lowest (length room) after ts)
    unfolding lowest
    upward_lowest ts p = upward_take (length room) _ (upward_beyonds after (sorted ts) (upward_sorted ts p))

    one_taken : (ts : List Float) (t : Float) → Numbers ts → is_nan t ≡ false → taken after (holding (lowest (length room) after ts)) t ≡ holding (lowest (length room) after (ts ++ (t ∷ [])))
    one_taken ts t p q = go (beyond after t) ∙ ap holding (sym (lowest_snoc (length room) after ts t p q))
      where
        low : List Float
        low = lowest (length room) after ts

        go : (b : Bool) → cond b (put (holding low) t) (holding low) ≡ holding (cond b (take (length room) (insert_after t low)) low)
        go true = put_holding t low (upward_lowest ts p) (few ts)
        go false = refl

    more_taken : (ts us : List Float) → Numbers ts → Numbers us → foldl (taken after) (holding (lowest (length room) after ts)) us ≡ holding (lowest (length room) after (ts ++ us))
    more_taken ts [] p q = ap (λ (l : List Float). holding (lowest (length room) after l)) (sym (append-nil ts))
    more_taken ts (u ∷ us) p q =
        ap (λ (s : List Float × ℕ). foldl (taken after) s us) (one_taken ts u p q.0)
        ∙ more_taken (ts ++ (u ∷ [])) us (numbers_append ts (u ∷ []) p (q.0, tt)) q.1
        ∙ ap (λ (l : List Float). holding (lowest (length room) after l)) (append_assoc ts (u ∷ []) us)

    -- so of all tops the room has the lowest
    pub all_taken : (ts : List Float) → Numbers ts → foldl (taken after) (room, 0) ts ≡ holding (lowest (length room) after ts)
    unfolding lowest sorted
    all_taken ts n = ap (λ (s : List Float × ℕ). foldl (taken after) s ts) begin ∙ more_taken [] ts tt n
      where
        begin : ◌≡◌ {A = List Float × ℕ} (room, 0) (holding (lowest (length room) after []))
        begin = let z : take (length room) [] ≡ [] = take-nil (length room) in λ i. (laid_over (sym z i) room, length (sym z i))
