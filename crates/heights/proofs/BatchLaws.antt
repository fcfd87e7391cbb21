-- A batch of a column's lowest tops gone through: each time the next of the heights, until there is none.
use Rattle.std.proofs.Common.{ℕ, zero, suc, ◌+◌, ◌-◌, ◌≤◌, ◌<◌, arith, ◌∙◌, drop_of_length-le, drop-cons, get_or-take, List, [], ◌∷◌, ◌++◌, ltb-true, ltb-false, lt-ltb, le-ltb}
use Rattle.std.specs.Prelude.{min, Option, Some, None, ◌≡◌, Bool, not, ◌||◌, cond, get_or, take, drop}
use Rattle.std.proofs.Math.Path.{refl, sym, ap, subst}
use Rattle.std.proofs.Math.Bool.{true, false}
use Rattle.std.proofs.Math.Dec.{ltb}
use Rattle.std.proofs.Math.ListN.{length, length-take}
use Rattle.std.proofs.Math.Seq.{take-nil, take-append_seam}
use Rattle.std.specs.Float.Ieee.{Float, lt, le, eq, neg, add, sub, is_nan}
use Rattle.std.specs.Float.{nan, inf, fin, binary64}
use Rattle.floats.specs.Floats.{E}
use Rattle.floats.specs.Order.{false_true, le_refl, le_trans, not_le}
use Rattle.floats.specs.Differences.{difference_grows}
use Rattle.heights.specs.declared.batches.Batch.{Batch}
use Rattle.heights.specs.Heights.{sorted, within, thinned, thinned_after, kept_after, first_of}
use Rattle.heights.specs.Lowest.{beyond, beyonds, lowest, laid_over, first_from, batch_count, moved_on, height_at}
use Rattle.heights.proofs.Put.{length_laid}
use Rattle.heights.proofs.Next.{Numbers, Number, Least, Upward, upward_sorted, first_beyond, first_kept, number_first, within_self, kept_next}

-- ---- those further up are beyond it, too

no_number : (x k : Float) → is_nan k ≡ true → le (sub binary64 x k) E ≡ false
unfolding sub add neg le lt eq is_nan
no_number nan nan e = refl
no_number (inf s) nan e = refl
no_number (fin s m d) nan e = refl
no_number x (inf t) e = false_true e
no_number x (fin t n d) e = false_true e

grown : (k t u : Float) (a b : Bool) → is_nan t ≡ false → le t k ≡ a → le (sub binary64 t k) E ≡ b → le t u ≡ true → not (a || b) ≡ true → not (le u k || le (sub binary64 u k) E) ≡ true
grown k t u false false n p q l e = go (le u k) refl (le (sub binary64 u k) E) refl (is_nan k) refl
  where
    go : (c : Bool) → le u k ≡ c → (d : Bool) → le (sub binary64 u k) E ≡ d → (m : Bool) → is_nan k ≡ m → not (c || d) ≡ true
    go true x d y m z = false_true (sym p ∙ le_trans t u k l x)
    go false x true y false z = false_true (sym q ∙ le_trans (sub binary64 t k) (sub binary64 u k) E (difference_grows k t u (not_le t k n z p) l) y)
    go false x true y true z = false_true (sym (no_number u k z) ∙ y)
    go false x false y m z = refl
grown k t u true b n p q l e = false_true e
grown k t u false true n p q l e = false_true e

beyond_grows : (after : Option Float) (t u : Float) → is_nan t ≡ false → le t u ≡ true → beyond after t ≡ true → beyond after u ≡ true
unfolding beyond within
beyond_grows None t u n l e = refl
beyond_grows (Some k) t u n l e = grown k t u (le t k) (le (sub binary64 t k) E) n refl refl l e

beyonds_all : (after : Option Float) (t : Float) (us : List Float) → is_nan t ≡ false → Least t us → beyond after t ≡ true → beyonds after us ≡ us
beyonds_all after t [] n l e = refl
beyonds_all after t (u ∷ us) n l e = rw (beyond_grows after t u n l.0 e, beyonds_all after t us n l.1 e)

-- so those that are kept are kept of them alone
kept_beyonds : (after : Option Float) (us : List Float) → Upward us → kept_after after us ≡ kept_after after (beyonds after us)
unfolding kept_after beyond thinned_after
kept_beyonds None us h = ap thinned (sym (all us))
  where
    all : (us : List Float) → beyonds None us ≡ us
    all [] = refl
    all (u ∷ us) = ap (λ (l : List Float). u ∷ l) (all us)
kept_beyonds (Some k) us h = go us h
  where
    go : (us : List Float) → Upward us → thinned_after k us ≡ thinned_after k (beyonds (Some k) us)
    go [] h = refl
    go (u ∷ us) h = pick (within k u) refl (go us h.2)
      where
        pick : (b : Bool) → within k u ≡ b → thinned_after k us ≡ thinned_after k (beyonds (Some k) us) →
            cond b (thinned_after k us) (u ∷ thinned_after u us) ≡ thinned_after k (cond (not b) (u ∷ beyonds (Some k) us) (beyonds (Some k) us))
        pick true e r = r
        pick false e r = rw (e, beyonds_all (Some k) u us h.0 h.1 (ap not e))

pub fewest : (a b : ℕ) → min a b ≡ cond (ltb a b) a b
fewest a b = go (ltb a b) refl
  where
    go : (c : Bool) → ltb a b ≡ c → min a b ≡ cond c a b
    go true e = omega (arith, ltb-true a b e)
    go false e = omega (arith, ltb-false a b e)

pub batch_count_le : (room : List Float) (b : Batch) → batch_count room b ≤ length room
batch_count_le room b = go (ltb b.count (length room)) refl
  where
    go : (c : Bool) → ltb b.count (length room) ≡ c → cond c b.count (length room) ≤ length room
    go true e = omega (arith, ltb-true b.count (length room) e)
    go false e = omega arith

-- ---- a place sought from one on, turn by turn

module _ (after : Option Float) (room : List Float) (at left : ℕ) where
  pub place_here : 0 < left → beyond after (get_or room at nan) ≡ true → first_from after room at left ≡ at
  unfolding first_from
  place_here h e = let z : left ≡ suc (left - 1) = omega arith in ap (first_from after room at) z ∙ rw e

  pub place_later : 0 < left → beyond after (get_or room at nan) ≡ false → first_from after room at left ≡ first_from after room (at + 1) (left - 1)
  unfolding first_from
  place_later h e = let z : left ≡ suc (left - 1) = omega arith in ap (first_from after room at) z ∙ rw e

  pub place_end : left ≤ 0 → first_from after room at left ≡ at
  unfolding first_from
  place_end h = let z : left ≡ 0 = omega arith in ap (first_from after room at) z

-- ---- the first that is kept

kept_first : (after : Option Float) (t : Float) (ts : List Float) → beyond after t ≡ true → kept_after after (t ∷ ts) ≡ t ∷ thinned_after t ts
unfolding kept_after thinned thinned_after beyond
kept_first None t ts e = refl
kept_first (Some k) t ts e = go (within k t) e
  where
    go : (b : Bool) → not b ≡ true → cond b (thinned_after k ts) (t ∷ thinned_after t ts) ≡ t ∷ thinned_after t ts
    go false e = refl
    go true e = false_true e

kept_skips : (after : Option Float) (t : Float) (ts : List Float) → beyond after t ≡ false → kept_after after (t ∷ ts) ≡ kept_after after ts
unfolding kept_after thinned_after beyond
kept_skips None t ts e = false_true (sym e)
kept_skips (Some k) t ts e = go (within k t) e
  where
    go : (b : Bool) → not b ≡ false → cond b (thinned_after k ts) (t ∷ thinned_after t ts) ≡ thinned_after k ts
    go false e = false_true (sym e)
    go true e = refl

kept_none : (after : Option Float) → kept_after after [] ≡ []
unfolding kept_after thinned thinned_after
kept_none None = refl
kept_none (Some k) = refl

first_beyonds : (after : Option Float) (us : List Float) → first_beyond after us ≡ first_of (beyonds after us)
first_beyonds after [] = refl
first_beyonds after (u ∷ us) = go (beyond after u) (first_beyonds after us)
  where
    go : (b : Bool) → first_beyond after us ≡ first_of (beyonds after us) → cond b (Some u) (first_beyond after us) ≡ first_of (cond b (u ∷ beyonds after us) (beyonds after us))
    go true r = refl
    go false r = r

-- the next of the heights is the lowest of the tops beyond
pub next_lowest : (after : Option Float) (ts : List Float) (n : ℕ) → 0 < n → first_of (lowest n after ts) ≡ first_of (kept_after after (sorted ts))
unfolding lowest
next_lowest after ts zero h = absurd (omega arith)
next_lowest after ts (suc n) h = go (beyonds after (sorted ts)) ∙ sym (first_kept after (sorted ts) ∙ first_beyonds after (sorted ts))
  where
    go : (us : List Float) → first_of (take (suc n) us) ≡ first_of us
    go [] = refl
    go (u ∷ us) = refl

-- and of a room for one, it is what a batch begins at
pub one_next : (after : Option Float) (ts : List Float) (t : Float) → height_at (laid_over (lowest 1 after ts) (t ∷ [])) (record { count = length (lowest 1 after ts); at = 0 }) ≡ first_of (kept_after after (sorted ts))
unfolding height_at
one_next after ts t = go (lowest 1 after ts) ∙ next_lowest after ts 1 (omega arith)
  where
    go : (us : List Float) → height_at (laid_over us (t ∷ [])) (record { count = length us; at = 0 }) ≡ first_of us
    go [] = refl
    go (u ∷ us) = rw (lt-ltb 0 (suc (length us)) (omega arith), lt-ltb 0 (suc (length (us ++ drop (suc (length us)) (t ∷ [])))) (omega arith))

-- ---- a batch, while its column is gone through

-- Either it is used up and was full, so that it is filled again; or it is of a list, and the heights left of the column are those left of the list.
pub data Batched (after : Option Float) (us room : List Float) (b : Batch) : Type 0 where
  used_up : length room ≤ b.count → length room ≤ b.at → Batched after us room b
  of_list : (ms : List Float) → b.count ≡ length (take (length room) ms) → take b.count room ≡ take (length room) ms → b.at ≤ b.count →
      kept_after after us ≡ kept_after after (drop b.at ms) → Batched after us room b

-- where a batch stands once those within E of the last kept are passed over
module _ (after : Option Float) (us room ms : List Float) (count : ℕ) (h : count ≡ length (take (length room) ms)) (g : take count room ≡ take (length room) ms) where
  record Stands (i : ℕ) : Type 0 where
    within_count : i ≤ count
    left : kept_after after us ≡ kept_after after (drop i ms)
    here : i < count → beyond after (get_or room i nan) ≡ true

  there : (i : ℕ) → i < count → drop i ms ≡ get_or room i nan ∷ drop (suc i) ms
  there i l =
      let k = length-take (length room) ms in
      let same : get_or room i nan ≡ get_or ms i nan = sym (get_or-take count room i nan l) ∙ ap (λ (x : List Float). get_or x i nan) g ∙ get_or-take (length room) ms i nan (omega arith) in
      rw same (drop-cons ms i nan (omega arith))

  passed : (left at : ℕ) → at + left ≡ count → kept_after after us ≡ kept_after after (drop at ms) → Stands (first_from after room at left)
  unfolding first_from
  passed zero at e j = record { within_count = omega arith; left = j; here = λ l. absurd (omega arith) }
  passed (suc left) at e j = go (beyond after (get_or room at nan)) refl (λ k. passed left (at + 1) (omega arith) k)
    where
      go : (b : Bool) → beyond after (get_or room at nan) ≡ b → (kept_after after us ≡ kept_after after (drop (at + 1) ms) → Stands (first_from after room (at + 1) left)) → Stands (cond b at (first_from after room (at + 1) left))
      go true x r = record { within_count = omega arith; left = j; here = λ l. x }
      go false x r = r (j ∙ ap (kept_after after) (there at (omega arith)) ∙ kept_skips after (get_or room at nan) (drop (suc at) ms) x ∙ (let z : suc at ≡ at + 1 = omega arith in ap (λ (i : ℕ). kept_after after (drop i ms)) z))

-- the next of the heights, and what is left behind it
module _ (ts : List Float) (n : Numbers ts) (after : Option Float) where
  behind : (y : Float) (rest : List Float) → kept_after after (sorted ts) ≡ kept_after after (y ∷ rest) → beyond after y ≡ true → (first_of (kept_after after (sorted ts)) ≡ Some y) × (kept_after (Some y) (sorted ts) ≡ kept_after (Some y) (y ∷ rest))
  unfolding kept_after thinned_after
  behind y rest e b =
      let k = e ∙ kept_first after y rest b in
      let f : first_of (kept_after after (sorted ts)) ≡ Some y = ap first_of k in
      let number : is_nan y ≡ false = subst Number (sym (first_kept after (sorted ts)) ∙ f) (number_first after (sorted ts) (upward_sorted ts n)) in
      let tails : y ∷ kept_after (Some y) (sorted ts) ≡ y ∷ thinned_after y rest = sym (kept_next ts n after y f) ∙ k in
      (f, (let z : kept_after (Some y) (sorted ts) ≡ thinned_after y rest = cc in z ∙ rw (within_self y y (le_refl y number))))

  data Goes (s : List Float × Batch) : Type 0 where
    ends : height_at s.0 s.1 ≡ None → first_of (kept_after after (sorted ts)) ≡ None → Goes s
    on : (y : Float) → height_at s.0 s.1 ≡ Some y → first_of (kept_after after (sorted ts)) ≡ Some y → Batched (Some y) (sorted ts) s.0 s.1 → Goes s

  beyond_head : (us : List Float) (y : Float) (rest : List Float) → beyonds after us ≡ y ∷ rest → beyond after y ≡ true
  beyond_head [] y rest e = absurd (let z : ◌≡◌ {A = ℕ} 0 1 = cc in omega arith)
  beyond_head (u ∷ us) y rest e = go (beyond after u) refl e (beyond_head us y rest)
    where
      go : (b : Bool) → beyond after u ≡ b → cond b (u ∷ beyonds after us) (beyonds after us) ≡ y ∷ rest → (beyonds after us ≡ y ∷ rest → beyond after y ≡ true) → beyond after y ≡ true
      go true x e r = let z : u ≡ y = cc in subst (λ (v : Float). beyond after v ≡ true) z x
      go false x e r = r e

  module _ (room : List Float) (some : 0 < length room) where
    -- filled again
    refilled : Goes (laid_over (lowest (length room) after ts) room, record { count = length (lowest (length room) after ts); at = 0 })
    unfolding lowest height_at
    refilled = go (beyonds after (sorted ts)) refl
      where
        state : List Float → List Float × Batch
        state low = (laid_over low room, record { count = length low; at = 0 })

        go : (ms : List Float) → beyonds after (sorted ts) ≡ ms → Goes (state (take (length room) (beyonds after (sorted ts))))
        go [] e = ends (rw (e, take-nil {A = Float} (length room))) (first_kept after (sorted ts) ∙ first_beyonds after (sorted ts) ∙ ap first_of e)
        go (y ∷ rest) e =
            let low = take (length room) (beyonds after (sorted ts)) in
            let b = behind y rest (kept_beyonds after (sorted ts) (upward_sorted ts n) ∙ ap (kept_after after) e) (beyond_head (sorted ts) y rest e) in
            let same = length_laid room low (omega (arith, length-take (length room) (beyonds after (sorted ts)))) in
            let first : low ≡ y ∷ take (length room - 1) rest = ap (take (length room)) e ∙ (let z : length room ≡ suc (length room - 1) = omega arith in ap (λ (i : ℕ). take i (y ∷ rest)) z) in
            on y
            (ap (λ (l : List Float). height_at (state l).0 (state l).1) first ∙ rw (lt-ltb 0 (suc (length (take (length room - 1) rest))) (omega arith), lt-ltb 0 (suc (length (take (length room - 1) rest ++ drop (suc (length (take (length room - 1) rest))) room))) (omega arith)))
            b.0
            (of_list (beyonds after (sorted ts)) (ap (λ (i : ℕ). length (take i (beyonds after (sorted ts)))) (sym same)) (take-append_seam low (drop (length low) room) ∙ ap (λ (i : ℕ). take i (beyonds after (sorted ts))) (sym same)) (omega arith) (b.1 ∙ ap (kept_after (Some y)) (sym e)))

    module _ (b : Batch) where
      -- at the next of those that are there, or at the end of all
      module _ (ms : List Float) (h : b.count ≡ length (take (length room) ms)) (g : take b.count room ≡ take (length room) ms) where
        count_le : b.count ≤ length room
        count_le = omega (arith, length-take (length room) ms)

        stays : (i : ℕ) → Stands after (sorted ts) room ms b.count h g i → i < b.count → Goes (room, record { count = b.count; at = i })
        unfolding height_at
        stays i s l =
            let t = there after (sorted ts) room ms b.count h g i l in
            let c = behind (get_or room i nan) (drop (suc i) ms) (s.left ∙ ap (kept_after after) t) (s.here l) in
            on (get_or room i nan) (rw (lt-ltb i b.count l, lt-ltb i (length room) (omega (arith, count_le)))) c.0 (of_list ms h g s.within_count (c.1 ∙ ap (kept_after (Some (get_or room i nan))) (sym t)))

        ended : (i : ℕ) → Stands after (sorted ts) room ms b.count h g i → b.count ≤ i → b.count < length room → Goes (room, record { count = b.count; at = i })
        unfolding height_at
        ended i s l m =
            let z : length ms ≤ i = omega (arith, length-take (length room) ms) in
            ends (rw (le-ltb i b.count l)) (ap first_of (s.left ∙ ap (kept_after after) (drop_of_length-le ms z) ∙ kept_none after))

      goes_on : Batched after (sorted ts) room b → Goes (moved_on ts after room b)
      unfolding moved_on first_from
      goes_on (used_up h g) =
          let full = le-ltb b.count (length room) h in
          let none : length room - b.at ≡ 0 = omega arith in
          rw (full, none) (at_end (le-ltb b.at (length room) g))
        where
          at_end : ltb b.at (length room) ≡ false → Goes (cond (ltb (first_from after room b.at 0) (length room) || false) (room, record { count = length room; at = first_from after room b.at 0 }) (laid_over (lowest (length room) after ts) room, record { count = length (lowest (length room) after ts); at = 0 }))
          at_end e = rw e refilled
      goes_on (of_list ms h g l k) = rw (fill (ltb b.count (length room)) refl) (go (ltb i b.count) refl (ltb b.count (length room)) refl)
        where
          i : ℕ
          i = first_from after room b.at (b.count - b.at)

          s : Stands after (sorted ts) room ms b.count h g i
          s = passed after (sorted ts) room ms b.count h g (b.count - b.at) b.at (omega arith) k

          fill : (c : Bool) → ltb b.count (length room) ≡ c → cond c b.count (length room) ≡ b.count
          fill true e = refl
          fill false e = omega (arith, ltb-false b.count (length room) e, count_le ms h g)

          go : (c : Bool) → ltb i b.count ≡ c → (d : Bool) → ltb b.count (length room) ≡ d →
              Goes (cond (c || d) (room, record { count = b.count; at = i }) (laid_over (lowest (length room) after ts) room, record { count = length (lowest (length room) after ts); at = 0 }))
          go true x d y = stays ms h g i s (ltb-true i b.count x)
          go false x true y = ended ms h g i s (ltb-false i b.count x) (ltb-true b.count (length room) y)
          go false x false y = refilled

      module _ (held : Batched after (sorted ts) room b) where
        -- the batch is at the next of the heights
        pub held_next : height_at (moved_on ts after room b).0 (moved_on ts after room b).1 ≡ first_of (kept_after after (sorted ts))
        held_next = go (goes_on held)
          where
            go : Goes (moved_on ts after room b) → height_at (moved_on ts after room b).0 (moved_on ts after room b).1 ≡ first_of (kept_after after (sorted ts))
            go (ends x y) = x ∙ sym y
            go (on y x z w) = x ∙ sym z

        -- and holds for the one behind it
        pub held_on : (y : Float) → height_at (moved_on ts after room b).0 (moved_on ts after room b).1 ≡ Some y → Batched (Some y) (sorted ts) (moved_on ts after room b).0 (moved_on ts after room b).1
        held_on y e = go (goes_on held)
          where
            go : Goes (moved_on ts after room b) → Batched (Some y) (sorted ts) (moved_on ts after room b).0 (moved_on ts after room b).1
            go (ends x z) = absurd (let q : ◌≡◌ {A = ℕ} 0 1 = cc in omega arith)
            go (on v x z w) = let q : v ≡ y = cc in subst (λ (u : Float). Batched (Some u) (sorted ts) (moved_on ts after room b).0 (moved_on ts after room b).1) q w
