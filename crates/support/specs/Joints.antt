-- Parts of a centre line gathered, and joined one after the other: what is covered so is covered by 01's sentence, whatever intervals of the list were
-- gathered, and in whatever order.
use Rattle.std.specs.Prelude.{ℕ, ◌*◌, ◌≡◌, Bool, true, false, cond, List, [], ◌∷◌, ◌++◌, map, drop, Option, Some, None, Float}
use Rattle.std.specs.List.{All}
use Rattle.std.proofs.Common.{sym, ap, refl, ◌∙◌, subst}
use Rattle.std.proofs.lemmas.List.Elements.{All-nil, All-cons, All-head, All-tail}
use mathlib.Core.List.{Memᴰ}
use Rattle.std.specs.Float.Ieee.{lt, le}
use Rattle.floats.specs.Floats.{larger}
use Rattle.floats.specs.Order.{le_refl, le_right, le_trans, lt_le}
use Rattle.regions.specs.declared.Spot.{Spot}
use Rattle.world.specs.declared.Point.{Point}
use Rattle.world.specs.declared.Aabb.{Aabb}
use Rattle.world.specs.declared.Cell.{Cell}
use Rattle.world.specs.Laws.{known_block}
use Rattle.world.specs.Boxes.{moved}
use Rattle.world.specs.Space.{Space, run, block_of}
use Rattle.support.specs.declared.Interval.{Interval}
use Rattle.support.specs.declared.Way.{Way}
use Rattle.support.specs.Cover.{joins, CoversTo, joint}
use Rattle.support.specs.Laws.{not_below}
use Rattle.support.specs.Support.{Shape, counts, interval, counting, ahead, intervals, shapes_of, shapes_at}
use Rattle.support.specs.Pass.{shapes, run_shapes}
use Rattle.support.specs.PassLaws.{found}

-- ---- intervals that are all of a list

abbrev pub Among : List Interval → List Interval → Type 0
Among is js = All (λ i. Memᴰ i is) js

module _ {A : Type 0} (P : A → Type 0) where
  all_left : (xs ys : List A) → All P (xs ++ ys) → All P xs
  all_left [] ys f = All-nil P
  all_left (x ∷ xs) ys f = All-cons P x xs (All-head P x (xs ++ ys) f) (all_left xs ys (All-tail P x (xs ++ ys) f))

  all_right : (xs ys : List A) → All P (xs ++ ys) → All P ys
  all_right [] ys f = f
  all_right (x ∷ xs) ys f = all_right xs ys (All-tail P x (xs ++ ys) f)

-- ---- the intervals of shapes, one shape after the other

module _ (w : Way) where
  pub found_append : (ss ts : List Shape) → found w (ss ++ ts) ≡ found w ss ++ found w ts
  unfolding counting intervals
  found_append [] ts = refl
  found_append (s ∷ ss) ts = go (counts w.under s.box) (interval s.box w.from w.to) refl refl (found_append ss ts)
    where
      go : (b : Bool) (o : Option Interval) → counts w.under s.box ≡ b → interval s.box w.from w.to ≡ o → found w (ss ++ ts) ≡ found w ss ++ found w ts →
          found w (s ∷ ss ++ ts) ≡ found w (s ∷ ss) ++ found w ts
      go true (Some j) p q r = rw (p, q, r)
      go true None p q r = rw (p, q, r)
      go false o p q r = rw (p, r)

  -- of one shape: its part, where it counts
  pub found_part : (s : Shape) → found w (s ∷ []) ≡ ahead (cond (counts w.under s.box) (interval s.box w.from w.to) None) []
  unfolding counting intervals
  found_part s = go (counts w.under s.box)
    where
      go : (b : Bool) → intervals w.from w.to (cond b (s ∷ []) []) ≡ ahead (cond b (interval s.box w.from w.to) None) []
      go true = refl
      go false = refl

  -- whether a shape is a support makes no interval
  pub found_supports : (support : Bool) (bs : List Aabb) → found w (shapes true bs) ≡ found w (shapes support bs)
  unfolding counting intervals
  found_supports support [] = refl
  found_supports support (b ∷ bs) = go (counts w.under b) (found_supports support bs)
    where
      go : (t : Bool) → found w (shapes true bs) ≡ found w (shapes support bs) →
          intervals w.from w.to (cond t (record { support = true; box = b } ∷ counting w.under (shapes true bs)) (counting w.under (shapes true bs)))
          ≡ intervals w.from w.to (cond t (record { support = support; box = b } ∷ counting w.under (shapes support bs)) (counting w.under (shapes support bs)))
      go true r = ap (ahead (interval b w.from w.to)) r
      go false r = r

  -- of a cell that is known, whether it is a support or not
  pub found_known : (boxes : List ℕ) (p : Point) (c : Cell) → found w (shapes_of (block_of boxes (Some c) p)) ≡ found w (run_shapes true p (run c.count (drop (48 * c.first) boxes) 0))
  unfolding shapes_of
  found_known boxes p c = rw (known_block boxes p c.occupied c.support c.first c.count c.through c.state) (sym (found_supports c.support (map (λ (b : Aabb). moved b p) (run c.count (drop (48 * c.first) boxes) 0))))

-- ---- a list that has the intervals of some shapes has those of the first, where it counts, and of the others

pub among_none : (is : List Interval) → Among is []
among_none is = All-nil (λ i. Memᴰ i is)

of_first : (w : Way) (s : Shape) (ss : List Shape) (i : Interval) → cond (counts w.under s.box) (interval s.box w.from w.to) None ≡ Some i → found w (s ∷ ss) ≡ i ∷ found w ss
of_first w s ss i e = found_append w (s ∷ []) ss ∙ ap (λ (l : List Interval). l ++ found w ss) (found_part w s ∙ ap (λ (o : Option Interval). ahead o []) e)

module _ (w : Way) {is : List Interval} where
  pub among_first : (s : Shape) (ss : List Shape) → Among is (found w (s ∷ ss)) → (i : Interval) → cond (counts w.under s.box) (interval s.box w.from w.to) None ≡ Some i → Memᴰ i is
  among_first s ss f i e = All-head (λ i. Memᴰ i is) i (found w ss) (subst (Among is) (of_first w s ss i e) f)

  pub among_rest : (s : Shape) (ss : List Shape) → Among is (found w (s ∷ ss)) → Among is (found w ss)
  among_rest s ss f = all_right (λ i. Memᴰ i is) (found w (s ∷ [])) (found w ss) (subst (Among is) (found_append w (s ∷ []) ss) f)

  pub among_left : (ss ts : List Shape) → Among is (found w (ss ++ ts)) → Among is (found w ss)
  among_left ss ts f = all_left (λ i. Memᴰ i is) (found w ss) (found w ts) (subst (Among is) (found_append w ss ts) f)

  pub among_right : (ss ts : List Shape) → Among is (found w (ss ++ ts)) → Among is (found w ts)
  among_right ss ts f = all_right (λ i. Memᴰ i is) (found w ss) (found w ts) (subst (Among is) (found_append w ss ts) f)

-- ---- what the functions that gather promise

-- parts that were all of a list are so afterwards, where some more are of that list, too
pub record Gathers (js a b : List Interval) : Type 0 where
  pub all : (is : List Interval) → Among is js → Among is a → Among is b

pub gathers_none : (js a : List Interval) → Gathers js a a
gathers_none js a = record { all = λ is f o. o }

-- one after the other
pub gathers_append : {js ks a b d : List Interval} → Gathers js a b → Gathers ks b d → Gathers (js ++ ks) a d
gathers_append {js} {ks} x y = record { all = λ is f o. y.all is (all_right (λ i. Memᴰ i is) js ks f) (x.all is (all_left (λ i. Memᴰ i is) js ks f) o) }

pub gathers_more : {js ks a b d : List Interval} (ls : List Interval) → ((is : List Interval) → Among is ls → Among is js) → ((is : List Interval) → Among is ls → Among is ks) →
    Gathers js a b → Gathers ks b d → Gathers ls a d
gathers_more ls f g x y = record { all = λ is w o. y.all is (g is w) (x.all is (f is w) o) }

-- a shape's own interval
pub gathers_first : (w : Way) {a b : List Interval} (s : Shape) (i : Interval) → cond (counts w.under s.box) (interval s.box w.from w.to) None ≡ Some i → Gathers (i ∷ []) a b → Gathers (found w (s ∷ [])) a b
unfolding intervals counting
gathers_first w s i e x = record { all = λ is f o. x.all is (subst (Among is) (of_first w s [] i e) f) o }

module _ (w : Way) {a b d : List Interval} where
  gathers_shapes : (ss ts : List Shape) → Gathers (found w ss) a b → Gathers (found w ts) b d → Gathers (found w (ss ++ ts)) a d
  gathers_shapes ss ts x y = rw (found_append w ss ts) (gathers_append x y)

  -- a shape, then others
  pub gathers_on : (s : Shape) (ss : List Shape) → Gathers (found w (s ∷ [])) a b → Gathers (found w ss) b d → Gathers (found w (s ∷ ss)) a d
  gathers_on s ss x y = gathers_shapes (s ∷ []) ss x y

  -- a cell, then others
  pub gathers_cell : (sp : Space) (ps qs : List Spot) (p : Spot) → ps ≡ p ∷ qs → Gathers (found w (shapes_of (sp p.x p.y p.z))) a b →
      Gathers (found w (shapes_at sp qs)) b d → Gathers (found w (shapes_at sp ps)) a d
  unfolding shapes_at
  gathers_cell sp ps qs p e x y = rw e (gathers_shapes (shapes_of (sp p.x p.y p.z)) (shapes_at sp qs) x y)

-- ---- joined

-- c is covered further, from b on
pub record Further (is : List Interval) (b c : Float) : Type 0 where
  pub covered : CoversTo is c
  pub no_less : le b c ≡ true

module _ {is : List Interval} where
  pub further_none : {c : Float} → CoversTo is c → Further is c c
  further_none {c} h = record { covered = h; no_less = le_refl c (le_right _ c (not_below h)) }

  pub further_one : {b c : Float} (i : Interval) → Memᴰ i is → joins c i ≡ true → Further is b c → Further is b (larger i.end c)
  unfolding larger
  further_one {b} {c} i m j f = record { covered = joint f.covered m j; no_less = go (lt c i.end) refl }
    where
      go : (t : Bool) → lt c i.end ≡ t → le b (cond t i.end c) ≡ true
      go true e = le_trans b c i.end f.no_less (lt_le c i.end e)
      go false e = f.no_less

-- what is joined of parts, from c on, is covered where c is
pub record Joined (parts : List Interval) (c d : Float) : Type 0 where
  pub further : (is : List Interval) → Among is parts → CoversTo is c → Further is c d

pub joined_none : (parts : List Interval) (c : Float) → Joined parts c c
joined_none parts c = record { further = λ is o h. further_none h }

pub joined_on : {parts : List Interval} {c d : Float} (i : Interval) → ((is : List Interval) → Among is parts → Memᴰ i is) → joins d i ≡ true → Joined parts c d → Joined parts c (larger i.end d)
joined_on i m e j = record { further = λ is o h. further_one i (m is o) e (j.further is o h) }

-- the same of the intervals of a list, all of whose parts are its own
pub record JoinedFrom (is : List Interval) (c d : Float) : Type 0 where
  pub further : CoversTo is c → Further is c d

pub among_itself : (is js : List Interval) → ((i : Interval) → Memᴰ i js → Memᴰ i is) → Among is js
among_itself is [] f = All-nil (λ i. Memᴰ i is)
among_itself is (j ∷ js) f = All-cons (λ i. Memᴰ i is) j js (f j (Memᴰ.head refl)) (among_itself is js (λ i m. f i (Memᴰ.tail m)))

pub joined_gathered : {is parts : List Interval} {c d : Float} → Gathers is [] parts → Joined parts c d → JoinedFrom is c d
joined_gathered {is} g j = record { further = λ h. j.further is (g.all is (among_itself is is (λ i m. m)) (All-nil (λ i. Memᴰ i is))) h }
