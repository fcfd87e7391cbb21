-- A segment is supported between two points where it is between any two alike.
use Rattle.std.specs.Prelude.{ℕ, zero, suc, ◌≡◌, Bool, true, false, ◌||◌, cond, length, Float, Option, Some, None}
use Rattle.std.proofs.Math.Path.{refl}
use Rattle.std.proofs.Common.{ap, ◌∙◌}
use mathlib.Core.List.{List, [], ◌∷◌}
use Rattle.std.proofs.Math.Logic.{⊎_elim}
use Rattle.std.specs.Float.Ieee.{binary64, lt, le, eq, add, sub, div, of_bits}
use Rattle.floats.specs.Floats.{E, nought, smaller, larger}
use Rattle.world.specs.declared.Point.{Point}
use Rattle.world.specs.declared.Aabb.{Aabb}
use Rattle.world.specs.Boxes.{one, span}
use Rattle.world.specs.Space.{Space}
use Rattle.support.specs.declared.Interval.{Interval}
use Rattle.support.specs.Cover.{joins, enough, reach_one, round, rounds, covers}
use Rattle.support.specs.Support.{footprint, Shape, beneath, shapes_under, counts, narrowed, and_then, interval, ahead, counting, intervals, carried, supported}
use Rattle.arrival.specs.Alike.{Alike, Zero, zero_alike, zero_or_same, add_alike, sub_alike, div_alike, lt_alike, le_alike, eq_alike, smaller_alike, larger_alike, floor_alike, ceil_alike}
use Rattle.arrival.specs.Areas.{AlikePoint, AlikeBox}

-- ---- the shapes that count

module _ (f g : Aabb) (h : AlikeBox f g) where
  counts_alike : (b : Aabb) → counts f b ≡ counts g b
  unfolding counts
  counts_alike b = cc (
    le_alike (sub binary64 f.min.y E) b.max.y (sub binary64 g.min.y E) b.max.y (sub_alike f.min.y E g.min.y E h.min.y refl) refl,
    le_alike b.max.y (add binary64 f.max.y E) b.max.y (add binary64 g.max.y E) refl (add_alike f.max.y E g.max.y E h.max.y refl),
    lt_alike b.min.x f.max.x b.min.x g.max.x refl h.max.x,
    lt_alike f.min.x b.max.x g.min.x b.max.x h.min.x refl,
    lt_alike b.min.z f.max.z b.min.z g.max.z refl h.max.z,
    lt_alike f.min.z b.max.z g.min.z b.max.z h.min.z refl,
  )

  counting_alike : (ss : List Shape) → counting f ss ≡ counting g ss
  unfolding counting
  counting_alike [] = refl
  counting_alike (s ∷ ss) = rw (counts_alike s.box, counting_alike ss)

  shapes_alike : (sp : Space) → shapes_under sp f ≡ shapes_under sp g
  unfolding shapes_under beneath
  shapes_alike sp =
      rw (
        floor_alike f.min.y g.min.y h.min.y,
        floor_alike f.max.y g.max.y h.max.y,
        floor_alike f.min.x g.min.x h.min.x,
        ceil_alike f.max.x g.max.x h.max.x,
        floor_alike f.min.z g.min.z h.min.z,
        ceil_alike f.max.z g.max.z h.max.z,
      )

-- ---- intervals that are alike

pub record AlikeInterval (i j : Interval) : Type 0 where
  pub begin : Alike i.begin j.begin
  pub end : Alike i.end j.end

-- two of them, or none of both; and so many
data AlikeOption : Option Interval → Option Interval → Type 0 where
  neither : AlikeOption None None
  both : {i j : Interval} → AlikeInterval i j → AlikeOption (Some i) (Some j)

data AlikeList : List Interval → List Interval → Type 0 where
  no_more : AlikeList [] []
  one_more : {i j : Interval} {is js : List Interval} → AlikeInterval i j → AlikeList is js → AlikeList (i ∷ is) (j ∷ js)

-- an interval that does not begin behind its end
abbrev proper : Interval → Option Interval
proper i = cond (le i.begin i.end) (Some i) None

proper_alike : (i j : Interval) → AlikeInterval i j → AlikeOption (proper i) (proper j)
proper_alike i j h = rw (le_alike i.begin i.end j.begin j.end h.begin h.end) (kept (le j.begin j.end))
  where
    kept : (b : Bool) → AlikeOption (cond b (Some i) None) (cond b (Some j) None)
    kept true = both h
    kept false = neither

-- the same test leaves out both or none
dropped : (b : Bool) {i j : Interval} → AlikeInterval i j → AlikeOption (cond b None (Some i)) (cond b None (Some j))
dropped true h = neither
dropped false h = both h

then_alike : {o u : Option Interval} {f g : Interval → Option Interval} → AlikeOption o u → ((i j : Interval) → AlikeInterval i j → AlikeOption (f i) (g j)) → AlikeOption (and_then o f) (and_then u g)
then_alike neither k = neither
then_alike (both h) k = k _ _ h

ahead_alike : {o u : Option Interval} {is js : List Interval} → AlikeOption o u → AlikeList is js → AlikeList (ahead o is) (ahead u js)
ahead_alike neither k = k
ahead_alike (both h) k = one_more h k

-- ---- the part of the line above a box

zero_equal : (d : Float) → Zero d → eq d nought ≡ true
zero_equal d z = eq_alike d nought nought nought (zero_alike d z) refl ∙ base
  where
    base : eq nought nought ≡ true
    base = unfold eq of_bits in refl

-- along one axis
module _ (s t least greatest : Float) (i j : Interval) (h : Alike s t) (k : AlikeInterval i j) where
  beside : (lt s least || lt greatest s) ≡ (lt t least || lt greatest t)
  beside = cc (lt_alike s least t least h refl, lt_alike greatest s greatest t refl h)

  module _ (d : Float) where
    bounded : Float → Interval → Interval
    bounded v l =
        let a = div binary64 (sub binary64 least v) d in
        let b = div binary64 (sub binary64 greatest v) d in
        record { begin = larger l.begin (smaller a b); end = smaller l.end (larger a b) }

    bounded_alike : AlikeInterval (bounded s i) (bounded t j)
    unfolding bounded
    bounded_alike =
        let a = div_alike (sub binary64 least s) (sub binary64 least t) d (sub_alike least s least t refl h) in
        let b = div_alike (sub binary64 greatest s) (sub binary64 greatest t) d (sub_alike greatest s greatest t refl h) in
        record {
          begin = larger_alike i.begin _ j.begin _ k.begin (smaller_alike _ _ _ _ a b);
          end = smaller_alike i.end _ j.end _ k.end (larger_alike _ _ _ _ a b);
        }

  narrowed_alike : (d e : Float) → Alike d e → AlikeOption (narrowed s d least greatest i) (narrowed t e least greatest j)
  unfolding narrowed bounded
  narrowed_alike d e l = ⊎_elim still moving (zero_or_same d e l)
    where
      still : (Zero d) × (Zero e) → AlikeOption (narrowed s d least greatest i) (narrowed t e least greatest j)
      still z = rw (zero_equal d z.0, zero_equal e z.1, beside) (dropped (lt t least || lt greatest t) k)

      go : (b : Bool) →
          AlikeOption (cond b (cond (lt s least || lt greatest s) None (Some i)) (Some (bounded e s i))) (cond b (cond (lt t least || lt greatest t) None (Some j)) (Some (bounded e t j)))
      go true = rw beside (dropped (lt t least || lt greatest t) k)
      go false = both (bounded_alike e)

      moving : d ≡ e → AlikeOption (narrowed s d least greatest i) (narrowed t e least greatest j)
      moving q = rw q (go (eq e nought))

-- the whole line
abbrev whole : Interval
whole = record { begin = nought; end = one }

module _ (p q a b : Point) (h : AlikePoint p q) (k : AlikePoint a b) where
  interval_alike : (c : Aabb) → AlikeOption (interval c p a) (interval c q b)
  unfolding interval
  interval_alike c =
      then_alike
      (narrowed_alike p.x q.x c.min.x c.max.x whole whole h.x (record { begin = refl; end = refl }) (sub binary64 a.x p.x) (sub binary64 b.x q.x) (sub_alike a.x p.x b.x q.x k.x h.x))
      (λ i j l.
      then_alike
      (narrowed_alike p.z q.z c.min.z c.max.z i j h.z l (sub binary64 a.z p.z) (sub binary64 b.z q.z) (sub_alike a.z p.z b.z q.z k.z h.z))
      proper_alike)

  intervals_alike : (ss : List Shape) → AlikeList (intervals p a ss) (intervals q b ss)
  unfolding intervals
  intervals_alike [] = no_more
  intervals_alike (s ∷ ss) = ahead_alike (interval_alike s.box) (intervals_alike ss)

-- ---- what intervals cover

reach_alike : (c d : Float) (i j : Interval) → Alike c d → AlikeInterval i j → Alike (reach_one c i) (reach_one d j)
unfolding reach_one joins
reach_alike c d i j h k =
    rw (le_alike i.begin (add binary64 c E) j.begin (add binary64 d E) k.begin (add_alike c E d E h refl)) (go (le j.begin (add binary64 d E)))
  where
    go : (b : Bool) → Alike (cond b (larger i.end c) c) (cond b (larger j.end d) d)
    go true = larger_alike i.end c j.end d k.end h
    go false = h

round_alike : {is js : List Interval} → AlikeList is js → (c d : Float) → Alike c d → Alike (round c is) (round d js)
unfolding round
round_alike no_more c d h = h
round_alike (one_more k l) c d h = round_alike l _ _ (reach_alike c d _ _ h k)

rounds_alike : (is js : List Interval) → AlikeList is js → (n : ℕ) (c d : Float) → Alike c d → Alike (rounds n c is) (rounds n d js)
unfolding rounds
rounds_alike is js l zero c d h = h
rounds_alike is js l (suc n) c d h = rounds_alike is js l n (round c is) (round d js) (round_alike l c d h)

as_many : {is js : List Interval} → AlikeList is js → length is ≡ length js
as_many no_more = refl
as_many (one_more k l) = ap suc (as_many l)

covers_alike : (is js : List Interval) → AlikeList is js → covers is ≡ covers js
unfolding covers enough
covers_alike is js l =
    rw (as_many l) (le_alike (sub binary64 one E) (rounds (length js) nought is) (sub binary64 one E) (rounds (length js) nought js) refl (rounds_alike is js l (length js) nought nought refl))

-- ---- the segment

module _ (p q a b : Point) (h : AlikePoint p q) (k : AlikePoint a b) where
  print_alike : (width : Float) → AlikeBox (footprint width p a) (footprint width q b)
  unfolding footprint span
  print_alike width = record {
    min = record {
      x = sub_alike (smaller p.x a.x) _ (smaller q.x b.x) _ (smaller_alike p.x a.x q.x b.x h.x k.x) refl;
      y = smaller_alike p.y a.y q.y b.y h.y k.y;
      z = sub_alike (smaller p.z a.z) _ (smaller q.z b.z) _ (smaller_alike p.z a.z q.z b.z h.z k.z) refl;
    };
    max = record {
      x = add_alike (larger p.x a.x) _ (larger q.x b.x) _ (larger_alike p.x a.x q.x b.x h.x k.x) refl;
      y = larger_alike p.y a.y q.y b.y h.y k.y;
      z = add_alike (larger p.z a.z) _ (larger q.z b.z) _ (larger_alike p.z a.z q.z b.z h.z k.z) refl;
    };
  }

  pub supported_alike : (sp : Space) (width : Float) → supported sp width p a ≡ supported sp width q b
  unfolding supported carried
  supported_alike sp width =
      let l = print_alike width in
      let g = footprint width q b in
      let ss = counting g (shapes_under sp g) in
      rw (shapes_alike (footprint width p a) g l sp, counting_alike (footprint width p a) g l (shapes_under sp g), covers_alike (intervals p a ss) (intervals q b ss) (intervals_alike p q a b h k ss))
