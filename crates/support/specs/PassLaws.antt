-- A pass over the shapes is a round over the intervals of those that count, unless one refuses; and what the loops of a pass go by.
use Rattle.std.specs.Prelude.{ℕ, ◌+◌, ◌-◌, ◌*◌, ◌≤◌, ◌<◌, ◌≡◌, Bool, ◌&&◌, ◌||◌, cond, ltb, Option, Some, None, is_some, unwrap_or, drop, Float}
use Rattle.std.proofs.Common.{arith, sym, ◌∙◌, subst, ltb-true, ltb-false}
use Rattle.std.proofs.Math.Path.{refl, ap}
use Rattle.std.proofs.Math.Bool.{true, false, not}
use mathlib.Core.List.{List, [], ◌∷◌, foldl-append}
use Rattle.std.specs.Float.{binary64}
use Rattle.std.specs.Float.Ieee.{lt, le, add}
use Rattle.floats.specs.Floats.{E, larger}
use Rattle.floats.specs.Order.{false_true, le_trans}
use Rattle.regions.specs.RangeLaws.{fold_stays}
use Rattle.regions.specs.Regions.{to_come}
use Rattle.regions.specs.declared.Region.{Region}
use Rattle.regions.specs.declared.Spot.{Spot}
use Rattle.world.specs.declared.Point.{Point}
use Rattle.world.specs.declared.Aabb.{Aabb}
use Rattle.world.specs.declared.Cell.{Cell}
use Rattle.world.specs.Boxes.{moved, cube}
use Rattle.world.specs.Laws.{run_none as boxes_none, run_end as boxes_end, run_more as boxes_more, both, unknown_block, known_block}
use Rattle.world.specs.Space.{Space, run, box_here, block_of}
use Rattle.support.specs.declared.Interval.{Interval}
use Rattle.support.specs.declared.Way.{Way}
use Rattle.support.specs.Cover.{joins, reach_one, round, enough, covers, CoversTo}
use Rattle.support.specs.Rounds.{beyond, falls, settles}
use Rattle.support.specs.Laws.{round_covers, not_below, within, covers_sound, covers_complete}
use Rattle.support.specs.Support.{Shape, counts, interval, counting, ahead, intervals, all_support, carried, shapes_of, shapes_at}
use Rattle.support.specs.Pass.{reach_by, step, pass, run_shapes}

-- ---- a pass as a round

pub refused_stays : (w : Way) (ss : List Shape) → pass w None ss ≡ None
unfolding step
refused_stays w ss = fold_stays (step w) None (λ s. refl) ss

round_ahead : (c : Float) (o : Option Interval) (is : List Interval) → round c (ahead o is) ≡ round (reach_by c o) is
unfolding round
round_ahead c None is = refl
round_ahead c (Some i) is = refl

-- one that nothing has refused is told by how far it covers
pub unrefused : (r : Option Float) (c : Float) → is_some r ≡ true → Some (unwrap_or r c) ≡ r
unrefused (Some d) c e = refl
unrefused None c e = cc

-- the intervals of the shapes that count, and whether all of those are supports
abbrev pub found : Way → List Shape → List Interval
found w ss = intervals w.from w.to (counting w.under ss)

abbrev pub firm : Way → List Shape → Bool
firm w ss = all_support (counting w.under ss)

pub pass_is : (w : Way) (c : Float) (ss : List Shape) → pass w (Some c) ss ≡ cond (firm w ss) (Some (round c (found w ss))) None
unfolding step counting all_support intervals round
pass_is w c [] = refl
pass_is w c (s ∷ ss) = go (λ d. pass_is w d ss) (counts w.under s.box) refl s.support refl
  where
    go : ((d : Float) → pass w (Some d) ss ≡ cond (firm w ss) (Some (round d (found w ss))) None) →
        (t : Bool) → counts w.under s.box ≡ t → (b : Bool) → s.support ≡ b →
        pass w (Some c) (s ∷ ss) ≡ cond (firm w (s ∷ ss)) (Some (round c (found w (s ∷ ss)))) None
    go f false p b q = rw p (f c)
    go f true p false q = rw (p, q) (refused_stays w ss)
    go f true p true q = rw (p, q, round_ahead c (interval s.box w.from w.to) (found w ss)) (f (reach_by c (interval s.box w.from w.to)))

-- ---- one shape, by the tests on it

-- an interval that begins at most E behind what is covered, and one that does not
module _ (c : Float) (i : Interval) where
  pub covers_more : le i.begin (add binary64 c E) ≡ true → reach_by c (Some i) ≡ larger i.end c
  unfolding reach_one joins
  covers_more e = rw e

  pub covers_none : le i.begin (add binary64 c E) ≡ false → reach_by c (Some i) ≡ c
  unfolding reach_one joins
  covers_none e = rw e

-- one that begins at most at its end, and one that does not
module _ (i : Interval) where
  abbrev proper : Option Interval
  proper = cond (le i.begin i.end) (Some i) None

  pub is_proper : le i.begin i.end ≡ true → proper ≡ Some i
  is_proper e = rw e

  pub not_proper : le i.begin i.end ≡ false → proper ≡ None
  not_proper e = rw e

module _ (w : Way) (c : Float) (support : Bool) (b : Aabb) where
  abbrev shape : Shape
  shape = record { support = support; box = b }

  -- one that counts and is a support covers more; any other covers nothing, and refuses if it counts
  pub reaches : {t : Bool} → counts w.under b ≡ t → (t && support) ≡ true → step w (Some c) shape ≡ Some (reach_by c (interval b w.from w.to))
  unfolding step
  reaches {t} e h = go t support refl e h
    where
      go : (t s : Bool) → support ≡ s → counts w.under b ≡ t → (t && s) ≡ true → step w (Some c) shape ≡ Some (reach_by c (interval b w.from w.to))
      go true true p q r = rw (p, q)
      go true false p q r = cc
      go false s p q r = cc

  pub stops : {t : Bool} → counts w.under b ≡ t → (t && support) ≡ false → step w (Some c) shape ≡ cond t None (Some c)
  unfolding step
  stops {t} e h = go t support refl e h
    where
      go : (t s : Bool) → support ≡ s → counts w.under b ≡ t → (t && s) ≡ false → step w (Some c) shape ≡ cond t None (Some c)
      go true true p q r = cc
      go true false p q r = rw (p, q)
      go false s p q r = rw q

-- ---- a run of box records

module _ (w : Way) (support : Bool) (by : Point) (s : List ℕ) (at : ℕ) where
  -- what a pass is behind n of them
  abbrev pub after : Option Float → ℕ → Option Float
  after r n = pass w r (run_shapes support by (run n s at))

  -- the table ends here
  pub run_end : (r : Option Float) (left : ℕ) → box_here s at ≡ None → after r left ≡ r
  run_end r left e = rw (boxes_end s at left e)

  -- a box, then the rest
  pub run_more : (r q : Option Float) (left : ℕ) (b : Aabb) → 0 < left → box_here s at ≡ Some b → step w r (record { support = support; box = moved b by }) ≡ q →
      after r left ≡ pass w q (run_shapes support by (run (left - 1) s (at + 48)))
  run_more r q left b h e t = rw (boxes_more s at left b h e) (ap (λ (x : Option Float). pass w x (run_shapes support by (run (left - 1) s (at + 48)))) t)

  -- no box is left, or the pass is refused
  pub run_none : (r : Option Float) (left : ℕ) → left ≤ 0 → after r left ≡ r
  run_none r left h = let z : left ≡ 0 = omega arith in rw (z, boxes_none s at)

  pub run_stops : (r : Option Float) (left : ℕ) → (ltb 0 left && is_some r) ≡ false → after r left ≡ r
  run_stops None left e = refused_stays w (run_shapes support by (run left s at))
  run_stops (Some c) left e = go (ltb 0 left) refl e
    where
      go : (t : Bool) → ltb 0 left ≡ t → (t && true) ≡ false → after (Some c) left ≡ Some c
      go true p q = absurd (let z : ◌≡◌ {A = ℕ} 0 1 = cc in omega arith)
      go false p q = run_none (Some c) left (ltb-false 0 left p)

-- ---- a box of a run, then the rest, which changes nothing where the box refuses the pass

pub run_on : (w : Way) (support : Bool) (by : Point) (bs cs : List Aabb) (b : Aabb) (r q : Option Float) → bs ≡ b ∷ cs → step w r (record { support = support; box = moved b by }) ≡ q →
    pass w r (run_shapes support by bs) ≡ pass w q (run_shapes support by cs)
run_on w support by bs cs b r q e f = rw e (ap (λ (x : Option Float). pass w x (run_shapes support by cs)) f)

pub run_refused : (w : Way) (support : Bool) (by : Point) (bs cs : List Aabb) (b : Aabb) (r : Option Float) → bs ≡ b ∷ cs → step w r (record { support = support; box = moved b by }) ≡ None →
    pass w r (run_shapes support by bs) ≡ None
run_refused w support by bs cs b r e f = run_on w support by bs cs b r None e f ∙ refused_stays w (run_shapes support by cs)

-- ---- a cell

module _ (w : Way) (r : Option Float) (boxes : List ℕ) (p : Point) where
  pub pass_unknown : pass w r (shapes_of (block_of boxes None p)) ≡ step w r (record { support = false; box = moved cube p })
  unfolding shapes_of
  pass_unknown = rw (unknown_block boxes p)

  module _ (c : Cell) where
    pub pass_known : pass w r (shapes_of (block_of boxes (Some c) p)) ≡ pass w r (run_shapes c.support p (run c.count (drop (48 * c.first) boxes) 0))
    unfolding shapes_of
    pass_known = rw (known_block boxes p c.occupied c.support c.first c.count c.through c.state)

    pub pass_empty : c.count ≡ 0 → pass w r (shapes_of (block_of boxes (Some c) p)) ≡ r
    pass_empty e = rw (pass_known, e, boxes_none (drop (48 * c.first) boxes) 0)

-- ---- the same of the cells: what one makes of the pass, then the rest

pub pass_on : (w : Way) (sp : Space) (ps qs : List Spot) (p : Spot) (r q : Option Float) → ps ≡ p ∷ qs → pass w r (shapes_of (sp p.x p.y p.z)) ≡ q →
    pass w r (shapes_at sp ps) ≡ pass w q (shapes_at sp qs)
unfolding shapes_at
pass_on w sp ps qs p r q e f = rw e (foldl-append (step w) r (shapes_of (sp p.x p.y p.z)) (shapes_at sp qs) ∙ ap (λ (x : Option Float). pass w x (shapes_at sp qs)) f)

pub pass_refused : (w : Way) (sp : Space) (ps qs : List Spot) (p : Spot) (r : Option Float) → ps ≡ p ∷ qs → pass w r (shapes_of (sp p.x p.y p.z)) ≡ None → pass w r (shapes_at sp ps) ≡ None
pass_refused w sp ps qs p r e f = pass_on w sp ps qs p r None e f ∙ refused_stays w (shapes_at sp qs)

-- the end of a region, or a pass that is refused
pub pass_stops : (w : Way) (sp : Space) (region : Region) (c : Option Spot) (r : Option Float) → (is_some c && is_some r) ≡ false → pass w r (shapes_at sp (to_come region c)) ≡ r
unfolding shapes_at
pass_stops w sp region None r e = refl
pass_stops w sp region (Some p) None e = refused_stays w (shapes_at sp (to_come region (Some p)))
pass_stops w sp region (Some p) (Some c) e = absurd (let z : ◌≡◌ {A = ℕ} 0 1 = cc in omega arith)

-- ---- a turn of a loop is taken: there is one more, and nothing has refused the pass

pub turned : (more : Bool) (r : Option Float) → (more && is_some r) ≡ true → (more ≡ true) × (is_some r ≡ true)
turned more r e = both more (is_some r) e

pub turns : (k n : ℕ) (r : Option Float) → (ltb k n && is_some r) ≡ true → (k < n) × (is_some r ≡ true)
turns k n r e = let t = turned (ltb k n) r e in (ltb-true k n t.0, t.1)

-- ---- passes, as long as they cover more

module _ (w : Way) (ss : List Shape) where
  -- how many intervals end beyond c
  abbrev pub left : Float → ℕ
  left c = beyond c (found w ss)

  -- a pass that a shape refuses
  told_refused : (c : Float) → pass w (Some c) ss ≡ None → firm w ss ≡ false
  told_refused c e = go (firm w ss) refl (sym (pass_is w c ss) ∙ e)
    where
      go : (b : Bool) → firm w ss ≡ b → cond b (Some (round c (found w ss))) None ≡ None → firm w ss ≡ false
      go true p q = absurd (let z : ◌≡◌ {A = ℕ} 0 1 = cc in omega arith)
      go false p q = p

  pub refused_not : (c : Float) → pass w (Some c) ss ≡ None → carried w.under w.from w.to ss ≡ false
  unfolding carried
  refused_not c e = go (firm w ss) refl (sym (pass_is w c ss) ∙ e)
    where
      go : (b : Bool) → firm w ss ≡ b → cond b (Some (round c (found w ss))) None ≡ None → firm w ss && covers (found w ss) ≡ false
      go true p q = cc
      go false p q = rw p

  -- one that covers the line from c to d
  module _ (c d : Float) (e : pass w (Some c) ss ≡ Some d) where
    told : (firm w ss ≡ true) × (round c (found w ss) ≡ d)
    told = go (firm w ss) refl (sym (pass_is w c ss) ∙ e)
      where
        go : (b : Bool) → firm w ss ≡ b → cond b (Some (round c (found w ss))) None ≡ Some d → (firm w ss ≡ true) × (round c (found w ss) ≡ d)
        go true p q = (p, cc)
        go false p q = absurd (let z : ◌≡◌ {A = ℕ} 0 1 = cc in omega arith)

    more : lt c d ≡ true → lt c (round c (found w ss)) ≡ true
    more k = ap (lt c) told.1 ∙ k

    -- what a pass reaches is covered, where what it began with is
    pub covered_on : CoversTo (found w ss) c → CoversTo (found w ss) d
    covered_on cov = subst (CoversTo (found w ss)) told.1 (round_covers (found w ss) (found w ss) c (λ i m. m) cov)

    enough_carried : enough d ≡ true → CoversTo (found w ss) c → carried w.under w.from w.to ss ≡ true
    unfolding carried
    enough_carried k cov = rw told.0 (covers_complete (found w ss) (d, covered_on cov, k))

    -- where nothing is covered further, nothing more can be
    short_not : enough d ≡ false → lt c d ≡ false → CoversTo (found w ss) c → carried w.under w.from w.to ss ≡ false
    unfolding carried enough
    short_not k l cov = rw told.0 (go (covers (found w ss)) refl)
      where
        fixed : round c (found w ss) ≡ c
        fixed = settles (found w ss) c (ap (lt c) told.1 ∙ l)

        go : (b : Bool) → covers (found w ss) ≡ b → b ≡ false
        go false e = refl
        go true e =
            let x = covers_sound (found w ss) e in
            false_true (sym k ∙ ap enough (sym told.1 ∙ fixed) ∙ le_trans _ x.0 c x.2 (within (found w ss) c fixed (not_below cov) x.1))

    -- the test of the code: whether this pass is the last
    abbrev pub last : Bool
    last = enough d || not (lt c d)

    pub carried_ends : last ≡ true → CoversTo (found w ss) c → carried w.under w.from w.to ss ≡ enough d
    carried_ends t cov = go (enough d) refl (lt c d) refl t
      where
        go : (s : Bool) → enough d ≡ s → (l : Bool) → lt c d ≡ l → (s || not l) ≡ true → carried w.under w.from w.to ss ≡ s
        go true q l k t = enough_carried q cov
        go false q false k t = short_not q k cov
        go false q true k t = cc

    goes_further : last ≡ false → lt c d ≡ true
    goes_further t = go (enough d) (lt c d) refl t
      where
        go : (s l : Bool) → lt c d ≡ l → (s || not l) ≡ false → lt c d ≡ true
        go true l k t = cc
        go false true k t = k
        go false false k t = cc

    pub carried_falls : last ≡ false → left d < left c
    carried_falls t = rw told.1 at (falls (found w ss) c (more (goes_further t)))
