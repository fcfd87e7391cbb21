-- What the code goes by: each of its paths, in the words of the definitions.
use Rattle.std.specs.Prelude.{ℕ, ◌+◌, ◌≤◌, ◌<◌, ◌≡◌, Bool, not, ◌&&◌, ◌||◌, cond, List, [], ◌∷◌, ◌++◌, map, eqb, ltb, Option, Some, None, is_some}
use Rattle.std.proofs.Common.{arith, sym, ap, ◌∙◌, eq-eqb, ne_eqb, eqb-true, ltb-true}
use Rattle.std.proofs.Math.Path.{refl}
use Rattle.std.proofs.Math.Bool.{true, false}
use Rattle.std.proofs.lemmas.Bool.{eqb-false}
use Rattle.exploration.specs.Lists.{has}
use Rattle.exploration.specs.Graph.{has_step, labelled, connects}
use Rattle.exploration.specs.WalkBack.{joined}
use Rattle.world.specs.declared.Point.{Point}
use Rattle.world.specs.declared.Body.{Body}
use Rattle.world.specs.declared.Request.{Request}
use Rattle.world.specs.Space.{Space}
use Rattle.moves.specs.declared.answer.Waypoint.{Waypoint}
use Rattle.edges.specs.Edges.{connector}
use Rattle.sides.specs.declared.Sides.{Sides}
use Rattle.sides.specs.Sides.{no_sides, looked_by, answered_by, level_to}
use Rattle.steps.specs.Columns.{ahead, level, column_if, steps_from}
use Rattle.steps.specs.Expansion.{columns_from, columns_begin, columns_on, columns_end, sides_before, sides_begin, sides_on, skipped, steps_after, column_begins, noted_none, noted_on}
use Rattle.steps.specs.Graph.{graph}
use Rattle.rooms.specs.declared.Feet.{Feet}
use Rattle.rooms.specs.declared.Label.{Label}
use Rattle.rooms.specs.declared.WaypointRecord.{WaypointRecord}
use Rattle.rooms.specs.Waypoints.{canonical_word, same_word, same_point, alike}
use Rattle.words.specs.Words.{point_of, feet_of, step_of, label_if}
use Rattle.listed.specs.Listed.{entry}
use Rattle.listed.specs.Compared.{leads_to, labelled_by}

-- ---- one edge, and the edges of a column

-- What was noted of the edges of a column, where these of them are left: one leads to the record; or none did so far, and whether one was level.
abbrev pub Noted : WaypointRecord → Point → List Waypoint → Option Bool → List Waypoint → Type 0
Noted v from ws None left = has (leads_to v) ws ≡ true
Noted v from ws (Some noted) left = (has (leads_to v) ws ≡ has (leads_to v) left) × (level from ws ≡ (noted || level from left))

-- a column that is not looked at, or of which an edge has led to the record, is not gone through further
pub noted_over : (v : WaypointRecord) (from : Point) (ws : List Waypoint) (looked : Bool) (noted : Option Bool) (left : List Waypoint) →
    Noted v from ws noted (cond looked left []) → (looked && is_some noted) ≡ false → Noted v from ws noted []
noted_over v from ws true None left h e = h
noted_over v from ws true (Some noted) left h e = absurd (let z : ◌≡◌ {A = ℕ} 0 1 = cc in omega arith)
noted_over v from ws false noted left h e = h

module _ (v : WaypointRecord) (from : Point) (ws : List Waypoint) (noted : Bool) {left : List Waypoint} (h : Noted v from ws (Some noted) left) where
  pub noted_all : left ≡ [] → Noted v from ws (Some noted) []
  noted_all e = rw e at h

  module _ (e : Option Waypoint) (later : List Waypoint) (next : left ≡ ahead e later) where
    pub noted_nowhere : e ≡ None → Noted v from ws (Some noted) later
    noted_nowhere n = let z : left ≡ later = rw n at next in rw z at h

    module _ (step : Waypoint) (n : e ≡ Some step) where
      there : left ≡ step ∷ later
      there = rw n at next

      pub noted_met : leads_to v step ≡ true → Noted v from ws None []
      noted_met m = h.0 ∙ rw (there, m)

      pub noted_to : leads_to v step ≡ false → Noted v from ws (Some (noted || level_to from step.feet)) later
      noted_to m = (h.0 ∙ rw (there, m), h.1 ∙ ap (λ (l : List Waypoint). noted || level from l) there ∙ noted_on from noted step later)

-- ---- the columns

module _ {A : Type 0} (p : A → Bool) where
  pub has_here : (xs ys : List A) → has p xs ≡ true → has p (xs ++ ys) ≡ true
  has_here [] ys e = absurd (let z : ◌≡◌ {A = ℕ} 0 1 = cc in omega arith)
  has_here (x ∷ xs) ys e = go (p x) e (has_here xs ys)
    where
      go : (b : Bool) → (b || has p xs) ≡ true → (has p xs ≡ true → has p (xs ++ ys) ≡ true) → (b || has p (xs ++ ys)) ≡ true
      go true e on = refl
      go false e on = on e

  pub has_later : (xs ys : List A) → has p xs ≡ false → has p (xs ++ ys) ≡ has p ys
  has_later [] ys e = refl
  has_later (x ∷ xs) ys e = go (p x) e (has_later xs ys)
    where
      go : (b : Bool) → (b || has p xs) ≡ false → (has p xs ≡ false → has p (xs ++ ys) ≡ has p ys) → (b || has p (xs ++ ys)) ≡ has p ys
      go true e on = absurd (let z : ◌≡◌ {A = ℕ} 0 1 = cc in omega arith)
      go false e on = on e

has_of : {A B : Type 0} (p : B → Bool) (f : A → B) (xs : List A) → has (λ x. p (f x)) xs ≡ has p (map f xs)
has_of p f [] = refl
has_of p f (x ∷ xs) = ap (λ (b : Bool). p (f x) || b) (has_of p f xs)

module _ (sp : Space) (r : Request) (body : Body) (from : Point) (n : ℕ) where
  -- ---- one column, height after height

  -- a column that is not looked at has no edges
  pub begun_not : (v : WaypointRecord) {looked : Bool} → looked ≡ looked_by (sides_before sp r body from n) n → looked ≡ false → Noted v from (column_if sp r body from n) (Some false) []
  begun_not v e o = rw (skipped sp r body from n (sym e ∙ o)) (refl, refl)

  column_is : column_if sp r body from n ≡ cond (looked_by (sides_before sp r body from n) n) (steps_after sp r body from n None) []
  column_is = go (looked_by (sides_before sp r body from n) n) refl
    where
      go : (b : Bool) → looked_by (sides_before sp r body from n) n ≡ b → column_if sp r body from n ≡ cond b (steps_after sp r body from n None) []
      go true e = column_begins sp r body from n e
      go false e = skipped sp r body from n e

  pub begun : (v : WaypointRecord) {looked : Bool} → looked ≡ looked_by (sides_before sp r body from n) n → looked ≡ true →
      Noted v from (column_if sp r body from n) (Some false) (steps_after sp r body from n None)
  begun v e o = rw (column_begins sp r body from n (sym e ∙ o)) (refl, refl)

-- ---- column after column

-- a column is looked for while there is one and none before it has met the record
pub in_turn_lem : (n : ℕ) (met : Bool) → (ltb n 9 && not met) ≡ true → n < 9
in_turn_lem n met g = go (ltb n 9) refl g
  where
    go : (l : Bool) → ltb n 9 ≡ l → (l && not met) ≡ true → n < 9
    go true e g = ltb-true n 9 e
    go false e g = absurd (let z : ◌≡◌ {A = ℕ} 0 1 = cc in omega arith)

-- what the columns before column n have said: none of their steps leads to the record; and their side answers
pub record Tried (sp : Space) (r : Request) (body : Body) (from : Point) (v : WaypointRecord) (s : Sides) (n : ℕ) : Type 0 where
  pub answers : s ≡ sides_before sp r body from n
  pub ahead_of : has (leads_to v) (steps_from sp r body from) ≡ has (leads_to v) (columns_from sp r body from n)

module _ (sp : Space) (r : Request) (body : Body) (from : Point) (v : WaypointRecord) where
  pub tried_none : (s : Sides) → s ≡ no_sides → Tried sp r body from v s 0
  tried_none s e = record { answers = e ∙ sym (sides_begin sp r body from); ahead_of = ap (has (leads_to v)) (columns_begin sp r body from) }

  module _ {s : Sides} {n : ℕ} (h : Tried sp r body from v s n) where
    pub tried_over : 9 ≤ n → false ≡ has (leads_to v) (steps_from sp r body from)
    tried_over l = sym (h.ahead_of ∙ ap (has (leads_to v)) (columns_end sp r body from n l))

    -- the column is looked at by the answers of the sides before it
    pub looked_is : looked_by s n ≡ looked_by (sides_before sp r body from n) n
    looked_is = ap (λ (t : Sides). looked_by t n) h.answers

    module _ (l : n < 9) where
      on : has (leads_to v) (steps_from sp r body from) ≡ has (leads_to v) (column_if sp r body from n ++ columns_from sp r body from (n + 1))
      on = h.ahead_of ∙ ap (has (leads_to v)) (columns_on sp r body from n l)

      pub tried_met : Noted v from (column_if sp r body from n) None [] → true ≡ has (leads_to v) (steps_from sp r body from)
      tried_met k = sym (on ∙ has_here (leads_to v) (column_if sp r body from n) (columns_from sp r body from (n + 1)) k)

      pub tried_next : (level : Bool) → Noted v from (column_if sp r body from n) (Some level) [] → Tried sp r body from v (answered_by s n level) (n + 1)
      tried_next level k = record {
        answers = rw (h.answers, sym (k.1 ∙ noted_none from level)) (sym (sides_on sp r body from n));
        ahead_of = on ∙ has_later (leads_to v) (column_if sp r body from n) (columns_from sp r body from (n + 1)) k.0;
      }

-- ---- one pair

-- the connector has a record's movement, lift and door
abbrev pub connector_to : Space → Request → Body → Point → WaypointRecord → Bool
connector_to sp r body from v = labelled_by (connector sp r body from) v.label

-- which of two points is named first does not matter
eqb_turned : (a b : ℕ) → eqb a b ≡ eqb b a
eqb_turned a b = go (eqb a b) refl
  where
    go : (o : Bool) → eqb a b ≡ o → eqb a b ≡ eqb b a
    go true e = e ∙ sym (eq-eqb b a (sym (eqb-true a b e)))
    go false e = e ∙ sym (ne_eqb b a (λ i. eqb-false a b e (sym i)))

pub turned : (p q : Feet) → same_point p q ≡ same_point q p
unfolding same_point same_word
turned p q = λ i. eqb_turned (canonical_word p.x) (canonical_word q.x) i && eqb_turned (canonical_word p.y) (canonical_word q.y) i && eqb_turned (canonical_word p.z) (canonical_word q.z) i

module _ (sp : Space) (r : Request) (body : Body) (p : Feet) (v : WaypointRecord) where
  step_is : has (leads_to v) (steps_from sp r body (point_of p)) ≡ has_step (graph sp r body) p (entry v)
  unfolding graph step_of leads_to
  step_is = has_of (λ (u : Feet × Label). same_point u.0 v.feet && alike u.1 v.label) step_of (steps_from sp r body (point_of p))

  connector_is : connector_to sp r body (point_of p) v ≡ connects (graph sp r body) p (entry v)
  unfolding graph
  connector_is = go (connector sp r body (point_of p))
    where
      go : (e : Option Waypoint) → labelled_by e v.label ≡ labelled (graph sp r body) (label_if e) v.label
      go None = refl
      go (Some step) = refl

  -- as the code asks: a graph step, and where there is none the connector
  pub joined_is : (last : Bool) →
      (has (leads_to v) (steps_from sp r body (point_of p)) || ((last && same_point (feet_of r.goal) v.feet) && connector_to sp r body (point_of p) v)) ≡ joined (graph sp r body) last p (entry v)
  unfolding graph
  joined_is last = rw (step_is, connector_is, turned (feet_of r.goal) v.feet) (go (has_step (graph sp r body) p (entry v)) last (same_point v.feet (feet_of r.goal)) (connects (graph sp r body) p (entry v)))
    where
      go : (s a b c : Bool) → (s || ((a && b) && c)) ≡ (s || (a && (c && b)))
      go true a b c = refl
      go false true true true = refl
      go false true true false = refl
      go false true false true = refl
      go false true false false = refl
      go false false b c = refl

  -- a graph step suffices, and where there is none the connector decides
  module _ (last : Bool) where
    pub joined_step : has (leads_to v) (steps_from sp r body (point_of p)) ≡ true → true ≡ joined (graph sp r body) last p (entry v)
    joined_step e = rw e at joined_is last

    pub joined_else : has (leads_to v) (steps_from sp r body (point_of p)) ≡ false →
        ((last && same_point (feet_of r.goal) v.feet) && connector_to sp r body (point_of p) v) ≡ joined (graph sp r body) last p (entry v)
    joined_else e = rw e at joined_is last
