-- Every word of a route is below 2^64: it is the same, by 01's rules, as the word of an f64, of a movement or of a door.
use Rattle.std.specs.Prelude.{ℕ, refl, Bool, true, false, ◌&&◌, List, map, eqb, Option, Some}
use native.Mathlib.Omega.{arith}
use Rattle.std.proofs.Math.Path.{◌≡◌}
use Rattle.std.proofs.Common.{sym, eqb-true}
use Rattle.std.proofs.Math.Logic.{⊎_elim}
use Rattle.exploration.specs.Lists.{has}
use Rattle.exploration.specs.Graph.{Way, arrived, connected, stepped, Route, route, has_step, labelled, connects}
use Rattle.exploration.proofs.Laws.Lists.{or_cases, and_first, and_second}
use Rattle.floats.specs.Laws.{bits_below}
use Rattle.fields.specs.Records.{Fill}
use Rattle.world.specs.declared.Body.{Body}
use Rattle.world.specs.declared.Point.{Point}
use Rattle.world.specs.declared.Request.{Request}
use Rattle.world.specs.Space.{Space}
use Rattle.moves.specs.declared.answer.Movement.{Movement}
use Rattle.moves.specs.declared.answer.Waypoint.{Waypoint}
use Rattle.moves.specs.Moves.{movement_number}
use Rattle.steps.specs.Columns.{steps_from}
use Rattle.words.specs.Words.{point_of, feet_of, label_of, step_of, label_if}
use Rattle.steps.specs.Graph.{graph}
use Rattle.rooms.specs.Waypoints.{standing, canonical_word, same_word, same_point, alike}
use Rattle.rooms.specs.declared.Feet.{Feet}
use Rattle.rooms.specs.declared.Label.{Label}
use Rattle.rooms.specs.Records.{waypoint_layout, waypoint_words}
use Rattle.walk_back.specs.Movements.{movement_few}
use Rattle.claims.specs.Words.{InF64}
use Rattle.claims.specs.Laws.Doors.{Word, DooredSpace, connector_door}
use Rattle.claims.specs.Laws.Fits.{Each, end, more, F64, Made, MadeWhole, MadeIf, nowhere, made, connector_made}

-- ---- words

canon_below : (a b : ℕ) → canonical_word a ≡ canonical_word b → Word a → Word b
unfolding canonical_word
canon_below a b e h = go (eqb b 0x8000_0000_0000_0000) refl (eqb a 0x8000_0000_0000_0000) refl
  where
    go : (q : Bool) → eqb b 0x8000_0000_0000_0000 ≡ q → (p : Bool) → eqb a 0x8000_0000_0000_0000 ≡ p → Word b
    go true f p g = omega (arith, eqb-true b 0x8000_0000_0000_0000 f)
    go false f true g = let z : 0 ≡ b = rw (f, g) at e in omega arith
    go false f false g = let z : a ≡ b = rw (f, g) at e in omega arith

same_below : (a b : ℕ) → same_word a b ≡ true → Word a → Word b
unfolding same_word
same_below a b e h = canon_below a b (eqb-true (canonical_word a) (canonical_word b) e) h

same_above : (a b : ℕ) → same_word a b ≡ true → Word b → Word a
unfolding same_word
same_above a b e h = canon_below b a (sym (eqb-true (canonical_word a) (canonical_word b) e)) h

-- ---- points and labels

pub record Point64 (p : Feet) : Type 0 where
  pub x : Word p.x
  pub y : Word p.y
  pub z : Word p.z

pub record Label64 (l : Label) : Type 0 where
  pub lift : Word l.lift
  pub movement : Word l.movement
  pub door : Word l.door

pub record Words64 (w : Feet × Label) : Type 0 where
  pub point : Point64 w.0
  pub label : Label64 w.1

pub fills : (w : Feet × Label) → Words64 w → Fill waypoint_layout (waypoint_words w.0 w.1)
fills w h = (h.point.x, (h.point.y, (h.point.z, (h.label.lift, (h.label.movement, (h.label.door, tt))))))

pub feet_below : (p : Point) → F64 p.x → F64 p.y → F64 p.z → Point64 (feet_of p)
unfolding feet_of
feet_below p x y z = record { x = bits_below p.x x; y = bits_below p.y y; z = bits_below p.z z }

movement_below : (m : Movement) → Word (movement_number m)
movement_below m = omega (arith, movement_few m)

label_below : (w : Waypoint) → Made w → Word w.door → Label64 (label_of w)
unfolding label_of
label_below w h d = record { lift = bits_below w.lift h.lift; movement = movement_below w.movement; door = d }

module _ (p q : Feet) (e : same_point p q ≡ true) where
  apart : (same_word p.x q.x ≡ true) × ((same_word p.y q.y ≡ true) × (same_word p.z q.z ≡ true))
  unfolding same_point
  apart =
      let two = and_first (same_word p.x q.x && same_word p.y q.y) _ e in
      (and_first (same_word p.x q.x) _ two, (and_second (same_word p.x q.x) _ two, and_second (same_word p.x q.x && same_word p.y q.y) _ e))

  point_below : Point64 p → Point64 q
  point_below h = record {
    x = same_below p.x q.x apart.0 h.x;
    y = same_below p.y q.y apart.1.0 h.y;
    z = same_below p.z q.z apart.1.1 h.z;
  }

  point_above : Point64 q → Point64 p
  point_above h = record {
    x = same_above p.x q.x apart.0 h.x;
    y = same_above p.y q.y apart.1.0 h.y;
    z = same_above p.z q.z apart.1.1 h.z;
  }

alike_below : (a b : Label) → alike a b ≡ true → Label64 a → Label64 b
unfolding alike
alike_below a b e h =
    let rest = and_second (eqb a.movement b.movement) _ e in
    record {
      lift = same_below a.lift b.lift (and_first (same_word a.lift b.lift) _ rest) h.lift;
      movement = let z = eqb-true a.movement b.movement (and_first (eqb a.movement b.movement) _ e) in omega (arith, h.movement);
      door = let z = eqb-true a.door b.door (and_second (same_word a.lift b.lift) _ rest) in omega (arith, h.door);
    }

-- ---- a route

module _ (sp : Space) (r : Request) (body : Body) (f : InF64 r) (doored : DooredSpace sp) (made_steps : (p : Feet) → Each MadeWhole (steps_from sp r body (point_of p))) where
  among : (w : Feet × Label) {ws : List Waypoint} → Each MadeWhole ws → has (λ v. same_point v.0 w.0 && alike v.1 w.1) (map step_of ws) ≡ true → Words64 w
  unfolding step_of
  among w end e = absurd (let z : ◌≡◌ {A = ℕ} 0 1 = cc in omega arith)
  among w (more {x = v} {xs = ws} p ps) e = ⊎_elim
      (λ h. record {
        point = point_below (feet_of v.feet) w.0 (and_first (same_point (feet_of v.feet) w.0) _ h) (feet_below v.feet p.made.x p.made.y p.made.z);
        label = alike_below (label_of v) w.1 (and_second (same_point (feet_of v.feet) w.0) _ h) (label_below v p.made p.door);
      })
      (λ h. among w ps h)
      (or_cases (same_point (feet_of v.feet) w.0 && alike (label_of v) w.1) _ e)

  step_below : (p : Feet) (w : Feet × Label) → has_step (graph sp r body) p w ≡ true → Words64 w
  unfolding graph
  step_below p w e = among w (made_steps p) e

  labelled_below : {a : Option Waypoint} → MadeIf a → ((w : Waypoint) → a ≡ Some w → Word w.door) → (l : Label) → labelled (graph sp r body) (label_if a) l ≡ true → Label64 l
  unfolding graph
  labelled_below nowhere d l e = absurd (let z : ◌≡◌ {A = ℕ} 0 1 = cc in omega arith)
  labelled_below (made {w = v} p) d l e = alike_below (label_of v) l e (label_below v p (d v refl))

  connected_below : (p : Feet) (w : Feet × Label) → connects (graph sp r body) p w ≡ true →
      (graph sp r body).same w.0 (graph sp r body).goal ≡ true → Words64 w
  unfolding graph
  connected_below p w e g = record {
    point = point_above w.0 (feet_of r.goal) g (feet_below r.goal f.goal_x f.goal_y f.goal_z);
    label = labelled_below (connector_made sp r body f (point_of p)) (connector_door sp doored r body (point_of p)) w.1 e;
  }

  way_below : {p : Feet} {t : List (Feet × Label)} → Way (graph sp r body) p t → Each Words64 t
  way_below (arrived e) = end
  way_below (connected {p = p} {w = w} e g) = more (connected_below p w e g) end
  way_below (stepped {p = p} {w = w} e v) = more (step_below p w e) (way_below v)

  first_below : (w : Feet × Label) → (graph sp r body).same (graph sp r body).start w.0 ≡ true →
      (graph sp r body).alike (graph sp r body).start_label w.1 ≡ true → Words64 w
  unfolding graph
  first_below w s a = record {
    point = point_below (feet_of r.start) w.0 s (feet_below r.start f.start_x f.start_y f.start_z);
    label = alike_below standing w.1 a (record { lift = omega arith; movement = omega arith; door = omega arith });
  }

  pub route_below : {t : List (Feet × Label)} → Route (graph sp r body) t → Each Words64 t
  route_below (route {w = w} s a v) = more (first_below w s a) (way_below v)
