-- A valid request's numbers are finite, fact by fact; and what the code asks, which leaves its points out.
use Rattle.std.specs.Prelude.{◌≡◌, refl, Bool, true, false, ◌&&◌, List, [], ◌∷◌, T, Float}
use Rattle.std.proofs.Common.{sym, ap, subst, ◌∙◌, true≢false}
use Rattle.std.proofs.Math.Bool.{and-false, and_assoc}
use Rattle.std.specs.Float.{nan, inf, fin}
use Rattle.std.specs.Float.Ieee.{of_bits, neg, lt}
use Rattle.std.specs.Float.Ieee.Scale.{finite}
use Rattle.floats.specs.Floats.{nought, absolute}
use Rattle.world.specs.declared.Point.{Point}
use Rattle.world.specs.declared.Body.{Body}
use Rattle.world.specs.declared.Request.{Request}
use Rattle.request.specs.Request.{finite_point, all_finite, sized, not_negative, limit, within, placed, valid_request}

-- a chain of tests, as the definitions have it, and that each of them holds
abbrev chain : Bool → List Bool → Bool
chain a [] = a
chain a (b ∷ bs) = chain (a && b) bs

abbrev Each : List Bool → Type 0
Each [] = Unit {0}
Each (b ∷ bs) = (b ≡ true) × Each bs

two : (a b : Bool) → (a && b) ≡ true → (a ≡ true) × (b ≡ true)
two true b h = (refl, h)
two false b h = absurd (subst T (sym h) tt)

each : (a : Bool) (bs : List Bool) → chain a bs ≡ true → Each (a ∷ bs)
each a [] h = (h, tt)
each a (b ∷ bs) h = let t = each (a && b) bs h in let ab = two a b t.0 in (ab.0, (ab.1, t.1))

-- ---- a point

pub record FinitePoint (p : Point) : Type 0 where
  pub x : finite p.x ≡ true
  pub y : finite p.y ≡ true
  pub z : finite p.z ≡ true

pub finite_point_lem : (p : Point) → finite_point p ≡ true → FinitePoint p
unfolding finite_point
finite_point_lem p h =
    let t = each (finite p.x) (finite p.y ∷ finite p.z ∷ []) h in record { x = t.0; y = t.1.0; z = t.1.1.0 }

-- ---- the numbers

pub record AllFinite (r : Request) (body : Body) : Type 0 where
  pub start : FinitePoint r.start
  pub goal : FinitePoint r.goal
  pub max_range_lem : finite r.max_range ≡ true
  pub step_height_lem : finite r.step_height ≡ true
  pub jump_height_lem : finite r.jump_height ≡ true
  pub max_drop_lem : finite r.max_drop ≡ true
  pub width : finite body.width ≡ true
  pub height : finite body.height ≡ true
  pub body_step : finite body.step_height ≡ true

-- ---- a valid request

module _ (r : Request) (body : Body) (h : valid_request r body ≡ true) where
  pub valid_finite : AllFinite r body
  unfolding valid_request all_finite
  valid_finite =
      let asked = chain (finite r.max_range) (finite r.step_height ∷ finite r.jump_height ∷ finite r.max_drop ∷ []) in
      let walker = chain (finite body.width) (finite body.height ∷ finite body.step_height ∷ []) in
      let t = each (finite_point r.start) (finite_point r.goal ∷ asked ∷ walker ∷ []) (each (all_finite r body) (sized body ∷ not_negative r body ∷ placed r (limit r body) ∷ []) h).0 in
      let a = each (finite r.max_range) (finite r.step_height ∷ finite r.jump_height ∷ finite r.max_drop ∷ []) t.1.1.0 in
      let w = each (finite body.width) (finite body.height ∷ finite body.step_height ∷ []) t.1.1.1.0 in
      record {
        start = finite_point_lem r.start t.0;
        goal = finite_point_lem r.goal t.1.0;
        max_range_lem = a.0;
        step_height_lem = a.1.0;
        jump_height_lem = a.1.1.0;
        max_drop_lem = a.1.1.1.0;
        width = w.0;
        height = w.1.0;
        body_step = w.1.1.0;
      }

-- ---- the tests that the code makes: a number that is smaller in size than another is finite

below : (x most : Float) → (finite x && lt (absolute x) most) ≡ lt (absolute x) most
unfolding absolute lt neg of_bits
below nan most = refl
below (inf true) nan = refl
below (inf true) (inf true) = refl
below (inf true) (inf false) = refl
below (inf true) (fin s m e) = refl
below (inf false) nan = refl
below (inf false) (inf true) = refl
below (inf false) (inf false) = refl
below (inf false) (fin s m e) = refl
below (fin s m e) most = refl

-- a test that passes wherever a part of others does, passes wherever they all do
module _ (f : Bool) where
  on_left : (a b : Bool) → (f && a) ≡ a → (f && (a && b)) ≡ (a && b)
  on_left a b e = sym (and_assoc f a b) ∙ ap (λ (x : Bool). x && b) e

  on_right : (a b : Bool) → (f && b) ≡ b → (f && (a && b)) ≡ (a && b)
  on_right true b e = e
  on_right false b e = and-false f

both : (a b w : Bool) → (a && w) ≡ w → (b && w) ≡ w → (a && b && w) ≡ w
both a b w e g = and_assoc a b w ∙ ap (λ (x : Bool). a && x) g ∙ e

three : (a b c x y z : Bool) → (a && x) ≡ x → (b && y) ≡ y → (c && z) ≡ z → (a && b && c && (x && y && z)) ≡ (x && y && z)
three a b c x y z e f g =
    both (a && b) c (x && y && z)
    (both a b (x && y && z) (on_left a (x && y) z (on_left a x y e)) (on_left b (x && y) z (on_right b x y f)))
    (on_right c (x && y) z g)

point_below : (most : Float) (p : Point) → (finite_point p && within most p) ≡ within most p
unfolding finite_point within
point_below most p = three (finite p.x) (finite p.y) (finite p.z) (lt (absolute p.x) most) (lt (absolute p.y) most) (lt (absolute p.z) most) (below p.x most) (below p.y most) (below p.z most)

abbrev pub sizes_finite : Request → Body → Bool
sizes_finite r body =
    (finite r.max_range && finite r.step_height && finite r.jump_height && finite r.max_drop)
    && (finite body.width && finite body.height && finite body.step_height)

pub valid_is : (r : Request) (body : Body) → (sizes_finite r body && sized body && not_negative r body && placed r (limit r body)) ≡ valid_request r body
unfolding valid_request all_finite placed
valid_is r body =
    let most = limit r body in
    let start = within most r.start in
    go (finite_point r.start) (finite_point r.goal) _ _ (sized body) (not_negative r body) (lt nought most && start && within most r.goal)
    (on_left (finite_point r.start) (lt nought most && start) (within most r.goal) (on_right (finite_point r.start) (lt nought most) start (point_below most r.start)))
    (on_right (finite_point r.goal) (lt nought most && start) (within most r.goal) (point_below most r.goal))
  where
    go : (s g asked walker z n p : Bool) → (s && p) ≡ p → (g && p) ≡ p → ((asked && walker) && z && n && p) ≡ ((s && g && asked && walker) && z && n && p)
    go s g asked walker z n false e f = and-false ((asked && walker) && z && n) ∙ sym (and-false ((s && g && asked && walker) && z && n))
    go true true asked walker z n true e f = refl
    go true false asked walker z n true e f = absurd (true≢false (sym f))
    go false g asked walker z n true e f = absurd (true≢false (sym e))
