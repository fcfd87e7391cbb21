-- What is in range of a valid request's start is finite: the room that a valid request leaves to its coordinates keeps its range below 2 ^ 32. And where the request is
-- not too large, each of its coordinates is in size at most 2 ^ 32.
use Rattle.std.specs.Prelude.{ℕ, ◌+◌, ◌-◌, ◌*◌, ◌≡◌, Bool, ◌&&◌, ◌||◌, ℤ, pos, Float}
use Rattle.std.proofs.Common.{arith, sym, ap, ◌∙◌, lt-ltb, leb-true}
use Rattle.std.proofs.Math.Path.{refl, subst}
use Rattle.std.proofs.Math.Bool.{true, false}
use Rattle.std.specs.Float.{nan, inf, fin}
use Rattle.std.specs.Float.Ieee.{binary64, is_nan, lt, le, eq, up, down, add, sub, neg, sum, round, of_int, of_bits}
use Rattle.std.specs.Float.Ieee.Bits.{is_true}
use Rattle.std.specs.Float.Ieee.Fits.{down_pos}
use Rattle.std.specs.Float.Ieee.Order.{round_mono}
use Rattle.std.specs.Float.Ieee.Scale.{finite}
use Rattle.exploration.proofs.Laws.Lists.{and_first, and_second, or-false}
use Rattle.floats.specs.Floats.{E, nought, absolute}
use Rattle.floats.specs.Order.{false_true, le_fin, le_right, le_trans, lt_le, not_le}
use Rattle.floats.specs.Sums.{sum_grows, within_grows}
use Rattle.floats.specs.Zeros.{le_canonical}
use Rattle.world.specs.declared.Point.{Point}
use Rattle.world.specs.declared.Body.{Body}
use Rattle.world.specs.declared.Request.{Request}
use Rattle.request.specs.Request.{number, all_finite, sized, not_negative, limit, within, placed, valid_request, sizes_too_large}
use Rattle.request.specs.Laws.{FinitePoint, valid_finite}
use Rattle.places.specs.Places.{near, in_range}
use Rattle.arrival.specs.Alike.{zero_alike, no_difference, absolute_alike}
use Rattle.claims.specs.Laws.NotNegative.{of_rounding}
use Rattle.claims.specs.Laws.Bounds.{UpTo, whole_f64, int_up_to, sum_up_to, difference_up_to, difference_back, size_up_to, from_nought_up_to}

of_three : (a b c : Bool) → (a && b && c) ≡ true → (a ≡ true) × (b ≡ true) × (c ≡ true)
of_three a b c h = let two = and_first (a && b) c h in (and_first a b two, and_second a b two, and_second (a && b) c h)

-- 2 ^ 32
abbrev big : Float
big = fin false 1 (pos 32)

-- ---- what is at least 2 ^ 32 stays so when more is added

big_is : round binary64 false 4294967296 1 ≡ big
unfolding round
big_is = refl

module _ (n : ℕ) (d : ℤ) where
  grown : le big (add binary64 big (fin false n d)) ≡ true
  unfolding add sum
  grown =
      let most = 1 * 4294967296 * down d + n * up d * 1 in
      subst (λ (x : Float). le x (round binary64 false most (1 * down d)) ≡ true) big_is
      (is_true (le (round binary64 false 4294967296 1) (round binary64 false most (1 * down d))) (round_mono binary64 4294967296 1 most (1 * down d) (omega arith) (omega (arith, down_pos d)) (omega arith)))

  stays : (x : Float) → le big x ≡ true → le big (add binary64 x (fin false n d)) ≡ true
  stays x h = le_trans big (add binary64 big (fin false n d)) (add binary64 x (fin false n d)) grown (sum_grows n d big x (unfold le of_bits in refl) h)

stays_over : (x y : Float) → finite y ≡ true → lt nought y ≡ true → le big x ≡ true → le big (add binary64 x y) ≡ true
unfolding lt of_bits
stays_over x nan f p h = false_true f
stays_over x (inf s) f p h = false_true f
stays_over x (fin true n d) f p h = false_true p
stays_over x (fin false n d) f p h = stays n d x h

-- ---- and leaves no room

most_is : number 2147483647 ≡ fin false 2147483647 (pos 0)
unfolding of_int
most_is = refl

four_is : number 4 ≡ fin false 1 (pos 2)
unfolding of_int
four_is = refl

no_room : (x : Float) → le big x ≡ true → lt nought (sub binary64 (fin false 2147483647 (pos 0)) x) ≡ false
unfolding sub add neg sum lt of_bits
no_room nan h = false_true (unfold le eq in h)
no_room (inf true) h = false_true (unfold le eq in h)
no_room (inf false) h = refl
no_room (fin true m e) h = absurd (omega (arith, down_pos e, leb-true (1 * 4294967296 * down e + m * up e * 1) 0 (sym (le_fin false 1 (pos 32) true m e) ∙ h)))
no_room (fin false m e) h =
    let least = leb-true (1 * 4294967296 * down e) (m * up e * 1) (sym (le_fin false 1 (pos 32) false m e) ∙ h) in
    rw (lt-ltb (2147483647 * 1 * down e) (m * up e * 1) (omega (arith, down_pos e)))
    (of_rounding (λ x. lt nought x ≡ false) true (λ m e. refl) refl (m * up e * 1 - 2147483647 * 1 * down e) (1 * down e))

-- ---- what is near to a finite number is finite

not_over : (x : Float) → finite x ≡ true → le (inf false) x ≡ false
unfolding le lt eq
not_over nan f = refl
not_over (inf s) f = false_true f
not_over (fin s m e) f = refl

end_finite : finite (add binary64 big E) ≡ true
unfolding add of_bits
end_finite = refl

near_end : (a b : Float) → finite b ≡ true → le (absolute (sub binary64 a b)) (add binary64 big E) ≡ true → finite a ≡ true
unfolding absolute sub neg lt of_bits
near_end (fin s m e) b f h = refl
near_end nan b f h = false_true (unfold le eq in h)
near_end (inf s) nan f h = false_true f
near_end (inf s) (inf t) f h = false_true f
near_end (inf true) (fin t n d) f h = false_true (sym (not_over (add binary64 big E) end_finite) ∙ h)
near_end (inf false) (fin t n d) f h = false_true (sym (not_over (add binary64 big E) end_finite) ∙ h)

-- ---- a valid request's range

module _ (r : Request) (body : Body) (valid : valid_request r body ≡ true) where
  tested : (sized body ≡ true) × (not_negative r body ≡ true) × (placed r (limit r body) ≡ true)
  unfolding valid_request
  tested =
      let front = and_first (all_finite r body && sized body && not_negative r body) (placed r (limit r body)) valid in (
        and_second (all_finite r body) (sized body) (and_first (all_finite r body && sized body) (not_negative r body) front),
        and_second (all_finite r body && sized body) (not_negative r body) front,
        and_second (all_finite r body && sized body && not_negative r body) (placed r (limit r body)) valid,
      )

  sizes : (lt nought body.width ≡ true) × (lt nought body.height ≡ true)
  unfolding sized
  sizes = (and_first _ (lt nought body.height) tested.0, and_second (lt nought body.width) _ tested.0)

  room : lt nought (limit r body) ≡ true
  unfolding placed
  room = and_first _ (within (limit r body) r.start) (and_first _ (within (limit r body) r.goal) tested.2)

  range_not_negative : le nought r.max_range ≡ true
  unfolding not_negative
  range_not_negative = and_first _ _ (and_first _ _ (and_first _ _ (and_first _ _ tested.1)))

  range_below : le r.max_range big ≡ true
  unfolding limit
  range_below = go (le big r.max_range) refl
    where
      go : (b : Bool) → le big r.max_range ≡ b → le r.max_range big ≡ true
      go false e = lt_le r.max_range big (not_le big r.max_range (unfold is_nan in refl) (le_right nought r.max_range range_not_negative) e)
      go true e =
          let f = valid_finite r body valid in
          let w = stays_over r.max_range body.width f.width sizes.0 e in
          let h = stays_over (add binary64 r.max_range body.width) body.height f.height sizes.1 w in
          let s = stays 1 (pos 2) (add binary64 (add binary64 r.max_range body.width) body.height) h in
          false_true (sym (no_room _ s) ∙ (rw (most_is, four_is) at room))

  -- max_range + E
  reach_below : le (add binary64 r.max_range E) (add binary64 big E) ≡ true
  reach_below = within_grows r.max_range big range_not_negative range_below

  near_finite : (a b : Float) → finite b ≡ true → near (add binary64 r.max_range E) a b ≡ true → finite a ≡ true
  near_finite a b f h = near_end a b f (le_trans (absolute (sub binary64 a b)) (add binary64 r.max_range E) (add binary64 big E) h reach_below)

  pub in_range_finite : (p : Point) → in_range r p ≡ true → FinitePoint p
  unfolding in_range
  in_range_finite p h =
      let most = add binary64 r.max_range E in
      let s = (valid_finite r body valid).start in
      let t = of_three (near most p.x r.start.x) (near most p.y r.start.y) (near most p.z r.start.z) h in
      record {
        x = near_finite p.x r.start.x s.x t.0;
        y = near_finite p.y r.start.y s.y t.1;
        z = near_finite p.z r.start.z s.z t.2;
      }

  -- the start itself, which differs from itself by a zero
  reach_not_negative : le nought (add binary64 r.max_range E) ≡ true
  unfolding of_bits
  reach_not_negative =
      le_trans nought (add binary64 nought E) (add binary64 r.max_range E) (unfold add le lt eq in refl)
      (within_grows nought r.max_range (unfold le lt eq in refl) range_not_negative)

  near_itself : (a : Float) → finite a ≡ true → near (add binary64 r.max_range E) a a ≡ true
  near_itself a h =
      let most = add binary64 r.max_range E in
      let none = absolute_alike (sub binary64 a a) nought (zero_alike (sub binary64 a a) (no_difference a a refl h)) in
      sym (le_canonical (absolute (sub binary64 a a)) most) ∙ ap (λ (x : Float). le x most) none ∙ le_canonical (absolute nought) most ∙ (unfold absolute lt of_bits in reach_not_negative)

  pub start_in_range : in_range r r.start ≡ true
  unfolding in_range
  start_in_range =
      let s = (valid_finite r body valid).start in
      let x = near_itself r.start.x s.x in
      let y = near_itself r.start.y s.y in
      let z = near_itself r.start.z s.z in
      rw (x, y, z)

-- ---- and bounded, where the request is not too large

pub record UpToPoint (n : ℕ) (p : Point) : Type 0 where
  pub x : UpTo n p.x
  pub y : UpTo n p.y
  pub z : UpTo n p.z

E_up_to : UpTo 1 E
unfolding absolute le lt eq neg of_int of_bits
E_up_to = size_up_to 1 E (int_up_to 1 (omega arith)) refl

module _ (r : Request) (body : Body) (valid : valid_request r body ≡ true) (small : sizes_too_large r body ≡ false) where
  not_larger : (lt (number 64) r.max_range ≡ false) × (lt (number 8) body.width ≡ false) × (lt (number 16) body.height ≡ false)
  unfolding sizes_too_large
  not_larger =
      let two = or-false (lt (number 64) r.max_range || lt (number 8) body.width) (lt (number 16) body.height) small in
      let one = or-false (lt (number 64) r.max_range) (lt (number 8) body.width) two.0 in
      (one.0, one.1, two.1)

  range_up_to : UpTo 64 r.max_range
  range_up_to = from_nought_up_to 64 r.max_range (omega arith) (range_not_negative r body valid) not_larger.0

  width_up_to : UpTo 8 body.width
  width_up_to = from_nought_up_to 8 body.width (omega arith) (lt_le nought body.width (sizes r body valid).0) not_larger.1

  height_up_to : UpTo 16 body.height
  height_up_to = from_nought_up_to 16 body.height (omega arith) (lt_le nought body.height (sizes r body valid).1) not_larger.2

  -- 2147483647 and 64 + 8 + 16 + 4
  limit_up_to : UpTo 2147483739 (limit r body)
  unfolding limit
  limit_up_to =
      difference_up_to 2147483647 92 (whole_f64 2147483739 (omega arith)) (int_up_to 2147483647 (omega arith))
      (sum_up_to 88 4 (whole_f64 92 (omega arith)) (sum_up_to 72 16 (whole_f64 88 (omega arith)) (sum_up_to 64 8 (whole_f64 72 (omega arith)) range_up_to width_up_to) height_up_to) (int_up_to 4 (omega arith)))

  within_up_to : (p : Point) → within (limit r body) p ≡ true → UpToPoint 2147483739 p
  unfolding within
  within_up_to p h =
      let most = limit r body in
      let t = of_three (lt (absolute p.x) most) (lt (absolute p.y) most) (lt (absolute p.z) most) h in
      record { x = each p.x t.0; y = each p.y t.1; z = each p.z t.2 }
    where
      each : (a : Float) → lt (absolute a) (limit r body) ≡ true → UpTo 2147483739 a
      each a h = size_up_to 2147483739 a limit_up_to (lt_le (absolute a) (limit r body) h)

  ends_placed : (lt nought (limit r body) ≡ true) × (within (limit r body) r.start ≡ true) × (within (limit r body) r.goal ≡ true)
  unfolding placed
  ends_placed = of_three (lt nought (limit r body)) (within (limit r body) r.start) (within (limit r body) r.goal) (tested r body valid).2

  start_up_to : UpToPoint 2147483739 r.start
  start_up_to = within_up_to r.start ends_placed.1

  pub goal_up_to : UpToPoint 2147483739 r.goal
  goal_up_to = within_up_to r.goal ends_placed.2

  -- 66 more: max_range + E is at most 65, and what differs by 66 has a difference of at least 66 when it is rounded
  near_up_to : (a b : Float) → UpTo 2147483739 b → near (add binary64 r.max_range E) a b ≡ true → UpTo 2147483805 a
  near_up_to a b u h =
      difference_back 65 2147483739 (whole_f64 66 (omega arith)) a b u
      (size_up_to 65 (sub binary64 a b) (sum_up_to 64 1 (whole_f64 65 (omega arith)) range_up_to E_up_to) h)

  pub in_range_up_to : (p : Point) → in_range r p ≡ true → UpToPoint 2147483805 p
  unfolding in_range
  in_range_up_to p h =
      let most = add binary64 r.max_range E in
      let s = start_up_to in
      let t = of_three (near most p.x r.start.x) (near most p.y r.start.y) (near most p.z r.start.z) h in
      record { x = near_up_to p.x r.start.x s.x t.0; y = near_up_to p.y r.start.y s.y t.1; z = near_up_to p.z r.start.z s.z t.2 }
