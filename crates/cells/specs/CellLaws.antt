-- How the code finds a floor and a ceiling: by the whole part of a number, and by comparing the number with a whole one.
use Rattle.std.specs.Prelude.{◌≡◌, ℕ, zero, suc, ◌+◌, ◌-◌, ◌*◌, ◌/◌, ◌%◌, ◌^◌, ◌<◌, ◌≤◌, min, Bool, true, false, cond, ◌&&◌, ◌||◌, T, ℤ, pos, negsuc, ◌+ℤ◌, ◌-ℤ◌, neg_ℤ, ◌==◌, int_lt, nat_lt, refl, Float}
use Rattle.std.proofs.Common.{arith, div-add-mod', div-lt_iff_lt-mul, le-div_iff_mul-le, mul-lt-mul_of_pos_right, mul_right_comm, mul-one, mul-le-mul_right, add-mul, zero-mul, add-zero, sym, ◌∙◌, subst, lt→ltb}
use Rattle.std.proofs.Math.Nat.{min-le_right, min-eq_left, min-eq_right}
use Rattle.std.proofs.Math.Path.{ap}
use borrow.Author.Tests.{ltb-true, ltb-false, lt-ltb, le-ltb, eq-eqb, ne_eqb}
use Rattle.std.proofs.Math.IntN.{+ℤ_idr, +ℤ_one, -ℤ_one}
use Rattle.std.specs.Int.Signed.{mag}
use Rattle.std.specs.Float.Ieee.{nan, up, down, lt, le, eq, below, of_int, to_signed}
use Rattle.std.specs.Float.{inf, fin, binary64}
use Rattle.std.specs.Float.Ieee.Exact.{HasValue}
use Rattle.std.specs.Float.Ieee.Back.{round_whole}
use Rattle.std.specs.Float.Ieee.Fits.{down_pos}
use mir.Val.{bool_byte}
use Rattle.cells.specs.Cells.{down_div, up_div, ends, cell_by, floor_cell, ceil_cell}

false_true : {X : Type 0} → false ≡ true → X
false_true e = absurd (subst T (sym e) tt)

-- ---- a / d and its remainder

module _ (a d : ℕ) (p : 0 < d) where
  div_below : (n : ℕ) → a < n * d → a / d < n
  div_below n h = (div-lt_iff_lt-mul {k = d} {x = a} {y = n} p).1 h

  div_above : (n : ℕ) → n * d ≤ a → n ≤ a / d
  div_above n h = (le-div_iff_mul-le {k = d} {x = n} {y = a} p).1 h

  div_least : a / d * d ≤ a
  div_least = omega (arith, div-add-mod' a d)

  -- the quotient falls short of a: there is a fraction, and none where it does not
  up_more : a / d * d < a → up_div a d ≡ suc (a / d)
  up_more h = rw (ne_eqb (a % d) 0 (λ e. omega (arith, div-add-mod' a d)))

  up_none : a ≤ a / d * d → up_div a d ≡ a / d
  up_none h = rw (eq-eqb (a % d) 0 (omega (arith, div-add-mod' a d)))

  up_bounds : (a / d ≤ up_div a d) × (up_div a d ≤ suc (a / d))
  up_bounds = go (a % d == 0)
    where
      go : (b : Bool) → (a / d ≤ cond b (a / d) (suc (a / d))) × (cond b (a / d) (suc (a / d)) ≤ suc (a / d))
      go true = (omega arith, omega arith)
      go false = (omega arith, omega arith)

-- ---- a float and a whole number

scaled : (x y c : ℕ) → 0 < c → nat_lt (x * c) (y * c) ≡ nat_lt x y
scaled x y c p = go (nat_lt x y) refl
  where
    go : (b : Bool) → nat_lt x y ≡ b → nat_lt (x * c) (y * c) ≡ b
    go true e = lt-ltb (x * c) (y * c) (mul-lt-mul_of_pos_right (ltb-true x y e) p)
    go false e = le-ltb (x * c) (y * c) (mul-le-mul_right c (ltb-false x y e))

scaled_below : (s : Bool) (x : ℕ) (t : Bool) (y c : ℕ) → 0 < c → below s (x * c) t (y * c) ≡ below s x t y
scaled_below false x false y c p = scaled x y c p
scaled_below false x true y c p = refl
scaled_below true x false y c p = rw (← add-mul x y c) (rw (zero-mul c) at (scaled 0 (x + y) c p))
scaled_below true x true y c p = scaled y x c p

-- a float of the value n beside m * 2^e: as n * down e beside m * up e
module _ (t : Bool) (n : ℕ) (s : Bool) (m : ℕ) (e : ℤ) where
  crossed : (k : ℕ) (j : ℤ) → k * up j * 1 ≡ n * down j → k * up j * down e ≡ n * down e * down j
  crossed k j h = ap (λ (x : ℕ). x * down e) (sym (mul-one (k * up j)) ∙ h) ∙ mul_right_comm n (down j) (down e)

  whole_left_lem : (w : Float) → HasValue w t n 1 → lt w (fin s m e) ≡ below t (n * down e) s (m * up e)
  unfolding lt
  whole_left_lem nan h = absurd h
  whole_left_lem (inf u) h = absurd h
  whole_left_lem (fin u k j) h = rw (h.0, crossed k j h.1) (scaled_below t (n * down e) s (m * up e) (down j) (down_pos j))

  whole_right : (w : Float) → HasValue w t n 1 → lt (fin s m e) w ≡ below s (m * up e) t (n * down e)
  unfolding lt
  whole_right nan h = absurd h
  whole_right (inf u) h = absurd h
  whole_right (fin u k j) h = rw (h.0, crossed k j h.1) (scaled_below s (m * up e) t (n * down e) (down j) (down_pos j))

-- a whole number as a float is that number, not only one near it: of at most 53 binary digits, so of all of i32
pub float_value : (n : ℕ) → n ≤ 2 ^ 53 → HasValue (of_int binary64 (pos n)) false n 1
unfolding of_int
float_value n h = round_whole binary64 false n h

pub float_value_below : (n : ℕ) → suc n ≤ 2 ^ 53 → HasValue (of_int binary64 (negsuc n)) true (suc n) 1
unfolding of_int
float_value_below n h = round_whole binary64 true (suc n) h

-- m * 2^e with the sign, beside a whole number that is not above 0
module _ (m : ℕ) (e : ℤ) where
  under_negative : (n : ℕ) → n ≤ 2 ^ 53 → lt (fin true m e) (of_int binary64 (neg_ℤ (pos n))) ≡ nat_lt (n * down e) (m * up e)
  under_negative zero h = whole_right false 0 true m e (of_int binary64 (pos 0)) (float_value 0 h) ∙ simp (zero-mul, add-zero)
  under_negative (suc n) h = whole_right true (suc n) true m e (of_int binary64 (negsuc n)) (float_value_below n h)

  over_negative : (n : ℕ) → n ≤ 2 ^ 53 → lt (of_int binary64 (neg_ℤ (pos n))) (fin true m e) ≡ nat_lt (m * up e) (n * down e)
  over_negative zero h =
      whole_left_lem false 0 true m e (of_int binary64 (pos 0)) (float_value 0 h) ∙ sym (le-ltb (m * up e) (0 * down e) (omega (arith, zero-mul (down e))))
  over_negative (suc n) h = whole_left_lem true (suc n) true m e (of_int binary64 (negsuc n)) (float_value_below n h)

-- ---- the floor

-- between the ends of an i32, by the code's tests
pub record Inside (x : Float) : Type 0 where
  pub over : lt (fin true 1 (pos 31)) x ≡ true
  pub under : lt x (fin false 2147483647 (pos 0)) ≡ true

-- the whole part of such a number
module _ (m : ℕ) (e : ℤ) where
  high_small : Inside (fin false m e) → m * up e / down e < 2 ^ 31 - 1
  unfolding lt
  high_small i = div_below (m * up e) (down e) (down_pos e) (2 ^ 31 - 1) (omega (arith, ltb-true, i.under))

  low_small : Inside (fin true m e) → m * up e / down e < 2 ^ 31
  unfolding lt
  low_small i = div_below (m * up e) (down e) (down_pos e) (2 ^ 31) (omega (arith, ltb-true, i.over))

  high_part : Inside (fin false m e) → to_signed 63 (fin false m e) ≡ pos (m * up e / down e)
  unfolding to_signed
  high_part i = ap pos (min-eq_left {n = m * up e / down e} {m = 2 ^ 63 - 1} (omega (arith, high_small i)))

  low_part : Inside (fin true m e) → to_signed 63 (fin true m e) ≡ neg_ℤ (pos (m * up e / down e))
  unfolding to_signed
  low_part i = ap (λ (n : ℕ). neg_ℤ (pos n)) (min-eq_left {n = m * up e / down e} {m = 2 ^ 63} (omega (arith, low_small i)))

less_one : (n : ℕ) → neg_ℤ (pos n) -ℤ pos 1 ≡ neg_ℤ (pos (suc n))
less_one zero = -ℤ_one (pos 0)
less_one (suc n) = -ℤ_one (negsuc n)

-- the size of a negative one: rounded up where its whole part falls short of it
floor_below : (a d : ℕ) → 0 < d → a / d < 2 ^ 31 → neg_ℤ (pos (a / d)) -ℤ pos (bool_byte (nat_lt (a / d * d) a)) ≡ neg_ℤ (pos (min (up_div a d) (2 ^ 31)))
floor_below a d p h = go (nat_lt (a / d * d) a) refl
  where
    go : (b : Bool) → nat_lt (a / d * d) a ≡ b → neg_ℤ (pos (a / d)) -ℤ pos (bool_byte b) ≡ neg_ℤ (pos (min (up_div a d) (2 ^ 31)))
    go true t = rw (up_more a d p (ltb-true (a / d * d) a t), min-eq_left {n = suc (a / d)} {m = 2 ^ 31} h) (less_one (a / d))
    go false t = rw (up_none a d p (ltb-false (a / d * d) a t), min-eq_left {n = a / d} {m = 2 ^ 31} (omega arith)) (+ℤ_idr (neg_ℤ (pos (a / d))))

pub floor_is : (x : Float) → Inside x → to_signed 63 x -ℤ pos (bool_byte (lt x (of_int binary64 (to_signed 63 x)))) ≡ floor_cell x
unfolding lt floor_cell
floor_is nan i = false_true i.over
floor_is (inf true) i = false_true i.over
floor_is (inf false) i = false_true i.under
floor_is (fin false m e) i =
    let a = m * up e in let d = down e in
    let h : a / d < 2 ^ 31 - 1 = high_small m e i in
    let test : lt (fin false m e) (of_int binary64 (pos (a / d))) ≡ false =
    whole_right false (a / d) false m e (of_int binary64 (pos (a / d))) (float_value (a / d) (omega arith)) ∙ le-ltb a (a / d * d) (div_least a d (down_pos e)) in
    rw (high_part m e i, test) (ap pos (add-zero (a / d) ∙ sym (min-eq_left {n = a / d} {m = 2 ^ 31 - 1} (omega arith))))
floor_is (fin true m e) i =
    let h : m * up e / down e < 2 ^ 31 = low_small m e i in
    rw (low_part m e i, under_negative m e (m * up e / down e) (omega arith)) (floor_below (m * up e) (down e) (down_pos e) h)

-- what is asked of such a number before its whole part is taken
or_left : (a b : Bool) → T a → T (a || b)
or_left true b t = t
or_left false b t = elim t [ ]

lt_le : (x y : Float) → T (lt x y) → T (le x y)
unfolding le
lt_le x y t = or_left (lt x y) (eq x y) t

pub part_asked : (x : Float) → Inside x → T (le (fin true 1 (pos 63)) x) × T (lt x (fin false 1 (pos 63)))
unfolding lt
part_asked nan i = false_true i.over
part_asked (inf true) i = false_true i.over
part_asked (inf false) i = false_true i.under
part_asked (fin false m e) i = (lt_le (fin true 1 (pos 63)) (fin false m e) (omega (arith, lt→ltb, down_pos e)), omega (arith, lt→ltb, ltb-true, i.under))
part_asked (fin true m e) i = (lt_le (fin true 1 (pos 63)) (fin true m e) (omega (arith, lt→ltb, ltb-true, i.over)), omega (arith, lt→ltb, down_pos e))

negative_range : (n : ℕ) → n ≤ 2 ^ 31 → mag (neg_ℤ (pos n)) < 2 ^ 31
negative_range zero h = omega arith
negative_range (suc n) h = omega arith

pub part_range : (x : Float) → Inside x → mag (to_signed 63 x) < 2 ^ 31
unfolding lt
part_range nan i = false_true i.over
part_range (inf true) i = false_true i.over
part_range (inf false) i = false_true i.under
part_range (fin false m e) i = rw (high_part m e i) (omega (arith, high_small m e i))
part_range (fin true m e) i = rw (low_part m e i) (negative_range (m * up e / down e) (omega (arith, low_small m e i)))

-- outside of that: an end, and 0 for NaN
pub floor_low : (x : Float) → lt x (fin false 2147483647 (pos 0)) ≡ true → lt (fin true 1 (pos 31)) x ≡ false → neg_ℤ (pos (2 ^ 31)) ≡ floor_cell x
unfolding lt floor_cell
floor_low nan s t = false_true s
floor_low (inf true) s t = refl
floor_low (inf false) s t = false_true s
floor_low (fin false m e) s t = absurd (omega (arith, ltb-false, down_pos e))
floor_low (fin true m e) s t =
    let h : 2 ^ 31 ≤ m * up e / down e = div_above (m * up e) (down e) (down_pos e) (2 ^ 31) (omega (arith, ltb-false)) in
    rw (min-eq_right {n = 2 ^ 31} {m = up_div (m * up e) (down e)} (omega (arith, (up_bounds (m * up e) (down e) (down_pos e)).0)))

pub floor_high : (x : Float) → lt x (fin false 2147483647 (pos 0)) ≡ false → lt (fin false 0 (pos 0)) x ≡ true → pos 2147483647 ≡ floor_cell x
unfolding lt floor_cell
floor_high nan s t = false_true t
floor_high (inf true) s t = false_true t
floor_high (inf false) s t = refl
floor_high (fin false m e) s t =
    let h : 2 ^ 31 - 1 ≤ m * up e / down e = div_above (m * up e) (down e) (down_pos e) (2 ^ 31 - 1) (omega (arith, ltb-false)) in
    ap pos (sym (min-eq_right {n = 2 ^ 31 - 1} {m = m * up e / down e} h))
floor_high (fin true m e) s t = false_true t

pub floor_none : (x : Float) → lt x (fin false 2147483647 (pos 0)) ≡ false → lt (fin false 0 (pos 0)) x ≡ false → pos 0 ≡ floor_cell x
unfolding lt floor_cell
floor_none nan s t = refl
floor_none (inf true) s t = false_true (sym s)
floor_none (inf false) s t = false_true (sym t)
floor_none (fin false m e) s t = absurd (omega (arith, ltb-false, down_pos e))
floor_none (fin true m e) s t = absurd (omega (arith, ltb-false, down_pos e))

-- ---- the ceiling

more_one : (n : ℕ) → neg_ℤ (pos (suc n)) +ℤ pos 1 ≡ neg_ℤ (pos n)
more_one zero = +ℤ_one (negsuc 0)
more_one (suc n) = +ℤ_one (negsuc (suc n))

not_highest : (n : ℕ) → int_lt (neg_ℤ (pos n)) (pos 2147483647) ≡ true
not_highest zero = refl
not_highest (suc n) = refl

-- of a size a / d: the ceiling above 0, and below
module _ (a d : ℕ) (p : 0 < d) where
  ceil_above : (n : ℕ) → n ≡ min (a / d) (2 ^ 31 - 1) → n + bool_byte (nat_lt (n * d) a && nat_lt n (2 ^ 31 - 1)) ≡ min (up_div a d) (2 ^ 31 - 1)
  ceil_above n e = go (nat_lt (n * d) a) (nat_lt n (2 ^ 31 - 1)) refl refl
    where
      least : n < 2 ^ 31 - 1 → n ≡ a / d
      least h = omega arith

      go : (s t : Bool) → nat_lt (n * d) a ≡ s → nat_lt n (2 ^ 31 - 1) ≡ t → n + bool_byte (s && t) ≡ min (up_div a d) (2 ^ 31 - 1)
      go true true k h = let small = ltb-true n (2 ^ 31 - 1) h in omega (arith, up_more a d p (rw (least small) at (ltb-true (n * d) a k)), least small)
      go false true k h = let small = ltb-true n (2 ^ 31 - 1) h in omega (arith, up_none a d p (rw (least small) at (ltb-false (n * d) a k)), least small)
      go true false k h = omega (arith, (up_bounds a d p).0, ltb-false n (2 ^ 31 - 1) h)
      go false false k h = omega (arith, (up_bounds a d p).0, ltb-false n (2 ^ 31 - 1) h)

  ceil_below : (n : ℕ) → n ≡ min (up_div a d) (2 ^ 31) → neg_ℤ (pos n) +ℤ pos (bool_byte (nat_lt a (n * d) && true)) ≡ neg_ℤ (pos (min (a / d) (2 ^ 31)))
  ceil_below n e = go (nat_lt a (n * d)) refl
    where
      go : (s : Bool) → nat_lt a (n * d) ≡ s → neg_ℤ (pos n) +ℤ pos (bool_byte (s && true)) ≡ neg_ℤ (pos (min (a / d) (2 ^ 31)))
      go true k =
          let h : a / d < n = div_below a d p n (ltb-true a (n * d) k) in
          let next : n ≡ suc (a / d) = omega (arith, (up_bounds a d p).1) in
          rw (next, min-eq_left {n = a / d} {m = 2 ^ 31} (omega arith)) (more_one (a / d))
      go false k =
          let h : n ≤ a / d = div_above a d p n (ltb-false a (n * d) k) in
          let same : min (a / d) (2 ^ 31) ≡ n = omega (arith, (up_bounds a d p).0) in
          rw same (+ℤ_idr (neg_ℤ (pos n)))

-- no number is below NaN, and none below the negative infinity
below_nan : (w : Float) → lt w nan ≡ false
unfolding lt
below_nan nan = refl
below_nan (inf s) = refl
below_nan (fin s m e) = refl

below_lowest : (w : Float) → lt w (inf true) ≡ false
unfolding lt
below_lowest nan = refl
below_lowest (inf true) = refl
below_lowest (inf false) = refl
below_lowest (fin s m e) = refl

and-false : (b : Bool) → (b && false) ≡ false
and-false true = refl
and-false false = refl

-- the floor, or one more where x lies above it and it is not the last cell
pub ceil_is : (x : Float) → floor_cell x +ℤ pos (bool_byte (lt (of_int binary64 (floor_cell x)) x && int_lt (floor_cell x) (pos 2147483647))) ≡ ceil_cell x
unfolding floor_cell ceil_cell
ceil_is nan = rw (below_nan (of_int binary64 (pos 0)))
ceil_is (inf true) = rw (below_lowest (of_int binary64 (negsuc 2147483647)))
ceil_is (inf false) = rw (and-false (lt (of_int binary64 (pos 2147483647)) (inf false)))
ceil_is (fin false m e) =
    let n = min (m * up e / down e) (2 ^ 31 - 1) in
    rw (whole_left_lem false n false m e (of_int binary64 (pos n)) (float_value n (omega arith))) (ap pos (ceil_above (m * up e) (down e) (down_pos e) n refl))
ceil_is (fin true m e) =
    let n = min (up_div (m * up e) (down e)) (2 ^ 31) in
    rw (over_negative m e n (omega arith), not_highest n) (ceil_below (m * up e) (down e) (down_pos e) n refl)

-- ---- a cell number is an i32

ends_range : (s : Bool) (n : ℕ) → mag (ends s n) < 2 ^ 31
ends_range false n = omega (arith, min-le_right n (2 ^ 31 - 1))
ends_range true n = negative_range (min n (2 ^ 31)) (min-le_right n (2 ^ 31))

cell_range : (f g : ℕ → ℕ → ℕ) (x : Float) → mag (cell_by f g x) < 2 ^ 31
cell_range f g nan = omega arith
cell_range f g (inf s) = ends_range s (2 ^ 31)
cell_range f g (fin false m e) = ends_range false (g (m * up e) (down e))
cell_range f g (fin true m e) = ends_range true (f (m * up e) (down e))

pub floor_range : (x : Float) → mag (floor_cell x) < 2 ^ 31
unfolding floor_cell
floor_range x = cell_range up_div down_div x

pub ceil_range : (x : Float) → mag (ceil_cell x) < 2 ^ 31
unfolding ceil_cell
ceil_range x = cell_range down_div up_div x
