-- What 02, No. 2 leaves of 01's length: where a way is level, its length is the sum of straight distances as before, to the bit.
use Rattle.std.specs.Prelude.{ℕ, zero, suc, ◌*◌, ◌/◌, ◌≡◌, refl, true, false, List, [], ◌∷◌, ◌⊎◌, T, ℤ, length, Float}
use Rattle.std.proofs.Math.Path.{sym}
use Rattle.std.proofs.Common.{ap, ◌∙◌, subst}
use Rattle.std.proofs.Math.Logic.{inl, inr}
use Rattle.std.specs.Float.{nan, inf, fin}
use Rattle.std.specs.Float.Ieee.{binary64, fits, is_nan, add, sub, mul, lt, of_bits}
use Rattle.std.specs.Float.Ieee.Bits.{of_bits-fits}
use Rattle.std.specs.Float.Ieee.Fits.{nan-fits, inf-fits, add-fits, mul-fits}
use Rattle.std.specs.Float.Ieee.Scale.{finite}
use Rattle.fields.specs.Little.{float_field}
use Rattle.floats.specs.Floats.{nought, absolute, canonical}
use Rattle.floats.specs.Zeros.{nil, by_zeros}
use Rattle.root.specs.Method.{root_of, answer}
use Rattle.root.specs.Distance.{square_root, distance}
use Rattle.world.specs.Boxes.{minus}
use Rattle.world.specs.Space.{point_at}
use Rattle.lengths.specs.declared.Stop.{Stop}
use Rattle.lengths.specs.Length.{crossing_length, settle_length, edge_length, sum_onward, sum_through, stop_at, stops_from, length_of}
use Rattle.arrival.specs.Exact.{unit_exponent}
use Rattle.arrival.specs.Alike.{Alike, Zero, zero_alike, finite_alike, zero_or_same, add_alike, sub_alike, no_difference, with_zero, zero_with, square_zero, absolute_alike}
use Rattle.claims.specs.Laws.NotNegative.{NotNegative, endless, sized, is_no_zero, sum_not_negative, square_not_negative, root_not_negative, zero_plus, plus_zero}

-- ---- 01's length

-- "straight distances between neighbours"
abbrev pub straight : Stop → Stop → Float
straight from to = let d = minus to.feet from.feet in distance d.x d.y d.z

-- "the f64 sum, from 0.0 in list order", of these: of the stops of a list's whole records
abbrev pub straight_of : List ℕ → Float
straight_of list = sum_through straight (stops_from list 0 (length list / 48))

-- ---- a level way

-- two neighbours of one height, -0.0 taken as 0, and no lift to the later one
abbrev pub Flat : Stop → Stop → Type 0
Flat from to = (finite from.feet.y ≡ true) × (Alike to.feet.y from.feet.y) × (Zero to.lift)

abbrev pub Level : List Stop → Type 0
Level [] = Unit {0}
Level (p ∷ []) = Unit {0}
Level (p ∷ q ∷ qs) = (Flat p q) × (Level (q ∷ qs))

-- ---- numbers that are told apart by their size alone

-- a NaN, or a number that is not below 0 and not -0.0
abbrev SignFree : Float → Type 0
SignFree x = (NotNegative x) ⊎ (x ≡ nan)

add_nan : (x : Float) → add binary64 x nan ≡ nan
unfolding add
add_nan nan = refl
add_nan (inf s) = refl
add_nan (fin s m e) = refl

sign_free_sum : {x y : Float} → SignFree x → SignFree y → SignFree (add binary64 x y)
sign_free_sum (inl m) (inl n) = inl (sum_not_negative m n)
sign_free_sum {x} p (inr e) = inr (rw e (add_nan x))
sign_free_sum (inr e) (inl n) = inr (rw e (unfold add in refl))

sign_free_square : (x : Float) → SignFree (mul binary64 x x)
sign_free_square nan = inr (unfold mul in refl)
sign_free_square (inf s) = inl (square_not_negative (inf s) (unfold is_nan in refl))
sign_free_square (fin s m e) = inl (square_not_negative (fin s m e) (unfold is_nan in refl))

sign_free_root : (x : Float) → T (fits binary64 x) → SignFree x → SignFree (square_root x)
sign_free_root x h (inl n) = inl (root_not_negative h n)
sign_free_root x h (inr e) = inr (rw e (unfold square_root in refl))

zero_is_nil : {x : Float} → Zero x → SignFree x → T (fits binary64 x) → x ≡ nil
unfolding canonical fits
zero_is_nil z (inl endless) f = absurd (subst (λ v. T (is_no_zero v)) z tt)
zero_is_nil z (inl (sized zero e)) f = ap (λ (d : ℤ). fin false zero d) (unit_exponent e f)
zero_is_nil z (inl (sized (suc m) e)) f = absurd (subst (λ v. T (is_no_zero v)) z tt)
zero_is_nil {x} z (inr e) f = absurd (subst (λ v. T (is_no_zero v)) (ap canonical (sym e) ∙ z) tt)

alike_is_same : (x y : Float) → Alike x y → SignFree x → SignFree y → T (fits binary64 x) → T (fits binary64 y) → x ≡ y
alike_is_same x y a p q f g = go (zero_or_same x y a)
  where
    go : ((Zero x) × (Zero y)) ⊎ (x ≡ y) → x ≡ y
    go (inl z) = zero_is_nil z.0 p f ∙ sym (zero_is_nil z.1 q g)
    go (inr e) = e

-- ---- one edge

root_held : (x : Float) → T (fits binary64 x) → T (fits binary64 (square_root x))
unfolding square_root answer root_of
root_held nan h = nan-fits binary64
root_held (inf true) h = nan-fits binary64
root_held (inf false) h = inf-fits binary64 false
root_held (fin s zero e) h = h
root_held (fin true (suc m) e) h = nan-fits binary64
root_held (fin false (suc m) e) h = of_bits-fits binary64 _

root_canonical : (x : Float) → canonical (square_root (canonical x)) ≡ canonical (square_root x)
unfolding square_root answer canonical
root_canonical = by_zeros (λ v. canonical (square_root v)) (λ s e. refl)

root_alike : (x y : Float) → Alike x y → Alike (square_root x) (square_root y)
root_alike x y e = sym (root_canonical x) ∙ ap (λ (v : Float). canonical (square_root v)) e ∙ root_canonical y

module _ (from to : Stop) (held : T (fits binary64 from.feet.y)) (flat : Flat from to) where
  abbrev y : Float
  y = from.feet.y

  no_rise : Zero (sub binary64 to.feet.y y)
  no_rise = no_difference to.feet.y y flat.1 (finite_alike to.feet.y y flat.1 ∙ flat.0)

  no_settling : Zero (settle_length from.feet to.feet to.lift)
  no_settling =
      absolute_alike (sub binary64 to.feet.y (add binary64 y to.lift)) nought
      (zero_alike (sub binary64 to.feet.y (add binary64 y to.lift)) (sub_alike to.feet.y (add binary64 y to.lift) to.feet.y y refl (with_zero y to.lift held flat.2) ∙ no_rise))
      ∙ (unfold absolute lt of_bits canonical in refl)

  abbrev way : Float
  way = crossing_length from.feet to.feet

  way_alone : Alike (edge_length from to) way
  unfolding edge_length
  way_alone =
      with_zero (add binary64 to.lift way) (settle_length from.feet to.feet to.lift) (add-fits binary64 to.lift way) no_settling
      ∙ zero_with to.lift way (root_held _ (add-fits binary64 _ _)) flat.2

  straight_alike : Alike (edge_length from to) (straight from to)
  unfolding distance minus
  straight_alike =
      let dx = sub binary64 to.feet.x from.feet.x in
      let dy = sub binary64 to.feet.y y in
      let dz = sub binary64 to.feet.z from.feet.z in
      way_alone
      ∙ sym (root_alike _ _ (add_alike (add binary64 (mul binary64 dx dx) (mul binary64 dy dy)) (mul binary64 dz dz) (mul binary64 dx dx) (mul binary64 dz dz)
      (with_zero (mul binary64 dx dx) (mul binary64 dy dy) (mul-fits binary64 dx dx) (square_zero dy no_rise)) refl))

  edge_sign_free : SignFree (edge_length from to)
  unfolding edge_length
  edge_sign_free = go (sign_free_root _ (add-fits binary64 _ _) (sign_free_sum (sign_free_square (sub binary64 to.feet.x from.feet.x)) (sign_free_square (sub binary64 to.feet.z from.feet.z))))
    where
      go : SignFree way → SignFree (add binary64 (add binary64 to.lift way) (settle_length from.feet to.feet to.lift))
      go (inl n) = inl (plus_zero (settle_length from.feet to.feet to.lift) (zero_plus to.lift flat.2 n) no_settling)
      go (inr e) = inr (rw (e, add_nan to.lift) (unfold add in refl))

  straight_sign_free : SignFree (straight from to)
  unfolding distance
  straight_sign_free =
      let d = minus to.feet from.feet in
      sign_free_root _ (add-fits binary64 _ _) (sign_free_sum (sign_free_sum (sign_free_square d.x) (sign_free_square d.y)) (sign_free_square d.z))

  pub edge_is_straight : edge_length from to ≡ straight from to
  unfolding edge_length distance
  edge_is_straight = alike_is_same _ _ straight_alike edge_sign_free straight_sign_free (add-fits binary64 _ _) (root_held _ (add-fits binary64 _ _))

-- ---- a list

stop_held : (list : List ℕ) (at : ℕ) → T (fits binary64 (stop_at list at).feet.y)
unfolding stop_at point_at float_field
stop_held list at = of_bits-fits binary64 _

level_along : (list : List ℕ) (n k : ℕ) (t : Float) → Level (stop_at list (48 * k) ∷ stops_from list (suc k) n) →
    sum_onward edge_length t (stop_at list (48 * k)) (stops_from list (suc k) n) ≡ sum_onward straight t (stop_at list (48 * k)) (stops_from list (suc k) n)
level_along list zero k t h = refl
level_along list (suc n) k t h =
    let p = stop_at list (48 * k) in
    let q = stop_at list (48 * suc k) in
    ap (λ (l : Float). sum_onward edge_length (add binary64 t l) q (stops_from list (suc (suc k)) n)) (edge_is_straight p q (stop_held list (48 * k)) h.0)
    ∙ level_along list n (suc k) (add binary64 t (straight p q)) h.1

pub level_is_straight : (list : List ℕ) → Level (stops_from list 0 (length list / 48)) → length_of list ≡ straight_of list
unfolding length_of
level_is_straight list = go (length list / 48)
  where
    go : (n : ℕ) → Level (stops_from list 0 n) → sum_through edge_length (stops_from list 0 n) ≡ sum_through straight (stops_from list 0 n)
    go zero h = refl
    go (suc n) h = level_along list n 0 nought h
