-- The floats of IEEE 754 that are no NaN compare like numbers: so f64 estimates do. Their order is proved in `floats`.
use Rattle.std.specs.Prelude.{◌≡◌, true, false, not, ◌&&◌, ◌⊎◌, Float}
use Rattle.std.proofs.Common.{inl, inr, ⊎_elim}
use Rattle.std.specs.Float.Ieee.{lt, eq, le, is_nan}
use Rattle.floats.specs.Order.{le_trans, lt_turned, not_lt, lt_le, eq_both}
use Rattle.exploration.specs.Estimates.{at_most, Comparison}
use Rattle.exploration.proofs.Laws.Lists.{true_or_false}

-- ≤ is < or =
float_trans : (x y z : Float) → is_nan x ≡ false → is_nan y ≡ false → is_nan z ≡ false → at_most lt eq x y ≡ true → at_most lt eq y z ≡ true → at_most lt eq x z ≡ true
unfolding le
float_trans x y z i j k p q = le_trans x y z p q

float_below : (x y : Float) → is_nan x ≡ false → is_nan y ≡ false → lt x y ≡ not (at_most lt eq y x)
unfolding le
float_below x y i j = lt_turned x y i j

float_level : (x y : Float) → is_nan x ≡ false → is_nan y ≡ false → eq x y ≡ (at_most lt eq x y && at_most lt eq y x)
unfolding le
float_level x y i j = eq_both x y i j

float_total : (x y : Float) → is_nan x ≡ false → is_nan y ≡ false → (at_most lt eq x y ≡ true) ⊎ (at_most lt eq y x ≡ true)
unfolding le
float_total x y i j = ⊎_elim (λ h. inl (lt_le x y h)) (λ h. inr (not_lt x y i j h)) (true_or_false (lt x y))

pub float_comparison : Comparison lt eq (λ x. is_nan x ≡ false)
float_comparison = record { total = float_total; transitive = float_trans; below_is = float_below; level_is = float_level }
