-- The lift of a movement is a number, where the request's jump height is.
use Rattle.std.specs.Prelude.{◌≡◌, Bool, cond, Float, Option, Some, None}
use Rattle.std.proofs.Math.Path.{refl}
use Rattle.std.proofs.Math.Bool.{true, false}
use Rattle.std.specs.Float.Ieee.{binary64, is_nan, lt, le, add, neg, of_bits}
use Rattle.floats.specs.Floats.{E, nought, larger}
use Rattle.floats.specs.Order.{lt_right}
use Rattle.world.specs.declared.Body.{Body}
use Rattle.world.specs.declared.Request.{Request}
use Rattle.moves.specs.declared.answer.Movement.TheVariants.{Walk, Step, Jump, Drop}
use Rattle.moves.specs.declared.answer.Movement.{Movement}
use Rattle.moves.specs.Moves.{step_height, rising, falling, moving}

abbrev pub Number : Option (Movement × Float) → Type 0
Number None = Unit {0}
Number (Some (m, l)) = is_nan l ≡ false

nought_number : is_nan nought ≡ false
nought_number = unfold is_nan of_bits in refl

larger_number : (dy : Float) → is_nan (larger dy nought) ≡ false
unfolding larger
larger_number dy = pick (lt nought dy) refl
  where
    pick : (b : Bool) → lt nought dy ≡ b → is_nan (cond b dy nought) ≡ false
    pick true e = lt_right nought dy e
    pick false e = nought_number

module _ (r : Request) (body : Body) (jumps : is_nan r.jump_height ≡ false) where
  rising_number : (dy : Float) → lt E dy ≡ true → Number (rising r body dy)
  unfolding rising
  rising_number dy e = pick (le dy (add binary64 (step_height r body) E)) (le dy (add binary64 r.jump_height E))
    where
      pick : (a b : Bool) → Number (cond a (Some (Step, dy)) (cond b (Some (Jump, r.jump_height)) None))
      pick true b = lt_right E dy e
      pick false true = jumps
      pick false false = tt

  falling_number : (dy : Float) → Number (falling r dy)
  unfolding falling
  falling_number dy = pick (le (neg dy) (add binary64 r.max_drop E))
    where
      pick : (a : Bool) → Number (cond a (Some (Drop, nought)) None)
      pick true = nought_number
      pick false = tt

  pub moving_number : (dy : Float) → Number (moving r body dy)
  unfolding moving
  moving_number dy = pick (lt E dy) refl (lt dy (neg E))
    where
      pick : (a : Bool) → lt E dy ≡ a → (b : Bool) → Number (cond a (rising r body dy) (cond b (falling r dy) (Some (Walk, larger dy nought))))
      pick true e b = rising_number dy e
      pick false e true = falling_number dy
      pick false e false = larger_number dy
