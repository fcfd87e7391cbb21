-- Jumps at the ends of the number line. 01: "an infinite jump power under finite gravity above 0 never ends in Rust"; here it is refused. Assumes nothing.
use Rattle.std.specs.Prelude.{◌≡◌, ℕ, zero, suc, Bool, true, false, ◌&&◌, [], ◌∷◌, ℤ, Float}
use Rattle.std.proofs.Math.Path.{refl, ap}
use Rattle.std.proofs.Common.{◌∙◌}
use Rattle.std.specs.Float.{nan, fin}
use Rattle.std.specs.Float.Ieee.{inf, add, sub, mul, neg, lt, round}
use Rattle.jump.specs.Jump.{Jump, none, drag, tick, after, apex_of, jump_apex}
use Rattle.jump.specs.Laws.{at_rest, goes}

-- a jump that rose without end
abbrev boundless : Jump
boundless = record { height = inf false; velocity = inf false }

module _ (s : Bool) (m : ℕ) (e : ℤ) (above : lt none (fin s m e) ≡ true) where
  -- a tick under finite gravity leaves it so
  stays : tick (fin s m e) boundless ≡ boundless
  unfolding add sub mul neg drag round
  stays = refl

  goes_on : (n : ℕ) → after n (fin s m e) boundless ≡ boundless
  unfolding after lt
  goes_on zero = refl
  goes_on (suc n) = rw (above, stays) (goes_on n)

  -- an infinite power under finite gravity above 0 is refused
  pub forever : jump_apex (inf false) (fin s m e) ≡ (6, [])
  unfolding apex_of lt add sub mul neg drag round
  forever = ap (apex_of (fin s m e)) (goes (fin s m e) (record { height = none; velocity = inf false }) 65536 65535 refl above ∙ goes_on 65535) ∙ rw above

-- both infinite: the height is infinite after one tick
pub both_infinite : jump_apex (inf false) (inf false) ≡ (0, inf false ∷ [])
unfolding lt add sub mul neg drag round
both_infinite = ap (apex_of (inf false)) (goes (inf false) (record { height = none; velocity = inf false }) 65536 65535 refl refl) ∙ at_rest (inf false) (record { height = inf false; velocity = nan }) 65535 refl

-- NaN gains nothing
pub nan_power : (g : Float) → jump_apex nan g ≡ (0, none ∷ [])
unfolding lt
nan_power g = at_rest g (record { height = none; velocity = nan }) 65536 refl

never : (b : Bool) → (b && false) ≡ false
never true = refl
never false = refl

pub nan_gravity : (p : Float) → jump_apex p nan ≡ (0, none ∷ [])
unfolding lt
nan_gravity p = at_rest nan (record { height = none; velocity = p }) 65536 (never (lt none p))
