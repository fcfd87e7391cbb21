-- The height of a jump. 01, Policy: "Only the jump apex, a call of its own, gives 6; its rule is `jump_apex`." Numbers given back: "6 EndlessJump: 65,536 ticks don't bring the jump to rest."
use Rattle.std.specs.Prelude.{ℕ, zero, suc, Bool, false, cond, ◌&&◌, List, [], ◌∷◌, pos, Float}
use Rattle.std.specs.Float.{fin, binary64}
use Rattle.std.specs.Float.Ieee.{add, sub, mul, lt, round}

-- +0.0
abbrev pub none : Float
none = fin false 0 (pos 0)

-- 0.98: the f64 nearest to it
unfoldable pub drag : Float
drag = round binary64 false 98 100

-- a jump on its way
pub record Jump : Type 0 where
  pub height : Float
  pub velocity : Float

-- velocity > 0 and gravity > 0. A NaN is never above 0.
abbrev pub rises : Float → Jump → Bool
rises gravity j = lt none j.velocity && lt none gravity

-- one tick: height += velocity; velocity = (velocity - gravity) * 0.98, each operation rounded once
abbrev pub tick : Float → Jump → Jump
tick gravity j = record { height = add binary64 j.height j.velocity; velocity = mul binary64 (sub binary64 j.velocity gravity) drag }

-- the jump after n ticks, or fewer if it comes to rest before
unfoldable pub after : ℕ → Float → Jump → Jump
after zero gravity j = j
after (suc n) gravity j = cond (rises gravity j) (after n gravity (tick gravity j)) j

-- its answer: the height that it gained, or 6 if it isn't at rest
unfoldable pub apex_of : Float → Jump → ℕ × List Float
apex_of gravity j = cond (rises gravity j) (6, []) (0, j.height ∷ [])

-- a jump from the ground. An f32 power is the f64 of the same value.
abbrev pub jump_apex : Float → Float → ℕ × List Float
jump_apex power gravity = apex_of gravity (after 65536 gravity (record { height = none; velocity = power }))
