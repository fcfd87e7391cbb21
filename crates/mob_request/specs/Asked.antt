-- What a mob's search asks (01, Policy). Definitions only.
use Rattle.std.specs.Prelude.{cond, ℕ, pos, Float}
use Rattle.std.specs.Float.{binary64}
use Rattle.std.specs.Float.Ieee.{of_int}
use Rattle.policy.specs.declared.policy.WalkPolicy.{WalkPolicy}
use Rattle.world.specs.declared.Point.{Point}
use Rattle.world.specs.declared.Body.{Body}
use Rattle.world.specs.declared.Request.{Request}

abbrev blocks : ℕ → Float
blocks n = of_int binary64 (pos n)

-- "`find_path` asks range 16, budget 2,048, drop 3, the body's step, and the policy's jump height or 0 if it can't jump."
unfoldable pub request_of : WalkPolicy → Point → Point → Body → Request
request_of p start goal body =
    record {
      start = start;
      goal = goal;
      max_range = blocks 16;
      node_budget = 2048;
      step_height = body.step_height;
      jump_height = cond p.can_jump p.jump_height (blocks 0);
      max_drop = blocks 3;
    }
