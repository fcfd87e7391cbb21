-- The records that a call from another language is handed (01, "Tables, little-endian records"): what stands where. A field past a record's end is 0; what is
-- asked by a record that is cut short is said in Asked.
use Rattle.std.specs.Prelude.{ℕ, Bool, List, Float}
use Rattle.fields.specs.Little.{field, float_field}
use Rattle.world.specs.declared.Body.{Body}
use Rattle.world.specs.declared.Request.{Request}
use Rattle.world.specs.declared.Window.{Window}
use Rattle.world.specs.Space.{point_at}
use Rattle.policy.specs.declared.policy.WalkPolicy.{WalkPolicy}
use Rattle.policy.specs.Flags.{has}
use Rattle.scene_records.specs.Layout.{window_at, body_at}

-- "Window: origin three i32, sizes three u32": 24 bytes
abbrev pub window_in : List ℕ → Window
window_in s = window_at s 0

-- a request, 88 bytes: start, goal, max_range, step_height, jump_height and max_drop, ten f64, and node_budget, u64
unfoldable pub request_in : List ℕ → Request
request_in s = record {
  start = point_at s 0;
  goal = point_at s 24;
  max_range = float_field s 48;
  node_budget = field 8 s 80;
  step_height = float_field s 56;
  jump_height = float_field s 64;
  max_drop = float_field s 72;
}

-- a body, 24 bytes: width, height and step_height, three f64
abbrev pub body_in : List ℕ → Body
body_in s = body_at s 0

-- a policy: a bit for each wish, and the lift of one jump
unfoldable pub policy_in : ℕ → Float → WalkPolicy
policy_in bits jump = record {
  avoid_water = has 1 bits;
  avoid_damage_blocks = has 2 bits;
  can_jump = has 4 bits;
  jump_height = jump;
  can_pass_doors = has 8 bits;
  can_open_doors = has 16 bits;
  can_open_iron_doors = has 32 bits;
  door_breaker = has 64 bits;
}

-- and a bit for a body in water
abbrev pub in_water : ℕ → Bool
in_water bits = has 128 bits
