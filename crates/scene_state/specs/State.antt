-- What has been read of a scene before the first record, and how much of each table is in use (01, "Scenes and walkprint").
use Rattle.std.specs.Prelude.{◌*◌, pos, Float}
use Rattle.std.specs.Float.{binary64}
use Rattle.std.specs.Float.Ieee.{of_bits}
use Rattle.world.specs.declared.Point.{Point}
use Rattle.scene_rules.specs.declared.Counts.{Counts}
use Rattle.scene_state.specs.declared.state.Reading.{Reading}
use Rattle.scene_state.specs.declared.state.InUse.{InUse}

-- ---- before the first record

abbrev zero : Float
zero = of_bits binary64 0

abbrev no_point : Point
no_point = record { x = zero; y = zero; z = zero }

unfoldable pub empty : Reading
empty = record {
  number = 0;
  kind = 0;
  request = record {
    start = no_point;
    goal = no_point;
    max_range = zero;
    node_budget = 0;
    step_height = zero;
    jump_height = zero;
    max_drop = zero;
  };
  body = record { width = zero; height = zero; step_height = zero };
  window = record { x = pos 0; y = pos 0; z = pos 0; sx = 0; sy = 0; sz = 0 };
  counts = record { cells = 0; states = 0; shapes = 0; boxes = 0; last = 0 };
}

-- ---- the bytes of each table that the scene made

unfoldable pub in_use : Counts → InUse
in_use c = record { cells = 8 * c.cells; perms = c.states; shapes = 8 * c.shapes; boxes = 48 * c.boxes }
