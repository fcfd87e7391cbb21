-- 01, The graph, "In range", and where a body may stand. Definitions only.
use Rattle.std.specs.Prelude.{Bool, ◌&&◌, Float}
use Rattle.std.specs.Float.{binary64}
use Rattle.std.specs.Float.Ieee.{le, add, sub}
use Rattle.floats.specs.Floats.{E, absolute}
use Rattle.world.specs.declared.Point.{Point}
use Rattle.world.specs.declared.Body.{Body}
use Rattle.world.specs.declared.Request.{Request}
use Rattle.world.specs.Boxes.{from_feet}
use Rattle.world.specs.Space.{Space}
use Rattle.clear.specs.Clear.{clear}
use Rattle.support.specs.Support.{supported}

-- two numbers differ by at most so much
abbrev pub near : Float → Float → Float → Bool
near most a b = le (absolute (sub binary64 a b)) most

-- 01, The graph: "In range: each coordinate differs from the start's by at most max_range + E."
unfoldable pub in_range : Request → Point → Bool
in_range r p =
    let most = add binary64 r.max_range E in
    near most p.x r.start.x && near most p.y r.start.y && near most p.z r.start.z

-- a body may stand at a point: its box is clear there, and what is under its feet supports it
unfoldable pub standable : Space → Body → Point → Bool
standable sp body p = clear sp (from_feet p body.width body.height) && supported sp body.width p p
