-- The ends of a search (01, "Numbers given back", Search order, and "Route"). Definitions only.
use Rattle.std.specs.Prelude.{Bool, ◌&&◌}
use Rattle.world.specs.declared.Body.{Body}
use Rattle.world.specs.declared.Request.{Request}
use Rattle.world.specs.Space.{Space}
use Rattle.places.specs.Places.{in_range, standable}

-- "goal in range, start standable, goal standable"
unfoldable pub ends_good : Space → Request → Body → Bool
ends_good sp r body = in_range r r.goal && standable sp body r.start && standable sp body r.goal
