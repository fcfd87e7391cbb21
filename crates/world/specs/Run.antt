-- The boxes that are left of a run, as it is gone over (01, Tables: "its run of box records inside the box table").
use Rattle.std.specs.Prelude.{List}
use Rattle.world.specs.declared.Aabb.{Aabb}
use Rattle.world.specs.declared.run.Run.{Run}
use Rattle.world.specs.Space.{run}

abbrev pub boxes_left : Run → List Aabb
boxes_left r = run r.left r.part.now 0
