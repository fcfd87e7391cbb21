-- `walk_back::leads` meets its contract. Assumes nothing.
use Rattle.std.proofs.Common.{◌≡◌}
use Rattle.world.specs.Space.{space_of}
use Rattle.rooms.specs.Records.{waypoint_at}
use Rattle.walk_back.proofs.Laws.{going_from}
use Rattle.walk_back.proofs.leads.Given as goal

abbrev pub invariant-loop-k : goal.invariant-loop-k
invariant-loop-k l =
    let sp = space_of l.query.world in
    going_from sp l.query.request l.query.body l.list (waypoint_at l.list 0).feet 1 ≡ going_from sp l.query.request l.query.body l.list l.from l.k
