-- `walk_back::leads` meets its contract. Assumes nothing.
use Rattle.std.proofs.Common.{Bool, true, false, cond, ◌≡◌, sym, ap, ◌∙◌}
use Rattle.exploration.specs.WalkBack.{Through, Astray}
use Rattle.world.specs.Space.{space_of}
use Rattle.rooms.specs.declared.WaypointRecord.{WaypointRecord}
use Rattle.rooms.specs.Records.{waypoint_at}
use Rattle.walk_back.specs.WalkBack.{walked_by}
use Rattle.walk_back.proofs.Laws.{going_from, at_end, goes_on, breaks}
use Rattle.walk_back.proofs.leads.Goals as goal
use Rattle.walk_back.proofs.leads.Goals.{After-same_point}

-- what the end of the list comes to
ended : (c : After-same_point) → (b : Bool) → c.same_point.result ≡ b → going_from (space_of c.args.query.world) c.args.query.request c.args.query.body c.args.list.now (waypoint_at c.args.list.now 0).feet 1 ≡ cond b Through Astray
ended c b e =
    c.loop-k.invariant ∙ at_end (space_of c.args.query.world) c.args.query.request c.args.query.body c.args.list.now c.loop-k.from c.loop-k.k c.loop-k-test.false
    ∙ ap (λ (t : Bool). cond t Through Astray) (rw c.feet_of.ensures at (sym c.same_point.ensures) ∙ e)

pub loop-k-init : goal.loop-k-init
loop-k-init c = ap (λ (v : WaypointRecord). going_from (space_of c.args.query.world) c.args.query.request c.args.query.body c.args.list.now v.feet 1) (sym c.get_waypoint.ensures)

pub returns-then-not-is_joined : goal.returns-then-not-is_joined
returns-then-not-is_joined c =
    rw c.fault_of-fault.ensures
    (sym (ap (walked_by (space_of c.args.query.world) c.args.query.request c.args.query.body) (c.loop-k.invariant ∙ breaks (space_of c.args.query.world) c.args.query.request c.args.query.body c.args.list.now c.loop-k.from c.loop-k.k c.loop-k-test.true c.get_waypoint-v.result c.get_waypoint-v.ensures (sym c.if-not-is_joined.true ∙ c.is_joined.ensures))))

pub loop-k-preserved : goal.loop-k-preserved
loop-k-preserved c =
    c.loop-k.invariant ∙ goes_on (space_of c.args.query.world) c.args.query.request c.args.query.body c.args.list.now c.loop-k.from c.loop-k.k c.loop-k-test.true c.get_waypoint-v.result c.get_waypoint-v.ensures (sym c.if-not-is_joined.false ∙ c.is_joined.ensures)

pub returns-then-same_point : goal.returns-then-same_point
returns-then-same_point c = rw (ended (goal.at.returns-then-same_point c).After-same_point true c.if-same_point.true)

pub returns : goal.returns
returns c = rw (ended (goal.at.returns c).After-same_point false c.if-same_point.false)
