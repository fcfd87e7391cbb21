-- `search::turns::expand` meets its contract. Assumes nothing.
use Rattle.std.proofs.Common.{◌≤◌, arith, le_trans, lt_of_lt_of_le, ◌≡◌, refl, sym, ◌∙◌, true, false, Some, None}
use Rattle.world.specs.Space.{space_of}
use Rattle.edges.specs.Edges.{connector}
use Rattle.words.specs.Words.{point_of}
use Rattle.rooms.specs.Waypoints.{same_point}
use Rattle.rooms.specs.Records.{node_at}
use Rattle.rooms.specs.Scans.{next_of}
use Rattle.index.proofs.Laws.{indexed_same}
use Rattle.search.proofs.Laws.Steps.{ready_after}
use Rattle.search.proofs.Laws.Turns.{is_closed, picked, turned_rest, turned_at, turned_by, turned_going}
use Rattle.search.proofs.turns.expand.Goals as goal

pub returns-then-c-k : goal.returns-then-c-k
returns-then-c-k c =
    let h : c.args.c.retained ≤ next_of c.args.c.retained c.args.front.now = rw (← (picked c.args.c.retained c.requires.indexed.2 c.pick-k.ensures)) c.if-c-k.true in
    turned_rest c.args.task.aim (space_of c.args.task.query.world) c.args.task.query.request c.args.task.query.body c.args.c c.args.nodes.now c.args.front.now c.requires.ready.few h

pub returns-then-same_point : goal.returns-then-same_point
returns-then-same_point c =
    let k = c.pick-k.result in
    let shut = is_closed c.requires.ready c.if-c-k.false c.close-closing.ensures in
    let i : same_point (node_at c.args.nodes.now k).feet c.args.task.aim.goal ≡ true = rw (← c.close-closing.ensures.node) (sym c.same_point.ensures ∙ c.if-same_point.true) in
    turned_at c.args.task.aim (space_of c.args.task.query.world) c.args.task.query.request c.args.task.query.body c.args.c c.args.nodes.now c.args.front.now c.requires.goal_value.0 k (picked c.args.c.retained c.requires.indexed.2 c.pick-k.ensures) c.if-c-k.false shut i

pub returns-in-Some : goal.returns-in-Some
returns-in-Some c =
    let k = c.pick-k.result in
    let n = c.close-closing.ensures.node in
    let shut = is_closed c.requires.ready c.if-c-k.false c.close-closing.ensures in
    let i : same_point (node_at c.args.nodes.now k).feet c.args.task.aim.goal ≡ false = rw (← n) (sym c.same_point.ensures ∙ c.if-same_point.false) in
    let j : Some c.in-Some.way ≡ connector (space_of c.args.task.query.world) c.args.task.query.request c.args.task.query.body (point_of (node_at c.args.nodes.now k).feet) = rw (← n, ← c.point_of-point.ensures) (sym c.in-Some.is ∙ c.connector.ensures) in
    turned_by c.args.task.aim (space_of c.args.task.query.world) c.args.task.query.request c.args.task.query.body c.args.c c.args.nodes.now c.args.front.now c.requires.goal_value.0 k (picked c.args.c.retained c.requires.indexed.2 c.pick-k.ensures) c.if-c-k.false shut c.label_of-label.result c.in-Some.way i j c.label_of-label.ensures

pub columns-requires : goal.columns-requires
columns-requires c =
    let shut = is_closed c.requires.ready c.if-c-k.false c.close-closing.ensures in
    let m = c.requires.indexed in
    record {
      room_nonzero = c.requires.room_nonzero;
      ready = (ready_after c.requires.ready shut.near (omega (arith, c.requires.goal_value.1 c.point_of-point.result)) c.close-closing.auto.nodes c.close-closing.auto.front, omega (arith, c.if-c-k.false, shut.near.more));
      indexed = (indexed_same (λ k h. shut.still.feet k (lt_of_lt_of_le h m.1)) m.0, le_trans m.1 shut.near.more);
    }

pub returns : goal.returns
returns c =
    let k = c.pick-k.result in
    let n = c.close-closing.ensures.node in
    let shut = is_closed c.requires.ready c.if-c-k.false c.close-closing.ensures in
    let i : same_point (node_at c.args.nodes.now k).feet c.args.task.aim.goal ≡ false = rw (← n) (sym c.same_point.ensures ∙ c.if-same_point.false) in
    let j : None ≡ connector (space_of c.args.task.query.world) c.args.task.query.request c.args.task.query.body (point_of (node_at c.args.nodes.now k).feet) = rw (← n, ← c.point_of-point.ensures) (sym c.in_default.is ∙ c.connector.ensures) in
    let m : c.point_of-point.result ≡ point_of (node_at c.args.nodes.now k).feet = rw (← n) c.point_of-point.ensures in
    turned_going c.args.task.aim (space_of c.args.task.query.world) c.args.task.query.request c.args.task.query.body c.args.c c.args.nodes.now c.args.front.now c.requires.goal_value.0 k (picked c.args.c.retained c.requires.indexed.2 c.pick-k.ensures) c.if-c-k.false shut (record { number = k; node = c.close-closing.result.node; point = c.point_of-point.result }) c.requires.goal_value.1 i j refl n m c.columns.ensures
