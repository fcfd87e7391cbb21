-- `search::columns::columns` meets its contract. The loop's invariant: the steps of the columns gone have been visited, the sides are those of the columns gone,
use Rattle.std.proofs.Common.{◌+◌, sym, ap, ◌∙◌, arith, le_trans, lt_of_lt_of_le, length, length-append}
use Rattle.world.specs.Space.{space_of}
use Rattle.steps.specs.Columns.{column_if}
use Rattle.steps.specs.Expansion.{columns_from, columns_begin, columns_on, columns_end, sides_begin}
use Rattle.index.proofs.Laws.{indexed_same}
use Rattle.search.proofs.Laws.Steps.{ready_after, stepped_none, stepped_more, along_none, along_on, along_end, along_short}
use Rattle.search.proofs.columns.columns.Goals as goal

pub loop-n-init : goal.loop-n-init
loop-n-init c =
    let q = c.args.task.query in
    record {
      answered = c.none-sides.ensures ∙ sym (sides_begin (space_of q.world) q.request q.body c.args.at.point);
      along = along_none (columns_begin (space_of q.world) q.request q.body c.args.at.point) (stepped_none c.args.nodes.now c.args.front.now c.requires.ready.0.few);
    }

pub column-gone-requires : goal.column-gone-requires
column-gone-requires c =
    let q = c.args.task.query in
    let at = c.loop-n in
    let n = at.n in
    let u = at.invariant.along in
    let short = along_short u in
    let e = ap length (columns_on (space_of q.world) q.request q.body c.args.at.point n c.loop-n-test.true) in
    let l = length-append (column_if (space_of q.world) q.request q.body c.args.at.point n) (columns_from (space_of q.world) q.request q.body c.args.at.point (n + 1)) in
    let m = c.requires.indexed in
    record {
      room_nonzero = omega (arith, c.requires.room_nonzero, at.auto.room);
      ready = (ready_after c.requires.ready.0 u.went.near (omega arith) at.auto.nodes at.auto.front, omega (arith, c.requires.ready.1, u.went.near.more));
      indexed = (indexed_same (λ k h. u.went.still.feet k (lt_of_lt_of_le h m.1)) m.0, le_trans m.1 u.went.near.more);
      sides_value = at.invariant.answered;
    }

pub loop-n-preserved : goal.loop-n-preserved
loop-n-preserved c =
    let q = c.args.task.query in
    let at = c.loop-n in
    record {
      answered = c.column-gone.ensures.answered;
      along = along_on (column_if (space_of q.world) q.request q.body c.args.at.point at.n) at.invariant.along (columns_on (space_of q.world) q.request q.body c.args.at.point at.n c.loop-n-test.true) (λ vs g. stepped_more g c.column-gone.ensures.steps);
    }

pub returns : goal.returns
returns c =
    let q = c.args.task.query in
    along_end c.loop-n.invariant.along (columns_end (space_of q.world) q.request q.body c.args.at.point c.loop-n.n (omega (arith, c.loop-n-test.false)))
