-- `search::columns::column` meets its contract. The loop's invariant: the steps of the heights gone have been visited, the column's steps are those and the
use Rattle.std.proofs.Common.{◌≡◌, sym, ap, ◌∙◌, subst, false, not, List, [], ℕ, ◌<◌, arith, le_trans, lt_of_lt_of_le, length, Float, Option, Some}
use Rattle.exploration.proofs.Laws.Lists.{or-false}
use Rattle.strides.specs.declared.Column.{Column}
use borrow.Author.Tests.{not-false}
use Rattle.heights.specs.declared.Band.{Band}
use Rattle.world.specs.declared.Point.{Point}
use Rattle.world.specs.Space.{Space, space_of}
use Rattle.heights.specs.declared.batches.Batch.{Batch}
use Rattle.heights.specs.Heights.{tops, sorted, next_after}
use Rattle.heights.specs.Lowest.{height_at, moved_on}
use Rattle.heights.proofs.Laws.{numbers}
use Rattle.heights.proofs.BatchLaws.{Batched, used_up, held_next, held_on}
use Rattle.moves.specs.declared.answer.Waypoint.{Waypoint}
use Rattle.edges.specs.Edges.{edge}
use Rattle.edges.specs.Answers.{edge_feet}
use Rattle.words.specs.Words.{feet_of}
use Rattle.rooms.specs.Scans.{first_at}
use Rattle.index.proofs.Laws.{looked_up_lem, indexed_same}
use Rattle.steps.specs.Columns.{target, ahead, column_if}
use Rattle.sides.specs.declared.Sides.{Sides}
use Rattle.sides.specs.Sides.{looked_by}
use Rattle.steps.specs.Expansion.{steps_after, column_begins, heights_left, none_left, next_ahead, fewer}
use Rattle.search.specs.Steps.{Went}
use Rattle.search.proofs.Laws.Steps.{ready_after, went_none, went_more, went_by, went_shut, Along, along_none, along_on, along_end, along_short, ahead_split, looked_not, looked_on}
use Rattle.search.proofs.columns.column.Goals as goal
use Rattle.search.proofs.columns.column.Goals.{After-find-j}

-- the batch moved on is at the next of the column's heights
module _ (sp : Space) (band : Band) (x z : Float) (after : Option Float) (room : List Float) (batch : Batch) (roomy : 0 < length room) (inv : Batched after (sorted (tops sp band x z)) room batch)
    {room' : List Float} {batch' : Batch} (moved : ◌≡◌ {A = List Float × Batch} (room', batch') (moved_on (tops sp band x z) after room batch)) {h : Option Float} (e : h ≡ height_at room' batch') where
  next : h ≡ next_after sp band x z after
  unfolding next_after
  next = e ∙ (λ i. height_at (moved i).0 (moved i).1) ∙ held_next (tops sp band x z) (numbers band x z sp) after room roomy batch inv

  held : (y : Float) → h ≡ Some y → Batched (Some y) (sorted (tops sp band x z)) room' batch'
  held y a =
      subst (λ (q : List Float × Batch). Batched (Some y) (sorted (tops sp band x z)) q.0 q.1) (sym moved)
      (held_on (tops sp band x z) (numbers band x z sp) after room roomy batch inv y (sym (λ i. height_at (moved i).0 (moved i).1) ∙ sym e ∙ a))

pub returns-then-not-looked : goal.returns-then-not-looked
returns-then-not-looked c = looked_not c.args.n c.requires.sides_value (sym c.looked.ensures ∙ c.if-not-looked.true) c.requires.ready.0.few

pub loop-y-init : goal.loop-y-init
loop-y-init c =
    let q = c.args.task.query in
    let z = ap (λ (x : Sides). looked_by x c.args.n) (sym c.requires.sides_value) ∙ sym c.looked.ensures ∙ c.if-not-looked.false in
    record {
      batched = used_up (omega arith) (omega arith);
      along = along_none (column_begins (space_of q.world) q.request q.body c.args.at.point c.args.n z) (went_none c.args.nodes.now c.args.front.now c.requires.ready.0.few);
    }

pub returns-in_default : goal.returns-in_default
returns-in_default c =
    let q = c.args.task.query in
    let i = c.loop-y in
    let s = c.column_centre-centre.result in
    let h = next (space_of q.world) c.band_of-band.result s.x s.z i.after i.room i.batch (omega (arith, c.requires.room_nonzero, i.auto.room)) i.invariant.batched c.advance-batch.ensures c.height_at.ensures in
    let g = along_end i.invariant.along (none_left (space_of q.world) q.request q.body c.args.at.point c.args.n i.after c.band_of-band.ensures c.column_centre-centre.ensures h c.in_default.is) in
    looked_on c.args.n c.requires.sides_value i.gone c.answered-sides.result c.answered-sides.ensures g

-- of a height that was looked up: the point, and the edge to it
abbrev to : After-find-j → Point
to s = target s.column_centre-centre.result s.in-Some.y

abbrev step : After-find-j → Option Waypoint
step s = edge (space_of s.args.task.query.world) s.args.task.query.request s.args.task.query.body s.args.at.point (to s)

leads : (s : After-find-j) (w : Waypoint) → step s ≡ Some w → w.feet ≡ to s
leads s w = edge_feet (space_of s.args.task.query.world) s.args.task.query.request s.args.task.query.body s.args.at.point (to s) w

-- the lookup found the first node there: the nodes that are in the index are where they were
found : (s : After-find-j) → s.find-j.result ≡ first_at s.loop-y.nodes s.loop-y.gone.counts.retained (feet_of (to s))
found s =
    let u = s.loop-y.invariant.along.went.steps in
    let m = s.requires.indexed in
    let x = indexed_same (λ k l. u.still.feet k (lt_of_lt_of_le l m.1)) m.0 in
    s.find-j.ensures ∙ looked_up_lem x s.feet_of.result s.loop-y.gone.counts.retained (le_trans m.1 u.near.more) ∙ ap (first_at s.loop-y.nodes s.loop-y.gone.counts.retained) s.feet_of.ensures

-- it is the next of the heights, and the batch holds those behind it
next_of : (s : After-find-j) → s.height_at.result ≡ next_after (space_of s.args.task.query.world) s.band_of-band.result s.column_centre-centre.result.x s.column_centre-centre.result.z s.loop-y.after
next_of s =
    let i = s.loop-y in
    next (space_of s.args.task.query.world) s.band_of-band.result s.column_centre-centre.result.x s.column_centre-centre.result.z i.after i.room i.batch (omega (arith, s.requires.room_nonzero, i.auto.room)) i.invariant.batched s.advance-batch.ensures s.height_at.ensures

held_by : (s : After-find-j) → Batched (Some s.in-Some.y) (sorted (tops (space_of s.args.task.query.world) s.band_of-band.result s.column_centre-centre.result.x s.column_centre-centre.result.z)) s.advance-batch.new.room s.advance-batch.result
held_by s =
    let i = s.loop-y in
    held (space_of s.args.task.query.world) s.band_of-band.result s.column_centre-centre.result.x s.column_centre-centre.result.z i.after i.room i.batch (omega (arith, s.requires.room_nonzero, i.auto.room)) i.invariant.batched s.advance-batch.ensures s.height_at.ensures s.in-Some.y s.in-Some.is

-- whichever way the step goes, one height less is left
less : (s : After-find-j) → let q = s.args.task.query in heights_left (space_of q.world) q.request q.body s.args.at.point s.args.n (Some (to s).y) < heights_left (space_of q.world) q.request q.body s.args.at.point s.args.n s.loop-y.after
less s =
    let q = s.args.task.query in
    fewer (space_of q.world) q.request q.body s.args.at.point s.args.n s.loop-y.after s.band_of-band.ensures s.column_centre-centre.ensures (next_of s) (to s).y s.in-Some.is

-- and the column goes on behind it
onward : (s : After-find-j) {gone : Column} {nodes front : List ℕ} →
    Went s.args.task.aim s.args.at s.args.n (ahead (step s) []) s.loop-y.gone gone s.loop-y.nodes s.loop-y.front nodes front →
    Along (λ ws. Went s.args.task.aim s.args.at s.args.n ws (record { counts = s.args.c.counts; level = false }) gone s.args.nodes.now s.args.front.now nodes front)
    (column_if (space_of s.args.task.query.world) s.args.task.query.request s.args.task.query.body s.args.at.point s.args.n) (steps_after (space_of s.args.task.query.world) s.args.task.query.request s.args.task.query.body s.args.at.point s.args.n (Some (to s).y))
onward s g =
    let q = s.args.task.query in
    let rest = next_ahead (space_of q.world) q.request q.body s.args.at.point s.args.n s.loop-y.after s.band_of-band.ensures s.column_centre-centre.ensures (next_of s) (to s).y s.in-Some.is in
    along_on (ahead (step s) []) s.loop-y.invariant.along (rest ∙ ahead_split (step s) (steps_after (space_of q.world) q.request q.body s.args.at.point s.args.n (Some (to s).y))) (λ vs w. went_more w g)

pub loop-y-smaller-then-is_side-is_shut : goal.loop-y-smaller-then-is_side-is_shut
loop-y-smaller-then-is_side-is_shut c = less (goal.at.loop-y-smaller-then-is_side-is_shut c).After-find-j

pub loop-y-preserved-then-is_side-is_shut : goal.loop-y-preserved-then-is_side-is_shut
loop-y-preserved-then-is_side-is_shut c =
    let i = c.loop-y in
    let s = (goal.at.loop-y-preserved-then-is_side-is_shut c).After-find-j in
    let u = i.invariant.along in
    record {
      batched = held_by s;
      along = onward s (went_by (step s) (to s) c.find-j.result (leads s) (found s) (rw c.edge-edge.ensures at c.step_to-gone.ensures)
          (ready_after c.requires.ready.0 u.went.steps.near (omega (arith, along_short u)) i.auto.nodes i.auto.front) (omega (arith, c.requires.ready.1, u.went.steps.near.more)));
    }

pub loop-y-smaller : goal.loop-y-smaller
loop-y-smaller c = less (goal.at.loop-y-smaller c).After-find-j

pub loop-y-preserved : goal.loop-y-preserved
loop-y-preserved c =
    let s = (goal.at.loop-y-preserved c).After-find-j in
    let o = or-false c.is_side.result (not c.is_shut.result) c.if-is_side-is_shut.false in
    record {
      batched = held_by s;
      along = onward s (went_shut (step s) (to s) c.find-j.result (leads s) (found s) (sym c.is_side.ensures ∙ o.0) (sym c.is_shut.ensures ∙ not-false _ o.1) c.loop-y.invariant.along.went.steps.near.few);
    }
