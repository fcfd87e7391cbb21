-- `pairs::look_column` meets its contract. Assumes nothing.
use Rattle.std.proofs.Common.{sym, ◌∙◌}
use Rattle.world.specs.Space.{space_of}
use Rattle.steps.specs.Columns.{column_if}
use Rattle.steps.specs.Expansion.{none_left, next_ahead, fewer}
use Rattle.pairs.specs.Laws.{noted_all, noted_nowhere, noted_met, noted_to, begun, begun_not}
use Rattle.pairs.proofs.look_column.Goals as goal

pub returns-then-not-looked : goal.returns-then-not-looked
returns-then-not-looked c = begun_not (space_of c.args.query.world) c.args.query.request c.args.query.body c.args.from c.args.n c.args.v c.requires.looked_value c.if-not-looked.true

pub loop-y-init : goal.loop-y-init
loop-y-init c = begun (space_of c.args.query.world) c.args.query.request c.args.query.body c.args.from c.args.n c.args.v c.requires.looked_value c.if-not-looked.false

-- ---- a turn whose edge leads somewhere
pub returns-then-leads_to : goal.returns-then-leads_to
returns-then-leads_to c =
    let next = next_ahead (space_of c.args.query.world) c.args.query.request c.args.query.body c.args.from c.args.n c.loop-y.after c.requires.band_value c.column_centre-centre.ensures c.next_height.ensures _ c.in-Some.is in
    noted_met c.args.v c.args.from (column_if (space_of c.args.query.world) c.args.query.request c.args.query.body c.args.from c.args.n) c.loop-y.level c.loop-y.invariant _ _ next c.in-Some-edge.step (sym c.edge.ensures ∙ c.in-Some-edge.is) (sym c.leads_to.ensures ∙ c.if-leads_to.true)

pub loop-y-smaller-else-leads_to : goal.loop-y-smaller-else-leads_to
loop-y-smaller-else-leads_to c = fewer (space_of c.args.query.world) c.args.query.request c.args.query.body c.args.from c.args.n c.loop-y.after c.requires.band_value c.column_centre-centre.ensures c.next_height.ensures _ c.in-Some.is

pub loop-y-preserved-else-leads_to : goal.loop-y-preserved-else-leads_to
loop-y-preserved-else-leads_to c =
    let next = next_ahead (space_of c.args.query.world) c.args.query.request c.args.query.body c.args.from c.args.n c.loop-y.after c.requires.band_value c.column_centre-centre.ensures c.next_height.ensures _ c.in-Some.is in
    rw c.is_level-level.ensures
    (noted_to c.args.v c.args.from (column_if (space_of c.args.query.world) c.args.query.request c.args.query.body c.args.from c.args.n) c.loop-y.level c.loop-y.invariant _ _ next c.in-Some-edge.step (sym c.edge.ensures ∙ c.in-Some-edge.is) (sym c.leads_to.ensures ∙ c.if-leads_to.false))

-- ---- a turn whose edge leads nowhere
pub loop-y-smaller : goal.loop-y-smaller
loop-y-smaller c = fewer (space_of c.args.query.world) c.args.query.request c.args.query.body c.args.from c.args.n c.loop-y.after c.requires.band_value c.column_centre-centre.ensures c.next_height.ensures _ c.in-Some.is

pub loop-y-preserved : goal.loop-y-preserved
loop-y-preserved c =
    let next = next_ahead (space_of c.args.query.world) c.args.query.request c.args.query.body c.args.from c.args.n c.loop-y.after c.requires.band_value c.column_centre-centre.ensures c.next_height.ensures _ c.in-Some.is in
    noted_nowhere c.args.v c.args.from (column_if (space_of c.args.query.world) c.args.query.request c.args.query.body c.args.from c.args.n) c.loop-y.level c.loop-y.invariant _ _ next (sym c.edge.ensures ∙ c.in_default-edge.is)

-- ---- the end
pub returns : goal.returns
returns c =
    noted_all c.args.v c.args.from (column_if (space_of c.args.query.world) c.args.query.request c.args.query.body c.args.from c.args.n) c.loop-y.level c.loop-y.invariant
    (none_left (space_of c.args.query.world) c.args.query.request c.args.query.body c.args.from c.args.n c.loop-y.after c.requires.band_value c.column_centre-centre.ensures c.next_height.ensures c.in_default.is)
