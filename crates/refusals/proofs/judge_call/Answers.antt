-- `refusals::judge_call` meets its contract. Assumes nothing.
use Rattle.std.proofs.Common.{sym, ap, ◌∙◌}
use Rattle.refusals.specs.Refusals.{refused_with}
use Rattle.refusals.proofs.Laws.{room_divided, out_bad_world, out_invalid, out_too_large, out_room}
use Rattle.refusals.proofs.judge_call.Goals as goal

pub returns-then-bad_world : goal.returns-then-bad_world
returns-then-bad_world c =
    let q = c.args.query in
    ap refused_with (out_bad_world q.world.window q.world.cells.now q.world.shapes.now q.world.boxes.now q.request q.body c.args.nodes c.args.front c.args.out c.args.wrong_index (sym c.bad_world.ensures ∙ c.if-bad_world.true))

pub returns-then-not-valid_request : goal.returns-then-not-valid_request
returns-then-not-valid_request c =
    let q = c.args.query in
    ap refused_with (out_invalid q.world.window q.world.cells.now q.world.shapes.now q.world.boxes.now q.request q.body c.args.nodes c.args.front c.args.out c.args.wrong_index (sym c.bad_world.ensures ∙ c.if-bad_world.false) (sym c.valid_request.ensures ∙ c.if-not-valid_request.true))

pub returns-then-too_large : goal.returns-then-too_large
returns-then-too_large c =
    let q = c.args.query in
    ap refused_with (out_too_large q.world.window q.world.cells.now q.world.shapes.now q.world.boxes.now q.request q.body c.args.nodes c.args.front c.args.out c.args.wrong_index (sym c.bad_world.ensures ∙ c.if-bad_world.false) (sym c.valid_request.ensures ∙ c.if-not-valid_request.false) (sym c.too_large.ensures ∙ c.if-too_large.true))

pub returns-then-nodes-n : goal.returns-then-nodes-n
returns-then-nodes-n c =
    let q = c.args.query in
    ap refused_with (out_room q.world.window q.world.cells.now q.world.shapes.now q.world.boxes.now q.request q.body c.args.nodes c.args.front c.args.out c.args.wrong_index (sym c.bad_world.ensures ∙ c.if-bad_world.false) (sym c.valid_request.ensures ∙ c.if-not-valid_request.false) (sym c.too_large.ensures ∙ c.if-too_large.false) _ (sym (room_divided q.request.node_budget c.args.nodes c.args.front c.args.out c.args.wrong_index) ∙ c.if-nodes-n.true))

pub returns : goal.returns
returns c =
    let q = c.args.query in
    ap refused_with (out_room q.world.window q.world.cells.now q.world.shapes.now q.world.boxes.now q.request q.body c.args.nodes c.args.front c.args.out c.args.wrong_index (sym c.bad_world.ensures ∙ c.if-bad_world.false) (sym c.valid_request.ensures ∙ c.if-not-valid_request.false) (sym c.too_large.ensures ∙ c.if-too_large.false) _ (sym (room_divided q.request.node_budget c.args.nodes c.args.front c.args.out c.args.wrong_index) ∙ c.if-nodes-n.false))
