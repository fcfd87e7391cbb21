-- `search::find::find_walk_path` meets its contract. Assumes nothing.
use Rattle.std.proofs.Common.{ℕ, refl, sym, ap, ◌∙◌, arith, length, replicate}
use mathlib.Core.Option.{none, some}
use Rattle.steps.specs.Bounds.{steps_bounded}
use Rattle.refusals.proofs.Unique.{refused_as, not_refused}
use Rattle.refusals.proofs.Laws.{Passed, begins}
use Rattle.index.proofs.Laws.{indexed_none, zero_slots}
use Rattle.search.proofs.Laws.Whole.{Roomy, ready_spin, searched}
use Rattle.search.proofs.Laws.Find.{leaves}
use Rattle.search.proofs.find.find_walk_path.Goals as goal
use Rattle.search.proofs.find.find_walk_path.Goals.{After-begin-c}

-- what `judge` says where the search begins
passed : (s : After-begin-c) → let a = s.args in Passed a.query.world.window a.query.world.cells.now a.query.world.shapes.now a.query.world.boxes.now a.query.request a.query.body (length a.nodes.now) (length a.front.now) (length a.out.now) s.wrong_size-wrong_index.result
passed s = begins _ _ _ _ _ _ _ _ _ _ s.args.query.world.perms.now (sym (not_refused _ _ s.in_default.ensures))

roomy : (s : After-begin-c) → let a = s.args in Roomy a.query.request a.nodes.now a.front.now a.out.now
roomy s = let b = passed s in record { few = b.few_nodes; node_room_lem = b.node_room_lem; front_room_lem = b.front_room_lem; out_room = b.out_room }

pub returns-in-Err : goal.returns-in-Err
returns-in-Err c =
    let a = c.args in
    let judged = rw c.wrong_size-wrong_index.ensures at (refused_as _ _ c.in-Err.ensures) in
    let w = leaves a.query.world.window a.query.world.cells.now a.query.world.perms.now a.query.world.shapes.now a.query.world.boxes.now a.query.request a.query.body a.nodes.now a.front.now a.index.now a.out.now (some _) judged c.without_search.ensures refl refl refl refl in
    record { result_value = w.0; nodes_after = w.1.0; front_after = w.1.1.0; index_after = w.1.1.1.0; out_after = w.1.1.1.1 }

pub spin-turn-requires : goal.spin-turn-requires
spin-turn-requires c =
    let b = c.begin-c in
    record {
      ready = ready_spin c.args.query.request (roomy (goal.at.spin-turn-requires c).After-begin-c) c.feet_of.ensures b.ensures b.auto.nodes b.auto.front;
      goal_value = (c.feet_of-goal.ensures, steps_bounded _ _ _ _ _ _ _ (passed (goal.at.spin-turn-requires c).After-begin-c).world);
      indexed = rw c.zero.ensures (indexed_none b.new.nodes (zero_slots (length c.args.index.now)));
    }

pub returns : goal.returns
returns c =
    let a = c.args in
    let e = c.conclude.ensures in
    let s = searched a.query.request (roomy (goal.at.returns c).After-begin-c) c.feet_of.ensures c.begin-c.ensures a.query.world.window a.query.world.cells.now a.query.world.perms.now a.query.world.shapes.now a.query.world.boxes.now a.query.body c.feet_of-goal.ensures c.spin-turn.ensures
    (λ i. omega (arith, c.slice_known-8-1.given i)) (c.spin-turn.auto.nodes ∙ c.begin-c.auto.nodes) (e.result_value, e.out_after) in
    let judged = rw c.wrong_size-wrong_index.ensures at (not_refused _ _ c.in_default.ensures) in
    let w = leaves a.query.world.window a.query.world.cells.now a.query.world.perms.now a.query.world.shapes.now a.query.world.boxes.now a.query.request a.query.body a.nodes.now a.front.now a.index.now a.out.now none judged s.0 s.1 s.2
    (e.front_after ∙ ap (λ (n : ℕ). replicate n 0) (c.spin-turn.auto.front ∙ c.begin-c.auto.front))
    (c.zero-2.ensures ∙ ap (λ (n : ℕ). replicate n 0) (c.spin-turn.auto.index ∙ c.zero.auto.room)) in
    record { result_value = w.0; nodes_after = w.1.0; front_after = w.1.1.0; index_after = w.1.1.1.0; out_after = w.1.1.1.1 }
