-- `scene::reader::take_record` meets its contract: the state's answer says whether the record is good. Assumes nothing.
use Rattle.std.proofs.Common.{◌≡◌, refl, false, List, ℕ, Result, Err, arith}
use Rattle.std.proofs.lemmas.Result.{err_from_is_err_and}
use Rattle.scene_state.specs.declared.state.Reading.{Reading}
use Rattle.scene_state.specs.declared.state.SceneError.{SceneError}
use Rattle.scene_state.specs.declared.state.SceneError.TheVariants.{BadScene, NoRoom}
use Rattle.scene_state.specs.Answers.{progress_answer}
use Rattle.scene_step.specs.Next.{good_in, step}
use Rattle.scene_step.specs.Laws.{took, left}
use Rattle.scene.specs.Scene.{Tables}
use Rattle.scene.specs.Progress.{tables_of, further, tables_further}
use Rattle.scene.specs.Laws.{made_by_bad, made_by_window, made_by_box, made_by_state, made_by_fill, made_by_other}
use Rattle.scene.proofs.reader.take_record.Goals as goal

-- after a refusal nothing changes
stands : (p : Result Reading SceneError) (e : SceneError) (s : List ℕ) (t : Tables) → p ≡ Err e →
    (further (progress_answer p) s ≡ progress_answer p) × (tables_further (progress_answer p) s t ≡ t)
unfolding further tables_further
stands p (BadScene k) s t h = rw h (refl, refl)
stands p NoRoom s t h = rw h (refl, refl)

-- a record that is refused is bad
bad : (e : SceneError) (r : Reading) (s : List ℕ) → progress_answer (Err e) ≡ step r s → good_in r s ≡ false
bad (BadScene k) r s e = left r s 7 k e (good_in r s) refl
bad NoRoom r s e = left r s 5 0 e (good_in r s) refl

pub returns-in_err-state : goal.returns-in_err-state
returns-in_err-state c =
    let a = c.args in
    let p = err_from_is_err_and c.from_residual.result c.from_residual.ensures.1 in
    let q = stands a.progress c.in_err-state.field-0.0 a.bytes.now (tables_of a.cells.now a.perms.now a.shapes.now a.boxes.now) c.in_err-state.was in
    rw (q.0, q.1) (record { answer = rw (p.1, p.2, c.in_err-state.was); cells = refl; permissions = refl; shapes = refl; boxes = refl })

pub returns-in_err-next : goal.returns-in_err-next
unfolding further tables_further
returns-in_err-next c =
    let a = c.args in
    let r = c.in_ok-state.state in
    let p = err_from_is_err_and c.from_residual-in_err-next.result c.from_residual-in_err-next.ensures.1 in
    let e = c.in_err-next.ensures in
    let w = made_by_bad r a.bytes.now a.cells.now a.perms.now a.shapes.now a.boxes.now (bad c.in_err-next.field-0.0 r a.bytes.now e) in
    rw c.in_ok-state.was (record { answer = rw (p.1, p.2) e; cells = w.0; permissions = w.1.0; shapes = w.1.1.0; boxes = w.1.1.1 })

pub returns-in-3 : goal.returns-in-3
unfolding further tables_further
returns-in-3 c =
    let a = c.args in
    let r = c.in_ok-state.state in
    let e = c.in_ok-next.ensures in
    let g = took r a.bytes.now c.in_ok-next.next e (good_in r a.bytes.now) refl in
    let w = made_by_window r a.bytes.now a.cells.now a.perms.now a.shapes.now a.boxes.now g.0 g.1 c.in-3.is c.clear_cells.ensures in
    rw c.in_ok-state.was (record { answer = e; cells = w.0; permissions = w.1.0; shapes = w.1.1.0; boxes = w.1.1.1 })

pub returns-in-4 : goal.returns-in-4
unfolding further tables_further
returns-in-4 c =
    let a = c.args in
    let r = c.in_ok-state.state in
    let e = c.in_ok-next.ensures in
    let g = took r a.bytes.now c.in_ok-next.next e (good_in r a.bytes.now) refl in
    let w = made_by_box r a.bytes.now a.cells.now a.perms.now a.shapes.now a.boxes.now g.0 g.1 c.in-4.is c.number_of-n.ensures c.put_shape.ensures c.put_box.ensures in
    rw c.in_ok-state.was (record { answer = e; cells = w.0; permissions = w.1.0; shapes = w.1.1.0; boxes = w.1.1.1 })

pub returns-in-5 : goal.returns-in-5
unfolding further tables_further
returns-in-5 c =
    let a = c.args in
    let r = c.in_ok-state.state in
    let e = c.in_ok-next.ensures in
    let g = took r a.bytes.now c.in_ok-next.next e (good_in r a.bytes.now) refl in
    let w = made_by_state r a.bytes.now a.cells.now a.perms.now a.shapes.now a.boxes.now g.0 g.1 c.in-5.is c.number_of-n.ensures c.byte_at.ensures c.put_permission.ensures in
    rw c.in_ok-state.was (record { answer = e; cells = w.0; permissions = w.1.0; shapes = w.1.1.0; boxes = w.1.1.1 })

pub returns-in-6 : goal.returns-in-6
unfolding further tables_further
returns-in-6 c =
    let a = c.args in
    let r = c.in_ok-state.state in
    let e = c.in_ok-next.ensures in
    let g = took r a.bytes.now c.in_ok-next.next e (good_in r a.bytes.now) refl in
    let w = made_by_fill r a.bytes.now a.cells.now a.perms.now a.shapes.now a.boxes.now g.0 g.1 c.in-6.is c.fill_cells.ensures in
    rw c.in_ok-state.was (record { answer = e; cells = w.0; permissions = w.1.0; shapes = w.1.1.0; boxes = w.1.1.1 })

pub returns-in_default : goal.returns-in_default
unfolding further tables_further
returns-in_default c =
    let a = c.args in
    let r = c.in_ok-state.state in
    let e = c.in_ok-next.ensures in
    let g = took r a.bytes.now c.in_ok-next.next e (good_in r a.bytes.now) refl in
    let w = made_by_other r a.bytes.now a.cells.now a.perms.now a.shapes.now a.boxes.now g.0 g.1 (λ e. omega arith) (λ e. omega arith) (λ e. omega arith) (λ e. omega arith) in
    rw c.in_ok-state.was (record { answer = e; cells = w.0; permissions = w.1.0; shapes = w.1.1.0; boxes = w.1.1.1 })
