-- The reader's answers: 01's number for each case of an enum, and its values.
use Rattle.std.specs.Prelude.{ℕ, ◌&&◌, cond, List, leb, ltb, length, Result, Ok, Err}
use Rattle.scene_state.specs.declared.state.Reading.{Reading}
use Rattle.scene_state.specs.declared.state.Scene.{Scene}
use Rattle.scene_state.specs.declared.state.SceneError.{SceneError}
use Rattle.scene_state.specs.declared.state.SceneError.TheVariants.{BadScene, NoRoom}
use Rattle.scene_state.specs.State.{empty, in_use}

-- no refusal and its value, or a refusal's number and record: 0 unless 7
pub data Answer (A : Type 0) : Type 0 where
  given : A → Answer A
  refused : ℕ → ℕ → Answer A

-- a value, 7 BadScene, or 5 NoRoom
abbrev pub answer_of : {A : Type 0} → Result A SceneError → Answer A
answer_of (Ok x) = given x
answer_of (Err (BadScene k)) = refused 7 k
answer_of (Err NoRoom) = refused 5 0

-- of the records so far: what the good ones say
abbrev pub progress_answer : Result Reading SceneError → Answer Reading
progress_answer = answer_of

-- ---- 5 NoRoom: "a scene table's room below its largest size (before 7, nothing written)": 4,096 cells of 8 bytes, 256 permissions, 256 shapes of 8 bytes and
-- 256 boxes of 48

unfoldable pub begun : List ℕ → List ℕ → List ℕ → List ℕ → Answer Reading
begun cells perms shapes boxes =
    cond (leb 32768 (length cells) && leb 256 (length perms) && leb 2048 (length shapes) && leb 12288 (length boxes)) (given empty) (refused 5 0)

-- ---- the end of the input: "A missing or partial record is bad at its own number", and records 0 to 2 can be missing

unfoldable pub ended : Reading → Answer Scene
ended r =
    cond (ltb r.kind 3) (refused 7 r.number)
    (given (record { request = r.request; body = r.body; window = r.window; in_use = in_use r.counts }))

-- a refusal stands
unfoldable pub scene_of : Answer Reading → Answer Scene
scene_of (given r) = ended r
scene_of (refused n k) = refused n k

-- ---- of a whole scene: 0 and the scene, 7 BadScene, 5 NoRoom

abbrev pub scene_answer : Result Scene SceneError → Answer Scene
scene_answer = answer_of
