-- The numbers and values of the reader's answers tell them apart, because each can be read back: a contract that gives them allows one answer. Assumes nothing.
use Rattle.std.specs.Prelude.{◌≡◌, refl, cond, eqb, Result, Ok, Err}
use Rattle.std.proofs.Common.{sym, ap, ◌∙◌}
use Rattle.scene_state.specs.declared.state.Reading.{Reading}
use Rattle.scene_state.specs.declared.state.Scene.{Scene}
use Rattle.scene_state.specs.declared.state.SceneError.{SceneError}
use Rattle.scene_state.specs.declared.state.SceneError.TheVariants.{BadScene, NoRoom}
use Rattle.scene_state.specs.Answers.{Answer, given, refused, answer_of, progress_answer, scene_answer}

module _ {A : Type 0} where
  abbrev read_back : Answer A → Result A SceneError
  read_back (given x) = Ok x
  read_back (refused n k) = Err (cond (eqb n 7) (BadScene k) NoRoom)

  back : (a : Result A SceneError) → read_back (answer_of a) ≡ a
  back (Ok x) = refl
  back (Err (BadScene k)) = refl
  back (Err NoRoom) = refl

  pub one_answer : (a b : Result A SceneError) → answer_of a ≡ answer_of b → a ≡ b
  one_answer a b e = sym (back a) ∙ ap read_back e ∙ back b

pub one_progress : (a b : Result Reading SceneError) → progress_answer a ≡ progress_answer b → a ≡ b
one_progress a b e = one_answer a b e

pub one_scene : (a b : Result Scene SceneError) → scene_answer a ≡ scene_answer b → a ≡ b
one_scene a b e = one_answer a b e
