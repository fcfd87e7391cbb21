-- What each case of the code tells: a search of the parts of the tables that are in use, or a refusal. Assumes nothing.
use Rattle.std.specs.Prelude.{◌≡◌, refl, List, ℕ, length, take, Result, Err}
use Rattle.scene_state.specs.declared.state.SceneError.{SceneError}
use Rattle.scene_state.specs.declared.state.SceneError.TheVariants.{BadScene, NoRoom}
use Rattle.scene_state.specs.declared.state.Scene.{Scene}
use Rattle.scene_state.specs.Answers.{given, scene_answer}
use Rattle.outcomes.specs.declared.Answer as search
use Rattle.search.specs.FindWalkPath.{found, nodes_after, front_after, index_after, out_after}
use Rattle.report.specs.declared.lines.Told.{Told}
use Rattle.print.specs.Print.{told_error, told_of, answered, nodes_of, front_of, index_of, out_of, told}

module _ (cells perms shapes boxes nodes front index out : List ℕ) where
  pub tells : (s : Scene) {c p h b nodes' front' index' out' : List ℕ} {a : search.Answer} {t : Told} →
      c ≡ take s.in_use.cells cells → p ≡ take s.in_use.perms perms → h ≡ take s.in_use.shapes shapes → b ≡ take s.in_use.boxes boxes →
      (a ≡ found s.window c p h b s.request s.body (length nodes) (length front) (length index) (length out)) ×
      ((nodes' ≡ nodes_after s.window c p h b s.request s.body nodes front index out) ×
      ((front' ≡ front_after s.window c p h b s.request s.body nodes front index out) ×
      ((index' ≡ index_after s.window c p h b s.request s.body nodes front index out) × (out' ≡ out_after s.window c p h b s.request s.body nodes front index out)))) →
      t ≡ told_of a out' →
      (t ≡ told cells perms shapes boxes (given s) nodes front index out) ×
      ((nodes' ≡ nodes_of cells perms shapes boxes (given s) nodes front index out) ×
      ((front' ≡ front_of cells perms shapes boxes (given s) nodes front index out) ×
      ((index' ≡ index_of cells perms shapes boxes (given s) nodes front index out) × (out' ≡ out_of cells perms shapes boxes (given s) nodes front index out))))
  unfolding answered nodes_of front_of index_of out_of told
  tells s ec ep eh eb es et = let f = rw (ec, ep, eh, eb) at es in (rw (f.0, f.1.1.1.1) at et, f.1)

  -- a refusal tells its number and its record, and leaves the rooms as they were
  pub error_tells : {t : Told} (a : Result Scene SceneError) (e : SceneError) → a ≡ Err e → t ≡ told_error e →
      (t ≡ told cells perms shapes boxes (scene_answer a) nodes front index out) ×
      ((nodes ≡ nodes_of cells perms shapes boxes (scene_answer a) nodes front index out) ×
      ((front ≡ front_of cells perms shapes boxes (scene_answer a) nodes front index out) ×
      ((index ≡ index_of cells perms shapes boxes (scene_answer a) nodes front index out) × (out ≡ out_of cells perms shapes boxes (scene_answer a) nodes front index out))))
  unfolding nodes_of front_of index_of out_of told
  error_tells a (BadScene k) is f = rw is (f, (refl, (refl, (refl, refl))))
  error_tells a NoRoom is f = rw is (f, (refl, (refl, (refl, refl))))
