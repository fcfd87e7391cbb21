-- What walkprint tells of a scene (01, "Scenes and walkprint"): a refusal, or what the search answers. Definitions only.
use Rattle.std.specs.Prelude.{ℕ, ◌*◌, List, length, take}
use Rattle.floats.specs.Floats.{nought}
use Rattle.world.specs.declared.Window.{Window}
use Rattle.world.specs.declared.Request.{Request}
use Rattle.world.specs.declared.Body.{Body}
use Rattle.scene_state.specs.declared.state.Scene.{Scene}
use Rattle.scene_state.specs.declared.state.SceneError.{SceneError}
use Rattle.scene_state.specs.declared.state.SceneError.TheVariants.{BadScene, NoRoom}
use Rattle.scene_state.specs.Answers.{Answer, given, refused}
use Rattle.outcomes.specs.declared.Answer as search
use Rattle.outcomes.specs.Outcomes.{outcome_number}
use Rattle.search.specs.FindWalkPath.{found, nodes_after, front_after, index_after, out_after}
use Rattle.lengths.specs.Length.{length_of}
use Rattle.report.specs.declared.lines.Told.{Told}

-- "Refusals print `refused`, number, record": nothing else is told of one
unfoldable pub refusal : ℕ → ℕ → Told
refusal number bad = record { number = number; bad = bad; waypoints = 0; retained = 0; closed = 0; total = nought }

-- 7 BadScene and its record, or 5 NoRoom
abbrev pub told_error : SceneError → Told
told_error (BadScene k) = refusal 7 k
told_error NoRoom = refusal 5 0

-- what a search's answer says, with the output room that it left: the length is that of the list's records, 48 bytes each
unfoldable pub told_of : search.Answer → List ℕ → Told
told_of a out = record {
  number = outcome_number a.outcome;
  bad = 0;
  waypoints = a.count;
  retained = a.retained;
  closed = a.closed;
  total = length_of (take (48 * a.count) out);
}

module _ (cells perms shapes boxes : List ℕ) where
  -- what the search is asked of a scene, with tables of exactly the sizes in use
  abbrev pub asked : {A : Type 0} → (Window → List ℕ → List ℕ → List ℕ → List ℕ → Request → Body → A) → Scene → A
  asked f s =
      let used = s.in_use in
      f s.window (take used.cells cells) (take used.perms perms) (take used.shapes shapes) (take used.boxes boxes) s.request s.body

  -- its answer, and what it leaves in the lent rooms: of a refusal, what they held
  unfoldable pub answered : Scene → (nodes front index out : ℕ) → search.Answer
  answered = asked found

  unfoldable pub nodes_of : Answer Scene → (nodes front index out : List ℕ) → List ℕ
  nodes_of (refused n k) nodes front index out = nodes
  nodes_of (given s) nodes front index out = asked nodes_after s nodes front index out

  unfoldable pub front_of : Answer Scene → (nodes front index out : List ℕ) → List ℕ
  front_of (refused n k) nodes front index out = front
  front_of (given s) nodes front index out = asked front_after s nodes front index out

  unfoldable pub index_of : Answer Scene → (nodes front index out : List ℕ) → List ℕ
  index_of (refused n k) nodes front index out = index
  index_of (given s) nodes front index out = asked index_after s nodes front index out

  unfoldable pub out_of : Answer Scene → (nodes front index out : List ℕ) → List ℕ
  out_of (refused n k) nodes front index out = out
  out_of (given s) nodes front index out = asked out_after s nodes front index out

  -- all that is told of a scene or of its refusal
  unfoldable pub told : Answer Scene → (nodes front index out : List ℕ) → Told
  told (refused n k) nodes front index out = refusal n k
  told (given s) nodes front index out = told_of (answered s (length nodes) (length front) (length index) (length out)) (out_of (given s) nodes front index out)
