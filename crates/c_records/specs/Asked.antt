-- What a call is asked: the values of the records that it is handed. "Where a window, request, ends or body record is shorter than its struct, the request is
-- an invalid one" (docs/DECISIONS.md): both its ends are nowhere. That this is invalid is `cut_short_is_invalid` and `mob_cut_short_is_invalid` of Laws.
use Rattle.std.specs.Prelude.{ℕ, Bool, ◌&&◌, cond, List, leb, length, Float}
use Rattle.std.specs.Float.{nan}
use Rattle.floats.specs.Floats.{nought}
use Rattle.world.specs.declared.Point.{Point}
use Rattle.world.specs.declared.Request.{Request}
use Rattle.world.specs.Space.{point_at}
use Rattle.c_records.specs.declared.question.Question.{Question}
use Rattle.mob_request.specs.declared.Mob.{Mob}
use Rattle.c_records.specs.Records.{window_in, request_in, body_in, policy_in, in_water}

-- no record is shorter than its struct: the window's and the body's 24 bytes, and so many of the one between, a request's 88 or two ends' 48
unfoldable pub all_whole : List ℕ → List ℕ → ℕ → List ℕ → Bool
all_whole window asked size body = leb 24 (length window) && leb size (length asked) && leb 24 (length body)

-- no place in the world
unfoldable pub no_point : Point
no_point = record { x = nan; y = nan; z = nan }

-- the request that is asked by records that are cut short
unfoldable pub no_request : Request
no_request = record {
  start = no_point;
  goal = no_point;
  max_range = nought;
  node_budget = 0;
  step_height = nought;
  jump_height = nought;
  max_drop = nought;
}

-- the request that the window's, the request's and the body's record ask
unfoldable pub asked : List ℕ → List ℕ → List ℕ → Request
asked window request body = cond (all_whole window request 88 body) (request_in request) no_request

-- an end of a mob's search: the point at an offset, where the records are whole
unfoldable pub end_in : Bool → List ℕ → ℕ → Point
end_in whole ends at = cond whole (point_at ends at) no_point

-- the two ends that the window's, the ends' and the body's record ask
abbrev pub start_asked : List ℕ → List ℕ → List ℕ → Point
start_asked window ends body = end_in (all_whole window ends 48 body) ends 0

abbrev pub goal_asked : List ℕ → List ℕ → List ℕ → Point
goal_asked window ends body = end_in (all_whole window ends 48 body) ends 24

-- ---- all that a call is asked

unfoldable pub question_in : List ℕ → List ℕ → List ℕ → Question
question_in window request body = record { window = window_in window; request = asked window request body; body = body_in body }

unfoldable pub mob_in : ℕ → Float → List ℕ → List ℕ → List ℕ → Mob
mob_in bits jump window ends body = record {
  policy = policy_in bits jump;
  in_water = in_water bits;
  window = window_in window;
  start = start_asked window ends body;
  goal = goal_asked window ends body;
  body = body_in body;
}
