-- What the calls answer where a record is shorter than its struct: in 01's order 3 where the world is bad, for which the missing fields of a window read as 0, and
-- else what an invalid request is answered with: 1, and 111 of the walk-back.
use Rattle.std.specs.Prelude.{ℕ, ◌≡◌, Bool, List, eqb, length, Result, Ok, Err}
use Rattle.std.proofs.Math.Path.{refl}
use Rattle.std.proofs.Math.Bool.{true, false, cond}
use Rattle.std.proofs.Math.Option.{some}
use Rattle.world.specs.declared.Body.{Body}
use Rattle.world.specs.declared.Point.{Point}
use Rattle.world.specs.declared.Request.{Request}
use Rattle.world.specs.declared.Window.{Window}
use Rattle.policy.specs.declared.policy.WalkPolicy.{WalkPolicy}
use Rattle.policy.specs.Permission.{permission_table}
use Rattle.tables.specs.BadWorld.{bad_world}
use Rattle.request.specs.Request.{valid_request}
use Rattle.questions.specs.Questions.{judged}
use Rattle.rooms.specs.declared.Counts.{Counts}
use Rattle.outcomes.specs.declared.Outcome.TheVariants as outcome
use Rattle.outcomes.specs.declared.Refusal.TheVariants.{Judged}
use Rattle.outcomes.specs.Ticks.{tick_number, nothing_written}
use Rattle.outcomes.specs.Outcomes.{Path, outcome_number, path_number}
use Rattle.refusals.specs.Refusals.{without_search}
use Rattle.search.specs.FindWalkPath.{answer_by, found}
use Rattle.search.specs.Ticks.{continued_search}
use Rattle.openings.specs.Openings.{begun_by, begun_search}
use Rattle.mob_request.specs.Asked.{request_of}
use Rattle.find_path.specs.FindPath.{unless_bad, path}
use Rattle.walk_back.specs.declared.Fault.TheVariants.{InvalidRequest}
use Rattle.walk_back.specs.declared.Denied.{Denied}
use Rattle.walk_back.specs.declared.Denied.TheVariants.{BadWorld, Fault}
use Rattle.walk_back.specs.WalkBack.{walked, walked_number}
use Rattle.c_records.specs.Records.{window_in, body_in}
use Rattle.c_records.specs.Asked.{asked, start_asked, goal_asked}
use Rattle.walk_c.specs.Slices.{begun_in, continued_in}
use Rattle.c_records.specs.Laws.{CutShort, cut_short_is_invalid, mob_cut_short_is_invalid}

-- ---- what an invalid request is answered with

module _ (w : Window) (cells perms shapes boxes : List ℕ) (r : Request) (body : Body) (invalid : valid_request r body ≡ false) where
  search_invalid : (nodes front index out : ℕ) → outcome_number (found w cells perms shapes boxes r body nodes front index out).outcome ≡ cond (bad_world w cells shapes boxes) 3 1
  unfolding found without_search
  search_invalid nodes front index out = rw invalid (go (bad_world w cells shapes boxes))
    where
      go : (b : Bool) → outcome_number (answer_by w cells perms shapes boxes r body (cond b (some outcome.BadWorld) (some outcome.Unreachable))).outcome ≡ cond b 3 1
      go true = refl
      go false = refl

  begin_invalid : (nodes front out : List ℕ) → tick_number (begun_search w cells perms shapes boxes r body nodes front out).tick ≡ cond (bad_world w cells shapes boxes) 3 1
  unfolding begun_search without_search
  begin_invalid nodes front out = rw invalid (go (bad_world w cells shapes boxes))
    where
      go : (b : Bool) → tick_number (begun_by w cells perms shapes boxes r body nodes front out (cond b (some outcome.BadWorld) (some outcome.Unreachable))).tick ≡ cond b 3 1
      go true = refl
      go false = refl

  continue_invalid : (nodes front out : List ℕ) (c : Counts) (n : ℕ) → tick_number (continued_search w cells perms shapes boxes r body nodes front out c n).tick ≡ cond (bad_world w cells shapes boxes) 3 1
  unfolding continued_search
  continue_invalid nodes front out c n = rw invalid (go (bad_world w cells shapes boxes))
    where
      go : (b : Bool) → tick_number (cond b (nothing_written (Err (Judged outcome.BadWorld)) nodes front out) (nothing_written (Err (Judged outcome.Unreachable)) nodes front out)).tick ≡ cond b 3 1
      go true = refl
      go false = refl

  walk_back_invalid : (list : List ℕ) → walked_number (walked w cells perms shapes boxes r body list) ≡ cond (bad_world w cells shapes boxes) 3 111
  unfolding walked
  walk_back_invalid list = rw invalid (go (bad_world w cells shapes boxes))
    where
      go : (b : Bool) → walked_number (cond {A = Result (Unit {0}) Denied} b (Err BadWorld) (Err (Fault InvalidRequest))) ≡ cond b 3 111
      go true = refl
      go false = refl

-- ---- the calls

module _ (window cells perms shapes boxes request body : List ℕ) (short : CutShort window request 88 body) where
  pub search_cut_short : (nodes front index out : ℕ) → outcome_number (found (window_in window) cells perms shapes boxes (asked window request body) (body_in body) nodes front index out).outcome ≡ cond (bad_world (window_in window) cells shapes boxes) 3 1
  search_cut_short = search_invalid (window_in window) cells perms shapes boxes (asked window request body) (body_in body) (cut_short_is_invalid window request body (body_in body) short)

  pub begin_cut_short : (nodes front out : List ℕ) → tick_number (begun_in window cells perms shapes boxes request body nodes front out).tick ≡ cond (bad_world (window_in window) cells shapes boxes) 3 1
  unfolding begun_in
  begin_cut_short = begin_invalid (window_in window) cells perms shapes boxes (asked window request body) (body_in body) (cut_short_is_invalid window request body (body_in body) short)

  pub continue_cut_short : (nodes front out : List ℕ) (c : Counts) (n : ℕ) → tick_number (continued_in window cells perms shapes boxes request body nodes front out c n).tick ≡ cond (bad_world (window_in window) cells shapes boxes) 3 1
  unfolding continued_in
  continue_cut_short = continue_invalid (window_in window) cells perms shapes boxes (asked window request body) (body_in body) (cut_short_is_invalid window request body (body_in body) short)

  pub walk_back_cut_short : (list : List ℕ) → walked_number (walked (window_in window) cells perms shapes boxes (asked window request body) (body_in body) list) ≡ cond (bad_world (window_in window) cells shapes boxes) 3 111
  walk_back_cut_short = walk_back_invalid (window_in window) cells perms shapes boxes (asked window request body) (body_in body) (cut_short_is_invalid window request body (body_in body) short)

  pub edge_cut_short : (edge : ℕ) → judged (window_in window) cells shapes boxes (asked window request body) (body_in body) 3 1 4 edge ≡ cond (bad_world (window_in window) cells shapes boxes) 3 1
  edge_cut_short edge = rw (cut_short_is_invalid window request body (body_in body) short)

-- a mob's search: 8 first
module _ (p : WalkPolicy) (wet : Bool) (flags window cells perms shapes boxes ends body : List ℕ) (short : CutShort window ends 48 body) where
  pub mob_cut_short : (nodes front index out : ℕ) → path_number (path p wet flags (window_in window) cells perms shapes boxes (start_asked window ends body) (goal_asked window ends body) (body_in body) nodes front index out) ≡ cond (eqb (length flags) (length perms)) (cond (bad_world (window_in window) cells shapes boxes) 3 1) 8
  unfolding path unless_bad
  mob_cut_short nodes front index out = go (eqb (length flags) (length perms))
    where
      start : Point
      start = start_asked window ends body

      goal : Point
      goal = goal_asked window ends body

      searched : outcome_number (found (window_in window) cells (permission_table p wet flags perms) shapes boxes (request_of p start goal (body_in body)) (body_in body) nodes front index out).outcome ≡ cond (bad_world (window_in window) cells shapes boxes) 3 1
      searched = search_invalid (window_in window) cells (permission_table p wet flags perms) shapes boxes (request_of p start goal (body_in body)) (body_in body) (mob_cut_short_is_invalid p window ends body (body_in body) short) nodes front index out

      go : (b : Bool) → path_number (cond {A = Path} b (Ok (found (window_in window) cells (permission_table p wet flags perms) shapes boxes (request_of p start goal (body_in body)) (body_in body) nodes front index out)) (Err (record {}))) ≡ cond b (cond (bad_world (window_in window) cells shapes boxes) 3 1) 8
      go true = searched
      go false = refl
