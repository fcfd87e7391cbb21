-- What the answers of the three calls that search mean, of the bytes that they are handed and leave: the claims of `claims` that ask for a request of f64s, here with
-- no such hypothesis, for every request that is read from bytes is one (Requests). Two of them ask that the lent cell table is a list of bytes, as every slice is: a
-- door (02, No. 5) is a state's number of that table.
use Rattle.std.specs.Prelude.{ℕ, ◌*◌, Bool, List, ◌≢◌, eqb, length, take, Ok, Err}
use Rattle.std.proofs.Common.{arith}
use Rattle.std.proofs.Math.Path.{◌≡◌, refl}
use Rattle.std.proofs.Math.Bool.{true, false, cond}
use Rattle.std.specs.Float.Ieee.{binary64, of_bits}
use Rattle.std.specs.Float.Ieee.Bits.{of_bits-fits}
use Rattle.exploration.specs.Lists.{has}
use Rattle.fields.specs.Bytes.{Bytes}
use Rattle.exploration.specs.Graph.{Reach}
use Rattle.world.specs.declared.Body.{Body}
use Rattle.world.specs.declared.Point.{Point}
use Rattle.world.specs.declared.Request.{Request}
use Rattle.world.specs.declared.Window.{Window}
use Rattle.world.specs.Space.{space}
use Rattle.request.specs.Request.{valid_request}
use Rattle.steps.specs.Graph.{graph}
use Rattle.rooms.specs.declared.Feet.{Feet}
use Rattle.rooms.specs.Waypoints.{same_point}
use Rattle.outcomes.specs.declared.Answer.{Answer}
use Rattle.outcomes.specs.Outcomes.{Path, outcome_number}
use Rattle.search.specs.FindWalkPath.{found, nodes_after, out_after}
use Rattle.walk_back.specs.WalkBack.{RouteList, walked}
use Rattle.policy.specs.declared.policy.WalkPolicy.{WalkPolicy}
use Rattle.policy.specs.Permission.{permission_table}
use Rattle.mob_request.specs.Asked.{request_of}
use Rattle.find_path.specs.FindPath.{unless_bad, path, out_after_path}
use Rattle.scene_state.specs.declared.state.Scene.{Scene}
use Rattle.scene_state.specs.Answers as scenes
use Rattle.scene_state.specs.Answers.{given, refused}
use Rattle.scene.specs.Scene.{Tables, read_all}
use Rattle.report.specs.declared.lines.Told.{Told}
use Rattle.print.specs.Print.{refusal, told_of, answered, out_of, told}
use Rattle.c_records.specs.Records.{window_in, body_in, policy_in, in_water}
use Rattle.c_records.specs.Asked.{asked, start_asked, goal_asked}
use Rattle.claims.specs.Words.{InF64, kept_points, LowestFirst}
use Rattle.claims.specs.Claims as claims
use Rattle.byte_claims.specs.Numbers.{is_found, is_unreachable}
use Rattle.byte_claims.specs.Cells.{bytes_take, cells_left}
use Rattle.byte_claims.specs.Requests.{asked_in_f64, end_fits, mob_request_in_f64, Sound, scene_in_f64}

-- ---- what is said of a call

module _ (w : Window) (cells perms shapes boxes : List ℕ) (r : Request) (body : Body) (nodes front index out : List ℕ) where
  abbrev answer : Answer
  answer = found w cells perms shapes boxes r body (length nodes) (length front) (length index) (length out)

  -- the list that an answer counts, at the front of the output that the call leaves
  abbrev list : List ℕ
  list = take (48 * answer.count) (out_after w cells perms shapes boxes r body nodes front index out)

  pub record Claimed : Type 0 where
    -- 0, Found: the first 48 × count bytes of the output read back as a route by 01,
    pub found_reads_back : Bytes cells → outcome_number answer.outcome ≡ 0 → RouteList (space w cells perms shapes boxes) r body list
    -- to which the walk-back says yes.
    pub walk_back_accepts : Bytes cells → outcome_number answer.outcome ≡ 0 → walked w cells perms shapes boxes r body list ≡ Ok tt
    -- 1, Unreachable, after a search: the points of the retained node records cover all that graph steps reach, by 01's same point.
    pub unreachable_kept_all : outcome_number answer.outcome ≡ 1 → answer.retained ≢ 0 → (p : Feet) → Reach (graph (space w cells perms shapes boxes) r body) p →
        has (λ x. same_point x p) (kept_points answer.retained (nodes_after w cells perms shapes boxes r body nodes front index out)) ≡ true
    -- "lowest estimate first, then earliest push", of a valid request.
    pub lowest_estimate_first : valid_request r body ≡ true → LowestFirst (space w cells perms shapes boxes) r body

  claimed : InF64 r → Claimed
  claimed f = record {
    found_reads_back = λ b e. claims.found_reads_back w cells perms shapes boxes r body nodes front index out f b (is_found answer.outcome e);
    walk_back_accepts = λ b e. claims.walk_back_accepts w cells perms shapes boxes r body nodes front index out f b (is_found answer.outcome e);
    unreachable_kept_all = λ e. claims.unreachable_kept_all w cells perms shapes boxes r body nodes front index out f (is_unreachable answer.outcome e);
    lowest_estimate_first = claims.lowest_estimate_first w cells perms shapes boxes r body nodes front index out f;
  }

-- ---- `walkprint_find_walk_path`: every argument is bytes

module _ (window cells perms shapes boxes request body nodes front index out : List ℕ) where
  -- the request that its records ask
  abbrev question : Request
  question = asked window request body

  question_in_f64 : InF64 question
  question_in_f64 = asked_in_f64 window request body

  pub through_c : Claimed (window_in window) cells perms shapes boxes question (body_in body) nodes front index out
  through_c = claimed (window_in window) cells perms shapes boxes question (body_in body) nodes front index out question_in_f64

-- ---- `walkprint_find_path`: every argument is bytes but the policy, a number, and the jump height, an f64, here by its pattern

module _ (bits pattern : ℕ) (flags window cells perms shapes boxes ends body nodes front index out : List ℕ) where
  abbrev policy : WalkPolicy
  policy = policy_in bits (of_bits binary64 pattern)

  -- the permission table that the call fills, and the two ends that its records ask
  abbrev filled : List ℕ
  filled = permission_table policy (in_water bits) flags perms

  abbrev start : Point
  start = start_asked window ends body

  abbrev goal : Point
  goal = goal_asked window ends body

  abbrev mob : Request
  mob = request_of policy start goal (body_in body)

  mob_in_f64 : InF64 mob
  unfolding policy_in
  mob_in_f64 = mob_request_in_f64 policy start goal (body_in body) (of_bits-fits binary64 pattern) (end_fits _ ends 0) (end_fits _ ends 24)

  pub through_c_of_a_mob : Claimed (window_in window) cells filled shapes boxes mob (body_in body) nodes front index out
  through_c_of_a_mob = claimed (window_in window) cells filled shapes boxes mob (body_in body) nodes front index out mob_in_f64

  -- in that call's own words: the search with the filled table finds, and the output that the call leaves reads back
  pub mob_found_reads_back : Bytes cells → (a : Answer) →
      path policy (in_water bits) flags (window_in window) cells perms shapes boxes start goal (body_in body) (length nodes) (length front) (length index) (length out) ≡ Ok a →
      outcome_number a.outcome ≡ 0 →
      RouteList (space (window_in window) cells filled shapes boxes) mob (body_in body)
      (take (48 * a.count) (out_after_path policy (in_water bits) flags (window_in window) cells perms shapes boxes start goal (body_in body) nodes front index out))
  unfolding path out_after_path unless_bad
  mob_found_reads_back b a e z = go (eqb (length flags) (length perms)) e
    where
      go : (same : Bool) → cond {A = Path} same (Ok (answer (window_in window) cells filled shapes boxes mob (body_in body) nodes front index out)) (Err (record {})) ≡ Ok a →
          RouteList (space (window_in window) cells filled shapes boxes) mob (body_in body)
          (take (48 * a.count) (cond same (out_after (window_in window) cells filled shapes boxes mob (body_in body) nodes front index out) out))
      go true e =
          let i : answer (window_in window) cells filled shapes boxes mob (body_in body) nodes front index out ≡ a = cc in
          rw (← i) (through_c_of_a_mob.found_reads_back b (rw (← i) at z))
      go false e = absurd (let q : ◌≡◌ {A = ℕ} 0 1 = cc in omega arith)

-- ---- walkprint: the records of a scene, read one by one into four tables, and the rooms of its search

module _ (t : Tables) (ss : List (List ℕ)) (nodes front index out : List ℕ) where
  -- the reader's answer and the tables that it leaves; what is told of an answer, and the output that is left
  abbrev read : scenes.Answer Scene
  read = (read_all t ss).answer

  abbrev left : Tables
  left = (read_all t ss).tables

  abbrev tells : scenes.Answer Scene → Told
  tells a = told left.cells left.perms left.shapes left.boxes a nodes front index out

  abbrev output : scenes.Answer Scene → List ℕ
  output a = out_of left.cells left.perms left.shapes left.boxes a nodes front index out

  -- a scene's tables are of exactly the sizes in use
  abbrev cells_of : Scene → List ℕ
  cells_of s = take s.in_use.cells left.cells

  abbrev perms_of : Scene → List ℕ
  perms_of s = take s.in_use.perms left.perms

  abbrev shapes_of : Scene → List ℕ
  shapes_of s = take s.in_use.shapes left.shapes

  abbrev boxes_of : Scene → List ℕ
  boxes_of s = take s.in_use.boxes left.boxes

  pub of_a_scene : (s : Scene) → read ≡ given s → Claimed s.window (cells_of s) (perms_of s) (shapes_of s) (boxes_of s) s.request s.body nodes front index out
  of_a_scene s e = claimed s.window (cells_of s) (perms_of s) (shapes_of s) (boxes_of s) s.request s.body nodes front index out (rw e at (scene_in_f64 t ss))

  -- in its own words: where it tells 0, a scene was read, and the first 48 × waypoints bytes of the output are a route in it
  pub told_found_reads_back : Bytes t.cells → (tells read).number ≡ 0 →
      (s : Scene) × (read ≡ given s)
      × RouteList (space s.window (cells_of s) (perms_of s) (shapes_of s) (boxes_of s)) s.request s.body (take (48 * (tells read).waypoints) (output read))
  unfolding told told_of out_of answered refusal
  told_found_reads_back b z = go read (scene_in_f64 t ss) z
    where
      go : (a : scenes.Answer Scene) → Sound a → (tells a).number ≡ 0 →
          (s : Scene) × (a ≡ given s)
          × RouteList (space s.window (cells_of s) (perms_of s) (shapes_of s) (boxes_of s)) s.request s.body (take (48 * (tells a).waypoints) (output a))
      go (given s) f z = (s, refl, (claimed s.window (cells_of s) (perms_of s) (shapes_of s) (boxes_of s) s.request s.body nodes front index out f).found_reads_back (bytes_take s.in_use.cells left.cells (cells_left t ss b)) z)
      go (refused n k) f z = absurd (f z)
