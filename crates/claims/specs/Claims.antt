-- What the contract of `find_walk_path` says of a budget, of its list and of its order: one theorem a claim, of the inputs of a call, in the words of 01, of the contract
-- (FindWalkPath of `search`) and of Words.
use Rattle.std.specs.Prelude.{ℕ, ◌+◌, ◌*◌, ◌≤◌, ◌<◌, ◌≡◌, true, false, List, ◌++◌, ◌⊎◌, ◌≢◌, eqb, length, take, drop, Ok}
use Rattle.std.proofs.Math.Option.{none, some}
use Rattle.std.proofs.Common.{arith}
use Rattle.std.specs.Float.Ieee.{is_nan, lt, eq}
use Rattle.exploration.specs.Lists.{nth, has, count}
use Rattle.exploration.specs.Graph.{Reach}
use Rattle.exploration.specs.Explore.{Searching}
use Rattle.exploration.proofs.Claims as theory
use Rattle.exploration.proofs.Laws.FloatOrder.{float_comparison}
use Rattle.world.specs.declared.Body.{Body}
use Rattle.world.specs.declared.Request.{Request}
use Rattle.world.specs.declared.Window.{Window}
use Rattle.world.specs.Space.{Space, space}
use Rattle.request.specs.Request.{valid_request}
use Rattle.ends.specs.Ends.{ends_good}
use Rattle.words.specs.Words.{feet_of}
use Rattle.steps.specs.Graph.{graph}
use Rattle.rooms.specs.declared.Feet.{Feet}
use Rattle.rooms.specs.declared.Label.{Label}
use Rattle.rooms.specs.Lists.{list_bytes}
use Rattle.rooms.specs.Waypoints.{same_point}
use Rattle.rooms.specs.Scans.{estimate_of}
use Rattle.rooms.specs.Rooms.{node_waits}
use Rattle.visits.specs.Best.{best}
use Rattle.outcomes.specs.declared.Answer.{Answer}
use Rattle.outcomes.specs.declared.Outcome.TheVariants.{Found, Unreachable, BudgetExceeded}
use Rattle.outcomes.specs.Outcomes.{outcome_number}
use Rattle.search.specs.FindWalkPath.{end_of, before_search, found, nodes_after, out_after}
use Rattle.walk_back.specs.Movements.{movement_at}
use Rattle.walk_back.specs.WalkBack.{IsRoute, RouteList, walked}
use Rattle.fields.specs.Bytes.{Bytes}
use Rattle.claims.specs.Words.{with_budget, InF64, kept_points, closed_words, push_of, after, LowestFirst}
use Rattle.claims.specs.Laws.Calls as calls
use Rattle.claims.specs.Laws.Search.{not_searching}
use Rattle.claims.specs.Laws.Accepted.{read_back, accepted}
use Rattle.claims.specs.Laws.Fits.{space_tops}
use Rattle.claims.specs.Laws.Numbers.{estimates_are_numbers}
use Rattle.claims.specs.Laws.Pushes.{pushes_apart}

module _ (w : Window) (cells perms shapes boxes : List ℕ) (r : Request) (body : Body) (nodes front index out : List ℕ) where
  -- the space of the tables; the call's answer, and its answer with another budget and other rooms; what it leaves in the node room and in the output
  abbrev sp : Space
  sp = space w cells perms shapes boxes

  abbrev answer : Answer
  answer = found w cells perms shapes boxes r body (length nodes) (length front) (length index) (length out)

  abbrev answer_with : ℕ → (nodes' front' index' out' : List ℕ) → Answer
  answer_with b nodes' front' index' out' = found w cells perms shapes boxes (with_budget b r) body (length nodes') (length front') (length index') (length out')

  abbrev room : List ℕ
  room = nodes_after w cells perms shapes boxes r body nodes front index out

  abbrev output : List ℕ
  output = out_after w cells perms shapes boxes r body nodes front index out

  -- Found: the list that the output begins with is a route by 01, of at most one point more than the budget, and the output past it is as it was.
  pub found_is_a_route : answer.outcome ≡ Found →
      (t : List (Feet × Label)) × IsRoute sp r body t
      × (output ≡ list_bytes t ++ drop (48 * length t) out)
      × (answer.count ≡ length t)
      × (length t ≤ r.node_budget + 1)
  found_is_a_route e =
      let c = calls.count_of w cells perms shapes boxes r body nodes front index out e in (
        calls.list w cells perms shapes boxes r body nodes front index out,
        calls.route_of w cells perms shapes boxes r body nodes front index out e,
        calls.out_of w cells perms shapes boxes r body nodes front index out e,
        c,
        omega (arith, calls.count_within w cells perms shapes boxes r body nodes front index out),
      )

  -- Found stays Found under every larger budget that draws no refusal ("Refusals are 3 to 9"), whatever the rooms.
  pub found_stays_found : answer.outcome ≡ Found → (b : ℕ) (nodes' front' index' out' : List ℕ) → r.node_budget ≤ b →
      outcome_number (answer_with b nodes' front' index' out').outcome < 3 → (answer_with b nodes' front' index' out').outcome ≡ Found
  found_stays_found e b nodes' front' index' out' above h = calls.stays_found w cells perms shapes boxes r body nodes front index out b nodes' front' index' out' above e h

  -- Unreachable stays Unreachable under every larger budget that draws no refusal, whatever the rooms.
  pub unreachable_stays_unreachable : answer.outcome ≡ Unreachable → (b : ℕ) (nodes' front' index' out' : List ℕ) → r.node_budget ≤ b →
      outcome_number (answer_with b nodes' front' index' out').outcome < 3 → (answer_with b nodes' front' index' out').outcome ≡ Unreachable
  unreachable_stays_unreachable e b nodes' front' index' out' above h =
      calls.stays_unreachable w cells perms shapes boxes r body nodes front index out b nodes' front' index' out' above e h

  -- Unreachable means that no list at all is a route: of an invalid request and of bad ends too.
  pub unreachable_has_no_route : answer.outcome ≡ Unreachable → (t : List (Feet × Label)) → IsRoute sp r body t → ⊥
  unreachable_has_no_route = calls.none_is_route w cells perms shapes boxes r body nodes front index out

  -- And where the search kept points, those of the retained node records that it leaves cover all that graph steps reach, by 01's same point. For a request of f64s.
  pub unreachable_kept_all : InF64 r → answer.outcome ≡ Unreachable → answer.retained ≢ 0 →
      (p : Feet) → Reach (graph sp r body) p → has (λ x. same_point x p) (kept_points answer.retained room) ≡ true
  unreachable_kept_all = calls.points_cover w cells perms shapes boxes r body nodes front index out

  -- Where it kept none, no search began: "invalid request, bad endpoint".
  pub unreachable_without_search : answer.outcome ≡ Unreachable → answer.retained ≡ 0 → (valid_request r body ≡ false) ⊎ (ends_good sp r body ≡ false)
  unreachable_without_search = calls.none_began w cells perms shapes boxes r body nodes front index out

  -- A budget for every point that graph steps reach from the start is never exceeded: points K cover them by 01's same point, and are no more than the budget.
  pub enough_budget : (K : List Feet) → ((p : Feet) → Reach (graph sp r body) p → has (λ x. same_point x p) K ≡ true) →
      length K ≤ r.node_budget →
      answer.outcome ≢ BudgetExceeded
  enough_budget K covers enough = calls.not_exceeded w cells perms shapes boxes r body nodes front index out K covers (omega (arith, enough))

  -- So after Unreachable the retained count is such a budget: neither it nor a larger one is ever exceeded, whatever the rooms.
  pub retained_is_enough : answer.outcome ≡ Unreachable → (b : ℕ) (nodes' front' index' out' : List ℕ) → answer.retained ≤ b →
      (answer_with b nodes' front' index' out').outcome ≢ BudgetExceeded
  retained_is_enough e b nodes' front' index' out' = calls.retained_enough w cells perms shapes boxes r body nodes front index out b nodes' front' index' out' e

  -- And it is the least one: every smaller budget that draws no refusal is exceeded.
  pub fewer_are_exceeded : answer.outcome ≡ Unreachable → (b : ℕ) (nodes' front' index' out' : List ℕ) → b < answer.retained →
      outcome_number (answer_with b nodes' front' index' out').outcome < 3 → (answer_with b nodes' front' index' out').outcome ≡ BudgetExceeded
  fewer_are_exceeded e b nodes' front' index' out' = calls.fewer_exceeded w cells perms shapes boxes r body nodes front index out b nodes' front' index' out' e

  -- Where there is a route, and the budget is for every such point and draws no refusal, Found is answered.
  pub a_route_is_found : (t : List (Feet × Label)) → IsRoute sp r body t →
      (K : List Feet) → ((p : Feet) → Reach (graph sp r body) p → has (λ x. same_point x p) K ≡ true) → length K ≤ r.node_budget →
      outcome_number answer.outcome < 3 → answer.outcome ≡ Found
  a_route_is_found = calls.found_of w cells perms shapes boxes r body nodes front index out

  -- No input makes more retained nodes than the budget, more closed ones than retained ones, or more waypoints than the budget and one;
  pub within_budget : (answer.retained ≤ r.node_budget) × (answer.closed ≤ answer.retained) × (answer.count ≤ r.node_budget + 1)
  within_budget = (
    calls.retained_within w cells perms shapes boxes r body nodes front index out,
    calls.closed_within w cells perms shapes boxes r body nodes front index out,
    calls.count_within w cells perms shapes boxes r body nodes front index out,
  )

  -- and the closed count is how many of the retained node records that it leaves have 1 for their closed word.
  pub closed_are_counted : answer.closed ≡ count (λ c. eqb c 1) (closed_words answer.retained room)
  closed_are_counted = calls.closed_in_room w cells perms shapes boxes r body nodes front index out

  -- A search that began ends in 0, 1 or 2, and not in the case `Searching`, which `told_by` tells as 2 for want of another.
  pub a_search_ends : before_search w cells perms shapes boxes r body (length nodes) (length front) (length index) (length out) ≡ none →
      (outcome_number answer.outcome < 3) × (end_of sp r body ≢ Searching)
  a_search_ends n = (calls.ends_below_three w cells perms shapes boxes r body nodes front index out n, not_searching sp r body)

  -- Found: the first 48 × count bytes of the output read back as a route. For a request of f64s and a cell table of bytes, as every caller's are.
  pub found_reads_back : InF64 r → Bytes cells → answer.outcome ≡ Found → RouteList sp r body (take (48 * answer.count) output)
  found_reads_back = read_back w cells perms shapes boxes r body nodes front index out

  -- So what the search writes, the walk-back accepts.
  pub walk_back_accepts : InF64 r → Bytes cells → answer.outcome ≡ Found → walked w cells perms shapes boxes r body (take (48 * answer.count) output) ≡ Ok tt
  walk_back_accepts = accepted w cells perms shapes boxes r body nodes front index out

  -- A route has no movement but 01's four, so the walk-back answers no to a list with a movement above 3.
  pub movement_above_three : (t : List (Feet × Label)) → IsRoute sp r body t → (k : ℕ) (v : Feet × Label) → nth t k ≡ some v → v.1.movement ≤ 3
  movement_above_three t l = movement_at sp r body l.way

  -- "lowest estimate first, then earliest push". No estimate is a NaN and no two pushes tie, so nothing else decides. For a valid request of f64s.
  pub lowest_estimate_first : InF64 r → valid_request r body ≡ true → LowestFirst sp r body
  unfolding best
  lowest_estimate_first f valid n p e =
      theory.distinct_pushes_decide lt eq (λ x. is_nan x ≡ false) float_comparison node_waits (λ x. estimate_of x.note.entry) push_of (after sp r body n).nodes
      (λ k x i h. estimates_are_numbers sp (space_tops w cells perms shapes boxes) r body f valid r.node_budget n k x i)
      (pushes_apart (graph sp r body) (feet_of r.goal) r.node_budget n) p e
