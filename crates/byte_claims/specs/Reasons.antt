-- What 117 of the walk-back means, of the bytes that `walkprint_walk_back` is handed, and of the place that it gives: "not a graph step (nor, at the last pair, a connector)". Whatever
-- movement, lift and door the record had, no graph step would lead to it.
use Rattle.std.specs.Prelude.{ℕ, ◌+◌, ◌/◌, ◌<◌, ◌≡◌, refl, false, true, List, [], ◌∷◌, eqb, length, Result, Ok, Err}
use Rattle.std.proofs.Common.{arith, sym, ◌∙◌}
use Rattle.exploration.specs.Graph.{Graph, has_step}
use Rattle.exploration.specs.WalkBack.{joined}
use Rattle.world.specs.declared.Request.{Request}
use Rattle.world.specs.Space.{Space, space}
use Rattle.steps.specs.Graph.{graph}
use Rattle.rooms.specs.declared.Feet.{Feet}
use Rattle.rooms.specs.declared.Label.{Label}
use Rattle.rooms.specs.Records.{waypoint_at}
use Rattle.listed.specs.Listed.{entry}
use Rattle.pairs.specs.declared.PairFault.{PairFault}
use Rattle.pairs.specs.declared.PairFault.TheVariants.{NotAStep}
use Rattle.pairs.specs.Unique.{one_pair}
use Rattle.walk_back.specs.declared.Fault.TheVariants.{InvalidRequest, BadList, GoalOutOfRange, StartNotStandable, GoalNotStandable, WrongStart, Pair, WrongEnd}
use Rattle.walk_back.specs.declared.Denied.{Denied}
use Rattle.walk_back.specs.declared.Denied.TheVariants.{BadWorld, TooLarge, Fault}
use Rattle.walk_back.specs.WalkBack.{walked_number, walked_places, walked}
use Rattle.walk_back.specs.Places.{BreaksAt}
use Rattle.walk_back.proofs.Claims.{pairs_told}
use Rattle.c_records.specs.Records.{window_in, body_in}
use Rattle.c_records.specs.Asked.{asked}
use Rattle.claims.specs.Reasons.{Says, a_pair_whatever_its_label}
use Rattle.byte_claims.specs.Requests.{asked_in_f64}

module _ (window cells perms shapes boxes request body list : List ℕ) where
  abbrev sp : Space
  sp = space (window_in window) cells perms shapes boxes

  abbrev question : Request
  question = asked window request body

  abbrev 𝓖 : Graph Feet Label
  𝓖 = graph sp question (body_in body)

  abbrev answer : Result (Unit {0}) Denied
  answer = walked (window_in window) cells perms shapes boxes question (body_in body) list

  -- record m of the list is behind another one; each pair before these two is a graph step; and no label makes the two a graph step, or at the end a connector
  pub record NoStepTo (m : ℕ) : Type 0 where
    pub earlier : ℕ
    pub place : m ≡ earlier + 1
    pub inside : m < length list / 48
    pub steps_before : (j : ℕ) → j < earlier → has_step 𝓖 (waypoint_at list j).feet (entry (waypoint_at list (j + 1))) ≡ true
    pub no_label : (l : Label) → joined 𝓖 (eqb (m + 1) (length list / 48)) (waypoint_at list earlier).feet ((waypoint_at list m).feet, l) ≡ false

  broken : {m : ℕ} {fault : PairFault} → BreaksAt sp question (body_in body) list m fault → fault ≡ NotAStep → NoStepTo m
  broken {m} b e =
      let says : Says (window_in window) cells perms shapes boxes question (body_in body) (waypoint_at list b.earlier).feet (waypoint_at list m).feet (eqb (m + 1) (length list / 48)) NotAStep =
      rw (sym b.why ∙ e) at (a_pair_whatever_its_label (window_in window) cells perms shapes boxes question (body_in body) (waypoint_at list b.earlier).feet (waypoint_at list m).feet (asked_in_f64 window request body) (eqb (m + 1) (length list / 48))) in
      record { earlier = b.earlier; place = b.place; inside = b.inside; steps_before = b.steps_before; no_label = says }

  -- 117 comes with a place, and there it says that
  pub not_a_step : walked_number answer ≡ 117 → (m : ℕ) × ((walked_places answer ≡ m ∷ []) × NoStepTo m)
  not_a_step e = go answer refl e
    where
      go : (a : Result (Unit {0}) Denied) → answer ≡ a → walked_number a ≡ 117 → (m : ℕ) × ((walked_places a ≡ m ∷ []) × NoStepTo m)
      go (Err (Fault (Pair fault m))) h e =
          (m, (refl, broken (pairs_told (window_in window) cells perms shapes boxes question (body_in body) list h) (one_pair fault NotAStep e)))
      go (Ok x) h e = absurd (omega arith)
      go (Err BadWorld) h e = absurd (omega arith)
      go (Err TooLarge) h e = absurd (omega arith)
      go (Err (Fault InvalidRequest)) h e = absurd (omega arith)
      go (Err (Fault BadList)) h e = absurd (omega arith)
      go (Err (Fault GoalOutOfRange)) h e = absurd (omega arith)
      go (Err (Fault StartNotStandable)) h e = absurd (omega arith)
      go (Err (Fault GoalNotStandable)) h e = absurd (omega arith)
      go (Err (Fault WrongStart)) h e = absurd (omega arith)
      go (Err (Fault WrongEnd)) h e = absurd (omega arith)
