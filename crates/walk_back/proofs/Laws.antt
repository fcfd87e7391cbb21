-- What the code goes by: a list, pair by pair, the tests before the pairs, and what is judged before it.
use Rattle.std.specs.Prelude.{ℕ, suc, ◌+◌, ◌-◌, ◌/◌, ◌≤◌, ◌<◌, ◌≡◌, refl, Bool, true, false, not, cond, List, [], ◌∷◌, eqb, length, Result, Ok, Err}
use Rattle.std.proofs.Common.{arith, sym, eqb-true}
use Rattle.std.proofs.Math.Numerals.{add-one}
use Rattle.std.proofs.lemmas.Bool.{eqb-false}
use Rattle.exploration.specs.Graph.{Graph}
use Rattle.exploration.specs.WalkBack.{is_last, Going, Through, Astray, Broken, joined, going}
use Rattle.world.specs.declared.Body.{Body}
use Rattle.world.specs.declared.Request.{Request}
use Rattle.world.specs.declared.Window.{Window}
use Rattle.world.specs.Space.{Space, space}
use Rattle.rooms.specs.declared.Feet.{Feet}
use Rattle.rooms.specs.declared.Label.{Label}
use Rattle.rooms.specs.declared.WaypointRecord.{WaypointRecord}
use Rattle.rooms.specs.Records.{waypoint_at}
use Rattle.rooms.specs.Waypoints.{same_point}
use Rattle.words.specs.Words.{feet_of}
use Rattle.steps.specs.Graph.{graph}
use Rattle.places.specs.Places.{in_range, standable}
use Rattle.listed.specs.Listed.{entry, entries_from, bad_list}
use Rattle.listed.specs.Compared.{starts}
use Rattle.pairs.specs.Laws.{turned}
use Rattle.tables.specs.BadWorld.{bad_world}
use Rattle.request.specs.Request.{valid_request, sizes_too_large}
use Rattle.questions.specs.declared.Judgement.{Judgement}
use Rattle.questions.specs.declared.Judgement.TheVariants as judgements
use Rattle.questions.specs.Questions.{question}
use Rattle.walk_back.specs.declared.Fault.TheVariants.{InvalidRequest, BadList, GoalOutOfRange, StartNotStandable, GoalNotStandable, WrongStart}
use Rattle.walk_back.specs.declared.Denied.{Denied}
use Rattle.walk_back.specs.declared.Denied.TheVariants.{BadWorld, TooLarge, Fault as No}
use Rattle.walk_back.specs.WalkBack.{walked_by, going_on, walked_list, denied, denied_by, walked}

-- the records from record k on
abbrev pub rest : List ℕ → ℕ → List (Feet × Label)
rest s k = entries_from s k (length s / 48 - k)

pub rest_on : (s : List ℕ) (k : ℕ) → k < length s / 48 → rest s k ≡ entry (waypoint_at s k) ∷ rest s (k + 1)
unfolding entries_from
rest_on s k h = let e : length s / 48 - k ≡ suc (length s / 48 - (k + 1)) = omega arith in rw (e, add-one)

pub rest_end : (s : List ℕ) (k : ℕ) → length s / 48 ≤ k → rest s k ≡ []
unfolding entries_from
rest_end s k h = let e : length s / 48 - k ≡ 0 = omega arith in rw e

module _ {P L : Type 0} (𝓖 : Graph P L) (k : ℕ) (p : P) (w : P × L) (ws : List (P × L)) where
  pair_on : joined 𝓖 (is_last 𝓖 ws) p w ≡ true → going 𝓖 k p (w ∷ ws) ≡ going 𝓖 (k + 1) w.0 ws
  unfolding going
  pair_on e = rw (e, add-one k)

  pair_broken : joined 𝓖 (is_last 𝓖 ws) p w ≡ false → going 𝓖 k p (w ∷ ws) ≡ Broken k p w (is_last 𝓖 ws)
  unfolding going
  pair_broken e = rw e

module _ (sp : Space) (r : Request) (body : Body) (s : List ℕ) (p : Feet) (k : ℕ) where
  -- from a point by the records from k on
  abbrev pub going_from : Going Feet Label
  going_from = going (graph sp r body) k p (rest s k)

  pub at_end : length s / 48 ≤ k → going_from ≡ cond (same_point (feet_of r.goal) p) Through Astray
  unfolding going graph
  at_end h = rw (rest_end s k h, turned p (feet_of r.goal))

  module _ (h : k < length s / 48) where
    last_is : is_last (graph sp r body) (rest s (k + 1)) ≡ eqb (k + 1) (length s / 48)
    last_is = go (eqb (k + 1) (length s / 48)) refl
      where
        go : (b : Bool) → eqb (k + 1) (length s / 48) ≡ b → is_last (graph sp r body) (rest s (k + 1)) ≡ b
        go true e = rw (rest_end s (k + 1) (omega (arith, eqb-true (k + 1) (length s / 48) e)))
        go false e = rw (rest_on s (k + 1) (omega (arith, eqb-false (k + 1) (length s / 48) e)))

    module _ (v : WaypointRecord) (here : v ≡ waypoint_at s k) where
      pub goes_on : true ≡ joined (graph sp r body) (eqb (k + 1) (length s / 48)) p (entry v) → going_from ≡ going (graph sp r body) (k + 1) v.feet (rest s (k + 1))
      goes_on e = rw (rest_on s k h, here) (pair_on (graph sp r body) k p (entry (waypoint_at s k)) (rest s (k + 1)) (rw (last_is, ← here) (sym e)))

      pub breaks : false ≡ joined (graph sp r body) (eqb (k + 1) (length s / 48)) p (entry v) → going_from ≡ Broken k p (entry v) (eqb (k + 1) (length s / 48))
      breaks e = rw (rest_on s k h, here, ← last_is) (pair_broken (graph sp r body) k p (entry (waypoint_at s k)) (rest s (k + 1)) (rw (last_is, ← here) (sym e)))

-- ---- the tests before the pairs: what is answered at the first that fails

module _ (sp : Space) (r : Request) (body : Body) (s : List ℕ) where
  pub bad_list_lem : bad_list s ≡ true → Err BadList ≡ walked_list sp r body s
  unfolding walked_list
  bad_list_lem a = rw a

  module _ (a : bad_list s ≡ false) where
    pub goal_out : in_range r r.goal ≡ false → Err GoalOutOfRange ≡ walked_list sp r body s
    unfolding walked_list
    goal_out b = rw (a, b)

    module _ (b : in_range r r.goal ≡ true) where
      pub start_falls : standable sp body r.start ≡ false → Err StartNotStandable ≡ walked_list sp r body s
      unfolding walked_list
      start_falls c = rw (a, b, c)

      module _ (c : standable sp body r.start ≡ true) where
        pub goal_falls : standable sp body r.goal ≡ false → Err GoalNotStandable ≡ walked_list sp r body s
        unfolding walked_list
        goal_falls d = rw (a, b, c, d)

        module _ (d : standable sp body r.goal ≡ true) where
          pub wrong_start : starts r.start (waypoint_at s 0) ≡ false → Err WrongStart ≡ walked_list sp r body s
          unfolding walked_list
          wrong_start e = rw (a, b, c, d, e)

          pub pairs_decide : starts r.start (waypoint_at s 0) ≡ true → walked_by sp r body (going_on sp r body s) ≡ walked_list sp r body s
          unfolding walked_list
          pairs_decide e = rw (a, b, c, d, e)

-- ---- what is judged first

-- what is answered of a list by what was judged of the request: its own answer where nothing was said
module _ (w : Window) (cells perms shapes boxes : List ℕ) (r : Request) (body : Body) (list : List ℕ) where
  abbrev pub answered : Result (Unit {0}) Judgement → Result (Unit {0}) Denied
  answered (Err j) = Err (denied_by j)
  answered (Ok _) = denied (walked_list (space w cells perms shapes boxes) r body list)

  pub by_question : answered (question w cells shapes boxes r body) ≡ walked w cells perms shapes boxes r body list
  unfolding walked
  by_question = go (bad_world w cells shapes boxes) (valid_request r body) (sizes_too_large r body)
    where
      go : (a b c : Bool) →
          answered (cond a (Err judgements.BadWorld) (cond (not b) (Err judgements.Invalid) (cond c (Err judgements.TooLarge) (Ok tt))))
          ≡ cond a (Err BadWorld) (cond (not b) (Err (No InvalidRequest)) (cond c (Err TooLarge) (denied (walked_list (space w cells perms shapes boxes) r body list))))
      go true b c = refl
      go false false c = refl
      go false true true = refl
      go false true false = refl
