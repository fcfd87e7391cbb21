-- The walk-back's answer (01, Modules 5, and The graph, "Route"; 02, No. 3). Definitions only.
use Rattle.std.specs.Prelude.{ℕ, ◌-◌, ◌/◌, ◌%◌, ◌≡◌, Bool, true, not, ◌&&◌, cond, List, [], ◌∷◌, eqb, length, Result, Ok, Err}
use Rattle.exploration.specs.Graph.{Route}
use Rattle.exploration.specs.WalkBack.{is_route, Going, Through, Astray, Broken, going}
use Rattle.world.specs.declared.Body.{Body}
use Rattle.world.specs.declared.Request.{Request}
use Rattle.world.specs.declared.Window.{Window}
use Rattle.world.specs.Space.{Space, space}
use Rattle.request.specs.Request.{valid_request}
use Rattle.questions.specs.Questions.{judged}
use Rattle.questions.specs.declared.Judgement.{Judgement}
use Rattle.questions.specs.declared.Judgement.TheVariants as judgements
use Rattle.places.specs.Places.{in_range, standable}
use Rattle.ends.specs.Ends.{ends_good}
use Rattle.rooms.specs.declared.Feet.{Feet}
use Rattle.rooms.specs.declared.Label.{Label}
use Rattle.rooms.specs.Records.{waypoint_at}
use Rattle.steps.specs.Graph.{graph}
use Rattle.listed.specs.Listed.{entries_from, waypoints, bad_list}
use Rattle.listed.specs.Compared.{starts}
use Rattle.pairs.specs.Pairs.{pair_number, pair_fault}
use Rattle.walk_back.specs.declared.Fault.{Fault}
use Rattle.walk_back.specs.declared.Fault.TheVariants.{InvalidRequest, BadList, GoalOutOfRange, StartNotStandable, GoalNotStandable, WrongStart, Pair, WrongEnd}
use Rattle.walk_back.specs.declared.Denied.{Denied}
use Rattle.walk_back.specs.declared.Denied.TheVariants.{BadWorld, TooLarge, Fault as No}

-- 02, No. 3, "invalid request, bad list (judged after 4), goal out of range, start not standable, goal not standable, wrong start; then for each pair in order
-- .., not a graph step .., wrong movement or lift; then wrong end": 111 to 119 in this order, of which 117 and 118 are a pair's; and a pair's edge has 101 to 109
abbrev pub fault_number : Fault → ℕ
fault_number InvalidRequest = 111
fault_number BadList = 112
fault_number GoalOutOfRange = 113
fault_number StartNotStandable = 114
fault_number GoalNotStandable = 115
fault_number WrongStart = 116
fault_number (Pair fault place) = pair_number fault
fault_number WrongEnd = 119

-- 01's numbers; yes is 0, and no, for which 01 has none, has its reason's
abbrev pub walked_number : Result (Unit {0}) Denied → ℕ
walked_number (Err BadWorld) = 3
walked_number (Err TooLarge) = 4
walked_number (Ok _) = 0
walked_number (Err (No fault)) = fault_number fault

-- "With a pair's reason goes its later point's place": counted from 0 in the list, and with no other answer
abbrev pub fault_places : Fault → List ℕ
fault_places (Pair fault place) = place ∷ []
fault_places InvalidRequest = []
fault_places BadList = []
fault_places GoalOutOfRange = []
fault_places StartNotStandable = []
fault_places GoalNotStandable = []
fault_places WrongStart = []
fault_places WrongEnd = []

abbrev pub walked_places : Result (Unit {0}) Denied → List ℕ
walked_places (Err (No fault)) = fault_places fault
walked_places (Ok _) = []
walked_places (Err BadWorld) = []
walked_places (Err TooLarge) = []

unfoldable pub walked_given : Result (Unit {0}) Denied → ℕ × List ℕ
walked_given a = (walked_number a, walked_places a)

module _ (sp : Space) (r : Request) (body : Body) where
  -- The test of a list: no partial record, good ends, and from the start by graph steps to the goal, the last pair allowed to be a connector. An empty list
  -- fails it, and so does a movement above 3, for no edge has one (`movement_above_three` of claims).
  unfoldable pub is_route_list : List ℕ → Bool
  is_route_list list = eqb (length list % 48) 0 && ends_good sp r body && is_route (graph sp r body) (waypoints list)

  -- "Route: valid request; goal in range; both ends standable; points compared by that rule, the start first (Walk, lift 0); each pair a graph step with its
  -- edge's movement and lift, the last pair allowed to be a connector; the last point equal to the goal. A single point is a route when start equals
  -- goal." And 02, No. 5: "A route must carry the right door too". No search is mentioned here, and not the test of a list above (`is_route_list`). What 01 asks of the request, of the ends, and of one point or pair are
  -- tests of their own, each of which must be true: `valid_request`, `in_range`, `standable`, and in `Route` and `Way` `same`, `alike`, `has_step` and `connects`.
  -- That the pairs follow one another from the start to the goal is no test: it is the form of `Way`.
  pub record IsRoute (ws : List (Feet × Label)) : Type 0 where
    pub valid : valid_request r body ≡ true
    pub goal_in_range : in_range r r.goal ≡ true
    pub start_standable : standable sp body r.start ≡ true
    pub goal_standable : standable sp body r.goal ≡ true
    pub way : Route (graph sp r body) ws

  -- a list of whole records that is one
  pub record RouteList (list : List ℕ) : Type 0 where
    pub whole : length list % 48 ≡ 0
    pub route : IsRoute (waypoints list)

  -- "then for each pair in order the edge's reason, not a graph step (nor, at the last pair, a connector), wrong movement or lift; then wrong end. With a pair's
  -- reason goes its later point's place.": of how a list goes on from its first point
  abbrev pub walked_by : Going Feet Label → Result (Unit {0}) Fault
  walked_by Through = Ok tt
  walked_by Astray = Err WrongEnd
  walked_by (Broken place p w last) = Err (Pair (pair_fault sp r body last p w.0) place)

  -- the records behind the first, from its point on
  abbrev pub going_on : List ℕ → Going Feet Label
  going_on list = going (graph sp r body) 1 (waypoint_at list 0).feet (entries_from list 1 (length list / 48 - 1))

  -- "bad list (judged after 4), goal out of range, start not standable, goal not standable, wrong start; then for each pair in order .."
  unfoldable pub walked_list : List ℕ → Result (Unit {0}) Fault
  walked_list list =
      cond (bad_list list) (Err BadList)
      (cond (not (in_range r r.goal)) (Err GoalOutOfRange)
      (cond (not (standable sp body r.start)) (Err StartNotStandable)
      (cond (not (standable sp body r.goal)) (Err GoalNotStandable)
      (cond (not (starts r.start (waypoint_at list 0))) (Err WrongStart)
      (walked_by (going_on list))))))

-- an answer with its reason, as one that may be a refusal of 01 too; and of what is judged first an invalid request is no route's
abbrev pub denied : Result (Unit {0}) Fault → Result (Unit {0}) Denied
denied (Ok _) = Ok tt
denied (Err fault) = Err (No fault)

abbrev pub denied_by : Judgement → Denied
denied_by judgements.BadWorld = BadWorld
denied_by judgements.Invalid = No InvalidRequest
denied_by judgements.TooLarge = TooLarge

-- "3; `valid_request` (else no); 4, the budget not read; then yes exactly for a list that is a route.": that the last part is so is `yes_exactly`.
unfoldable pub walked : Window → List ℕ → List ℕ → List ℕ → List ℕ → Request → Body → List ℕ → Result (Unit {0}) Denied
walked w cells perms shapes boxes r body list =
    judged w cells shapes boxes r body (Err BadWorld) (Err (No InvalidRequest)) (Err TooLarge) (denied (walked_list (space w cells perms shapes boxes) r body list))
