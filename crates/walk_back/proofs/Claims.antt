-- What the walk-back's answer says, one theorem a claim, in the words of WalkBack and Places.
use Rattle.std.specs.Prelude.{ℕ, ◌%◌, ◌≡◌, refl, Bool, true, false, not, ◌&&◌, cond, List, [], ◌∷◌, eqb, length, Result, Ok, Err}
use Rattle.std.proofs.Common.{arith, sym, ap, ◌∙◌}
use borrow.Author.Tests.{eq-eqb, eqb-true}
use Rattle.exploration.specs.Lists.{first_failing}
use Rattle.exploration.specs.WalkBack.{Going, Through, Astray, Broken}
use Rattle.exploration.proofs.Claims.{route_test_exact}
use Rattle.exploration.proofs.Laws.Lists.{and_both, and_first, and_second}
use Rattle.world.specs.declared.Body.{Body}
use Rattle.world.specs.declared.Request.{Request}
use Rattle.world.specs.declared.Window.{Window}
use Rattle.world.specs.Space.{Space, space}
use Rattle.tables.specs.BadWorld.{bad_world}
use Rattle.request.specs.Request.{valid_request, sizes_too_large}
use Rattle.places.specs.Places.{in_range, standable}
use Rattle.ends.specs.Ends.{ends_good}
use Rattle.ends.specs.Laws.{ends_parts, ends_all}
use Rattle.steps.specs.Graph.{graph}
use Rattle.walk_back.specs.declared.Denied.{Denied}
use Rattle.walk_back.specs.declared.Denied.TheVariants.{BadWorld, TooLarge, Fault as No}
use Rattle.walk_back.specs.declared.Fault.{Fault}
use Rattle.walk_back.specs.declared.Fault.TheVariants.{InvalidRequest, BadList, GoalOutOfRange, StartNotStandable, GoalNotStandable, WrongStart, Pair, WrongEnd}
use Rattle.rooms.specs.declared.Feet.{Feet}
use Rattle.rooms.specs.declared.Label.{Label}
use Rattle.rooms.specs.Records.{waypoint_at}
use Rattle.listed.specs.Listed.{waypoints, bad_list}
use Rattle.listed.specs.Compared.{starts}
use Rattle.pairs.specs.Pairs.{pair_fault}
use Rattle.walk_back.specs.WalkBack.{is_route_list, RouteList, walked_by, going_on, walked_list, denied, walked}
use Rattle.walk_back.specs.Places.{BreaksAt, EndsElsewhere, broken_at, ends_elsewhere}
use Rattle.walk_back.proofs.Yes.{is_yes, yes_only, denied_yes, yes_exactly}

-- ---- the test of a list

module _ (sp : Space) (r : Request) (body : Body) (list : List ℕ) where
  tested : valid_request r body ≡ true → is_route_list sp r body list ≡ true → RouteList sp r body list
  unfolding is_route_list
  tested v e =
      let front = and_first (eqb (length list % 48) 0 && ends_good sp r body) _ e in
      let ends = ends_parts sp r body (and_second (eqb (length list % 48) 0) _ front) in
      record {
        whole = eqb-true _ _ (and_first (eqb (length list % 48) 0) _ front);
        route = record {
          valid = v;
          goal_in_range = ends.0;
          start_standable = ends.1.0;
          goal_standable = ends.1.1;
          way = (route_test_exact (graph sp r body) (waypoints list)).0 (and_second (eqb (length list % 48) 0 && ends_good sp r body) _ e);
        };
      }

  passes : RouteList sp r body list → is_route_list sp r body list ≡ true
  unfolding is_route_list
  passes l =
      let i = l.route in
      and_both _ _
      (and_both _ _ (eq-eqb (length list % 48) 0 l.whole) (ends_all sp r body i.goal_in_range i.start_standable i.goal_standable))
      ((route_test_exact (graph sp r body) (waypoints list)).1 i.way)

-- ---- the answer

-- which answers make a yes
abbrev Asked : Bool → Bool → Bool → Bool → Type 0
Asked bad valid large route = (bad ≡ false) × ((valid ≡ true) × ((large ≡ false) × (route ≡ true)))

asked_yes : (bad valid large : Bool) (a : Result (Unit {0}) Denied) → cond bad (Err BadWorld) (cond (not valid) (Err (No InvalidRequest)) (cond large (Err TooLarge) a)) ≡ Ok tt → Asked bad valid large (is_yes a)
asked_yes true valid large a e = absurd (let z : ◌≡◌ {A = ℕ} 0 1 = cc in omega arith)
asked_yes false false large a e = absurd (let z : ◌≡◌ {A = ℕ} 0 1 = cc in omega arith)
asked_yes false true true a e = absurd (let z : ◌≡◌ {A = ℕ} 0 1 = cc in omega arith)
asked_yes false true false a e = (refl, (refl, (refl, ap is_yes e)))

module _ (w : Window) (cells perms shapes boxes : List ℕ) (r : Request) (body : Body) (list : List ℕ) where
  -- Yes is answered only where the world is not bad, the request not too large, and the list a route;
  pub yes_is_a_route : walked w cells perms shapes boxes r body list ≡ Ok tt →
      (bad_world w cells shapes boxes ≡ false) × ((sizes_too_large r body ≡ false) × RouteList (space w cells perms shapes boxes) r body list)
  unfolding walked
  yes_is_a_route e =
      let a = asked_yes (bad_world w cells shapes boxes) (valid_request r body) (sizes_too_large r body) (denied (walked_list (space w cells perms shapes boxes) r body list)) e in
      (a.0, (a.1.1.0, tested (space w cells perms shapes boxes) r body list a.1.0 (sym (yes_exactly (space w cells perms shapes boxes) r body list) ∙ sym (denied_yes (walked_list (space w cells perms shapes boxes) r body list)) ∙ a.1.1.1)))

  -- and every such list is answered yes.
  pub a_route_is_yes : bad_world w cells shapes boxes ≡ false → sizes_too_large r body ≡ false → RouteList (space w cells perms shapes boxes) r body list → walked w cells perms shapes boxes r body list ≡ Ok tt
  unfolding walked
  a_route_is_yes b t l =
      rw (b, l.route.valid, t)
      (ap denied (yes_only (walked_list (space w cells perms shapes boxes) r body list) (yes_exactly (space w cells perms shapes boxes) r body list ∙ passes (space w cells perms shapes boxes) r body list l)))

-- ---- the first reason

-- The order in which 01 and 02 judge: "3; `valid_request`; 4", then "bad list (judged after 4), goal out of range, start not standable, goal not standable, wrong
-- start", and behind them the pairs and the end.
abbrev pub walked_order : Result (Unit {0}) Denied → ℕ
walked_order (Err BadWorld) = 0
walked_order (Err (No InvalidRequest)) = 1
walked_order (Err TooLarge) = 2
walked_order (Err (No BadList)) = 3
walked_order (Err (No GoalOutOfRange)) = 4
walked_order (Err (No StartNotStandable)) = 5
walked_order (Err (No GoalNotStandable)) = 6
walked_order (Err (No WrongStart)) = 7
walked_order (Err (No (Pair fault place))) = 8
walked_order (Err (No WrongEnd)) = 8
walked_order (Ok _) = 8

-- what is told of the pairs, and of the end behind them: the first pair that is none of the graph's, and its place; or that each pair is a graph step, and the last
-- point is not the goal
abbrev pub PairsTold : Space → Request → Body → List ℕ → Fault → Type 0
PairsTold sp r body list (Pair fault place) = BreaksAt sp r body list place fault
PairsTold sp r body list WrongEnd = EndsElsewhere sp r body list
PairsTold sp r body list InvalidRequest = Unit {0}
PairsTold sp r body list BadList = Unit {0}
PairsTold sp r body list GoalOutOfRange = Unit {0}
PairsTold sp r body list StartNotStandable = Unit {0}
PairsTold sp r body list GoalNotStandable = Unit {0}
PairsTold sp r body list WrongStart = Unit {0}

module _ (sp : Space) (r : Request) (body : Body) (list : List ℕ) where
  behind : (g : Going Feet Label) → walked_order (denied (walked_by sp r body g)) ≡ 8
  behind Through = refl
  behind Astray = refl
  behind (Broken m q w last) = refl

  -- the tests one after the other
  in_order : (bad valid large listed goal start stands begins : Bool) (a : Result (Unit {0}) Fault) → walked_order (denied a) ≡ 8 →
      walked_order (cond bad (Err BadWorld) (cond (not valid) (Err (No InvalidRequest)) (cond large (Err TooLarge) (denied (cond listed (Err BadList) (cond (not goal) (Err GoalOutOfRange) (cond (not start) (Err StartNotStandable) (cond (not stands) (Err GoalNotStandable) (cond (not begins) (Err WrongStart) a)))))))))
      ≡ first_failing (bad ∷ not valid ∷ large ∷ listed ∷ not goal ∷ not start ∷ not stands ∷ not begins ∷ [])
  in_order true valid large listed goal start stands begins a e = refl
  in_order false false large listed goal start stands begins a e = refl
  in_order false true true listed goal start stands begins a e = refl
  in_order false true false true goal start stands begins a e = refl
  in_order false true false false false start stands begins a e = refl
  in_order false true false false true false stands begins a e = refl
  in_order false true false false true true false begins a e = refl
  in_order false true false false true true true false a e = refl
  in_order false true false false true true true true a e = e

  by_going : {fault : Fault} (g : Going Feet Label) → going_on sp r body list ≡ g → walked_by sp r body g ≡ Err fault → PairsTold sp r body list fault
  by_going Through h e = absurd (let z : ◌≡◌ {A = ℕ} 0 1 = cc in omega arith)
  by_going {fault} Astray h e = let z : WrongEnd ≡ fault = cc in rw (← z) (ends_elsewhere sp r body list h)
  by_going {fault} (Broken m q w last) h e = let z : Pair (pair_fault sp r body last q w.0) m ≡ fault = cc in rw (← z) (broken_at sp r body list h)

  told_so : {fault : Fault} (a : Result (Unit {0}) Fault) → denied a ≡ Err (No fault) → a ≡ Err fault
  told_so (Ok _) e = absurd (let z : ◌≡◌ {A = ℕ} 0 1 = cc in omega arith)
  told_so {fault} (Err why) e = let z : why ≡ fault = cc in rw z

  by_tests : {fault : Fault} (bad valid large listed goal start stands begins : Bool) →
      cond bad (Err BadWorld) (cond (not valid) (Err (No InvalidRequest)) (cond large (Err TooLarge) (denied (cond listed (Err BadList) (cond (not goal) (Err GoalOutOfRange) (cond (not start) (Err StartNotStandable) (cond (not stands) (Err GoalNotStandable) (cond (not begins) (Err WrongStart) (walked_by sp r body (going_on sp r body list))))))))))
      ≡ Err (No fault) → PairsTold sp r body list fault
  by_tests true valid large listed goal start stands begins e = absurd (let z : ◌≡◌ {A = ℕ} 0 1 = cc in omega arith)
  by_tests {fault} false false large listed goal start stands begins e = let z : InvalidRequest ≡ fault = cc in rw (← z) tt
  by_tests false true true listed goal start stands begins e = absurd (let z : ◌≡◌ {A = ℕ} 0 1 = cc in omega arith)
  by_tests {fault} false true false true goal start stands begins e = let z : BadList ≡ fault = cc in rw (← z) tt
  by_tests {fault} false true false false false start stands begins e = let z : GoalOutOfRange ≡ fault = cc in rw (← z) tt
  by_tests {fault} false true false false true false stands begins e = let z : StartNotStandable ≡ fault = cc in rw (← z) tt
  by_tests {fault} false true false false true true false begins e = let z : GoalNotStandable ≡ fault = cc in rw (← z) tt
  by_tests {fault} false true false false true true true false e = let z : WrongStart ≡ fault = cc in rw (← z) tt
  by_tests false true false false true true true true e = by_going (going_on sp r body list) refl (told_so _ e)

  -- the tests of a list, as the definition has them
  tests : walked_list sp r body list ≡ cond (bad_list list) (Err BadList) (cond (not (in_range r r.goal)) (Err GoalOutOfRange) (cond (not (standable sp body r.start)) (Err StartNotStandable) (cond (not (standable sp body r.goal)) (Err GoalNotStandable) (cond (not (starts r.start (waypoint_at list 0))) (Err WrongStart) (walked_by sp r body (going_on sp r body list))))))
  unfolding walked_list
  tests = refl

module _ (w : Window) (cells perms shapes boxes : List ℕ) (r : Request) (body : Body) (list : List ℕ) where
  abbrev sp : Space
  sp = space w cells perms shapes boxes

  -- "The walk-back answers its first reason": the answer is that of the first test that fails, in this order; and where none does, the pairs decide.
  pub first_in_order : walked_order (walked w cells perms shapes boxes r body list) ≡ first_failing
      (bad_world w cells shapes boxes ∷ not (valid_request r body) ∷ sizes_too_large r body ∷ bad_list list ∷ not (in_range r r.goal) ∷ not (standable sp body r.start)
      ∷ not (standable sp body r.goal) ∷ not (starts r.start (waypoint_at list 0)) ∷ [])
  unfolding walked
  first_in_order =
      rw (tests sp r body list) (in_order sp r body list (bad_world w cells shapes boxes) (valid_request r body) (sizes_too_large r body) (bad_list list) (in_range r r.goal) (standable sp body r.start) (standable sp body r.goal)
      (starts r.start (waypoint_at list 0)) (walked_by sp r body (going_on sp r body list)) (behind sp r body list (going_on sp r body list)))

  -- Of the pairs it tells the first that is none of the graph's, with its place, or behind them all the end.
  pub pairs_told : {fault : Fault} → walked w cells perms shapes boxes r body list ≡ Err (No fault) → PairsTold sp r body list fault
  unfolding walked
  pairs_told e =
      by_tests sp r body list (bad_world w cells shapes boxes) (valid_request r body) (sizes_too_large r body) (bad_list list) (in_range r r.goal) (standable sp body r.start) (standable sp body r.goal)
      (starts r.start (waypoint_at list 0)) (rw (tests sp r body list) at e)
