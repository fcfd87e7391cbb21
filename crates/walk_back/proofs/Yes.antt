-- The walk-back says yes exactly where the test of a list is true.
use Rattle.std.specs.Prelude.{ℕ, ◌-◌, ◌/◌, ◌%◌, ◌<◌, ◌≡◌, Bool, not, ◌&&◌, ◌||◌, cond, List, [], ◌∷◌, ltb, Result, Ok, Err}
use Rattle.std.proofs.Common.{arith, ◌∙◌}
use Rattle.std.proofs.Math.Path.{refl, sym, ap}
use Rattle.std.proofs.Math.Bool.{true, false, and-false, and_assoc}
use borrow.Author.Tests.{eq-eqb, ne_eqb, eqb-true, ltb-true, ltb-false}
use Rattle.std.proofs.Math.Dec.{eqb}
use Rattle.std.proofs.Math.ListN.{length}
use Rattle.exploration.specs.Lists.{has}
use Rattle.exploration.proofs.Claims.{route_test_exact}
use Rattle.exploration.specs.WalkBack.{is_way, is_route, Going, Through, Astray, Broken, going}
use Rattle.exploration.proofs.Laws.Lists.{true_false, and_second}
use Rattle.exploration.proofs.Laws.WalkBack.{is_through, through_is}
use Rattle.world.specs.declared.Body.{Body}
use Rattle.world.specs.declared.Request.{Request}
use Rattle.world.specs.Space.{Space}
use Rattle.places.specs.Places.{in_range, standable}
use Rattle.ends.specs.Ends.{ends_good}
use Rattle.rooms.specs.declared.Feet.{Feet}
use Rattle.rooms.specs.declared.Label.{Label}
use Rattle.rooms.specs.declared.WaypointRecord.{WaypointRecord}
use Rattle.rooms.specs.Records.{waypoint_at}
use Rattle.rooms.specs.Waypoints.{same_point, alike, standing}
use Rattle.words.specs.Words.{feet_of}
use Rattle.steps.specs.Graph.{graph}
use Rattle.listed.specs.Listed.{entry, entries_from, waypoints, above3, bad_list}
use Rattle.listed.specs.Compared.{starts}
use Rattle.walk_back.specs.declared.Fault.{Fault}
use Rattle.walk_back.specs.declared.Fault.TheVariants.{BadList, GoalOutOfRange, StartNotStandable, GoalNotStandable, WrongStart}
use Rattle.walk_back.specs.WalkBack.{is_route_list, walked_by, walked_list, denied}
use Rattle.walk_back.proofs.Laws.{rest, rest_on}
use Rattle.walk_back.specs.Movements.{movements_named}

-- whole records, and not none; the start's first
abbrev begins : Request → List ℕ → Bool
begins r s = eqb (length s % 48) 0 && ltb 0 (length s) && starts r.start (waypoint_at s 0)

-- ---- the test of a list, by its parts

no_waypoints : (s : List ℕ) → length s ≡ 0 → waypoints s ≡ []
unfolding waypoints entries_from
no_waypoints s e = let d : length s / 48 ≡ 0 = omega arith in rw d

waypoints_are : (s : List ℕ) → 0 < length s / 48 → waypoints s ≡ entry (waypoint_at s 0) ∷ rest s 1
unfolding waypoints
waypoints_are s h = let e : length s / 48 ≡ length s / 48 - 0 = omega arith in ap (entries_from s 0) e ∙ rest_on s 0 h

module _ (sp : Space) (r : Request) (body : Body) (s : List ℕ) where
  partial_record : eqb (length s % 48) 0 ≡ false → is_route_list sp r body s ≡ false
  unfolding is_route_list
  partial_record e = rw e

  empty_list : length s ≡ 0 → is_route_list sp r body s ≡ false
  unfolding is_route_list is_route
  empty_list e =
      ap (λ (b : Bool). eqb (length s % 48) 0 && ends_good sp r body && b) (ap (is_route (graph sp r body)) (no_waypoints s e))
      ∙ and-false (eqb (length s % 48) 0 && ends_good sp r body)

  first_is : (v : WaypointRecord) (ws : List (Feet × Label)) → is_route (graph sp r body) (entry v ∷ ws) ≡ (starts r.start v && is_way (graph sp r body) v.feet ws)
  unfolding is_route graph
  first_is v ws = sym (and_assoc (same_point (feet_of r.start) v.feet) (alike standing v.label) _)

  -- the first record, and those behind it
  in_order : eqb (length s % 48) 0 ≡ true → 0 < length s → is_route_list sp r body s ≡ (ends_good sp r body && (starts r.start (waypoint_at s 0) && is_way (graph sp r body) (waypoint_at s 0).feet (rest s 1)))
  unfolding is_route_list
  in_order e l =
      let whole = eqb-true (length s % 48) 0 e in
      let h : 0 < length s / 48 = omega (arith, whole) in
      rw e (ap (λ (b : Bool). ends_good sp r body && b) (ap (is_route (graph sp r body)) (waypoints_are s h) ∙ first_is (waypoint_at s 0) (rest s 1)))

  -- whole records, and not none; the start first; good ends; and a way
  list_is : (begins r s && ends_good sp r body && is_way (graph sp r body) (waypoint_at s 0).feet (rest s 1)) ≡ is_route_list sp r body s
  list_is = go (eqb (length s % 48) 0) refl (ltb 0 (length s)) refl
    where
      turn : (a b c : Bool) → (a && b && c) ≡ (b && (a && c))
      turn true b c = refl
      turn false b c = sym (and-false b)

      go : (a : Bool) → eqb (length s % 48) 0 ≡ a → (b : Bool) → ltb 0 (length s) ≡ b →
          (a && b && starts r.start (waypoint_at s 0) && ends_good sp r body && is_way (graph sp r body) (waypoint_at s 0).feet (rest s 1)) ≡ is_route_list sp r body s
      go true e true f = turn (starts r.start (waypoint_at s 0)) (ends_good sp r body) _ ∙ sym (in_order e (ltb-true 0 (length s) f))
      go true e false f = sym (empty_list (omega (arith, ltb-false 0 (length s) f)))
      go false e b f = sym (partial_record e)

-- ---- yes

abbrev pub is_yes : {E : Type 0} → Result (Unit {0}) E → Bool
is_yes (Ok _) = true
is_yes (Err why) = false

pub yes_only : {E : Type 0} (a : Result (Unit {0}) E) → is_yes a ≡ true → a ≡ Ok tt
yes_only (Ok _) e = refl
yes_only (Err why) e = absurd (true_false e refl)

pub denied_yes : (a : Result (Unit {0}) Fault) → is_yes (denied a) ≡ is_yes a
denied_yes (Ok _) = refl
denied_yes (Err fault) = refl

module _ (sp : Space) (r : Request) (body : Body) (s : List ℕ) where
  by_going : (g : Going Feet Label) → is_yes (walked_by sp r body g) ≡ is_through g
  by_going Through = refl
  by_going Astray = refl
  by_going (Broken k p w last) = refl

  -- the checks one after the other
  chain : (bad i a b st : Bool) (x : Result (Unit {0}) Fault) →
      is_yes (cond bad (Err BadList) (cond (not i) (Err GoalOutOfRange) (cond (not a) (Err StartNotStandable) (cond (not b) (Err GoalNotStandable) (cond (not st) (Err WrongStart) x)))))
      ≡ (not bad && i && a && b && st && is_yes x)
  chain true i a b st x = refl
  chain false false a b st x = refl
  chain false true false b st x = refl
  chain false true true false st x = refl
  chain false true true true false x = refl
  chain false true true true true x = refl

  -- what the two have in common, where no movement is above 3
  shuffle : (w n i a b st way : Bool) → (not (not w || n || false) && i && a && b && st && way) ≡ (w && not n && st && (i && a && b) && way)
  shuffle false n i a b st way = refl
  shuffle true true i a b st way = refl
  shuffle true false false a b true way = refl
  shuffle true false false a b false way = refl
  shuffle true false true false b true way = refl
  shuffle true false true false b false way = refl
  shuffle true false true true false true way = refl
  shuffle true false true true false false way = refl
  shuffle true false true true true true way = refl
  shuffle true false true true true false way = refl

  empty_is : not (eqb (length s) 0) ≡ ltb 0 (length s)
  empty_is = go (ltb 0 (length s)) refl
    where
      go : (b : Bool) → ltb 0 (length s) ≡ b → not (eqb (length s) 0) ≡ b
      go true e = rw (ne_eqb (length s) 0 (λ z. omega (arith, ltb-true 0 (length s) e)))
      go false e = rw (eq-eqb (length s) 0 (omega (arith, ltb-false 0 (length s) e)))

  -- a route has no movement above 3
  not_above : is_route_list sp r body s ≡ true → has above3 (waypoints s) ≡ false
  unfolding is_route_list
  not_above e = movements_named sp r body ((route_test_exact (graph sp r body) (waypoints s)).0 (and_second (eqb (length s % 48) 0 && ends_good sp r body) _ e))

  pub yes_exactly : is_yes (walked_list sp r body s) ≡ is_route_list sp r body s
  unfolding walked_list bad_list
  yes_exactly =
      chain (not (eqb (length s % 48) 0) || eqb (length s) 0 || has above3 (waypoints s)) (in_range r r.goal) (standable sp body r.start) (standable sp body r.goal) (starts r.start (waypoint_at s 0)) _
      ∙ rw (by_going (going (graph sp r body) 1 (waypoint_at s 0).feet (rest s 1)), through_is (graph sp r body) 1 (waypoint_at s 0).feet (rest s 1)) (go (has above3 (waypoints s)) refl (is_route_list sp r body s) refl)
    where
      go : (m : Bool) → has above3 (waypoints s) ≡ m → (t : Bool) → is_route_list sp r body s ≡ t →
          (not (not (eqb (length s % 48) 0) || eqb (length s) 0 || m) && in_range r r.goal && standable sp body r.start && standable sp body r.goal && starts r.start (waypoint_at s 0) && is_way (graph sp r body) (waypoint_at s 0).feet (rest s 1))
          ≡ is_route_list sp r body s
      go true e true f = absurd (true_false e (not_above f))
      go true e false f = bad_none (eqb (length s % 48) 0) (eqb (length s) 0) _ _ _ _ _ ∙ sym f
        where
          bad_none : (w n i a b st way : Bool) → (not (not w || n || true) && i && a && b && st && way) ≡ false
          bad_none true true i a b st way = refl
          bad_none true false i a b st way = refl
          bad_none false n i a b st way = refl
      go false e t f = shuffle (eqb (length s % 48) 0) (eqb (length s) 0) _ _ _ _ _ ∙ rw empty_is (unfold ends_good in list_is sp r body s)
