-- The public call: its answer by the order of the tests, and what a search of it came to.
use Rattle.std.specs.Prelude.{ℕ, ◌+◌, ◌*◌, ◌≤◌, ◌<◌, ◌≡◌, Bool, true, false, ◌||◌, List, ◌++◌, map, ◌⊎◌, ◌≢◌, length, drop}
use native.Mathlib.Omega.{arith}
use Rattle.std.proofs.Math.Path.{refl, sym, ap}
use Rattle.std.proofs.Common.{◌∙◌, inl, inr, ⊎_elim, eqb-true, ne_eqb}
use Rattle.std.proofs.Math.Bool.{cond}
use Rattle.std.proofs.Math.Option.{Option, none, some}
use Rattle.std.proofs.Math.Dec.{eqb}
use Rattle.std.proofs.lemmas.List.{length-map}
use Rattle.std.proofs.lemmas.Bool.{eqb-false}
use Rattle.exploration.specs.Lists.{has, count}
use Rattle.exploration.specs.Graph.{Reach}
use Rattle.exploration.specs.Explore as explore
use Rattle.exploration.specs.Explore.{points}
use Rattle.exploration.proofs.Laws.Lists.{or-false}
use Rattle.world.specs.declared.Body.{Body}
use Rattle.world.specs.declared.Request.{Request}
use Rattle.world.specs.declared.Window.{Window}
use Rattle.world.specs.Space.{Space, space}
use Rattle.tables.specs.BadWorld.{bad_world}
use Rattle.request.specs.Request.{valid_request, sizes_too_large, too_large}
use Rattle.ends.specs.Ends.{ends_good}
use Rattle.ends.specs.Laws.{ends_parts, ends_all}
use Rattle.words.specs.Words.{feet_of}
use Rattle.steps.specs.Graph.{graph}
use Rattle.rooms.specs.declared.Feet.{Feet}
use Rattle.rooms.specs.declared.Label.{Label}
use Rattle.rooms.specs.Lists.{list_bytes}
use Rattle.rooms.specs.Rooms.{node_room}
use Rattle.rooms.specs.Waypoints.{same_point}
use Rattle.outcomes.specs.declared.Outcome.{Outcome}
use Rattle.outcomes.specs.declared.Outcome.TheVariants.{Found, Unreachable, BudgetExceeded, BadWorld, TooLarge, NoRoom}
use Rattle.outcomes.specs.declared.Answer.{Answer}
use Rattle.outcomes.specs.Outcomes.{outcome_number, told_by, list_in}
use Rattle.refusals.specs.Refusals.{no_room, without_search}
use Rattle.index.specs.Size.{wrong_size}
use Rattle.search.specs.FindWalkPath.{ended, end_of, answer_by, before_search, found, nodes_after, out_after}
use Rattle.walk_back.specs.WalkBack.{IsRoute}
use Rattle.claims.specs.Words.{with_budget, InF64, kept_points, closed_words}
use Rattle.claims.specs.Laws.Budget.{valid_budget, ends_budget}
use Rattle.claims.specs.Laws.Order.{order, told, Began, on_found, on_unreachable, on_exceeded, found_stays, unreachable_stays}
use Rattle.claims.specs.Laws.Search as search
use Rattle.claims.specs.Laws.Fits.{space_tops}
use Rattle.claims.specs.Laws.ReadBack.{room_back, point_held}
use Rattle.claims.specs.Laws.Marks.{words_counted, marks_held}
use Rattle.claims.specs.Laws.Points.{points_small}

-- ---- a call

module _ (w : Window) (cells perms shapes boxes : List ℕ) where
  abbrev sp : Space
  sp = space w cells perms shapes boxes

  abbrev bad : Bool
  bad = bad_world w cells shapes boxes

  module _ (r : Request) (body : Body) (nodes front index out : List ℕ) where
    abbrev pub answer : Answer
    answer = found w cells perms shapes boxes r body (length nodes) (length front) (length index) (length out)

    abbrev pub without : Option Outcome
    without = before_search w cells perms shapes boxes r body (length nodes) (length front) (length index) (length out)

    -- what the search comes to, and its list
    abbrev came : Outcome
    came = told_by (end_of sp r body)

    abbrev pub list : List (Feet × Label)
    list = list_in (end_of sp r body)

    -- what it leaves in the node room
    abbrev room : List ℕ
    room = nodes_after w cells perms shapes boxes r body nodes front index out

    abbrev full : Bool
    full = no_room r.node_budget (length nodes) (length front) (length out) || wrong_size (length index) r.node_budget

    abbrev nought : Bool
    nought = eqb r.node_budget 0

    abbrev tests : Option Outcome
    tests = order bad (valid_request r body) (too_large r body) full (ends_good sp r body) nought

    by_tests : without ≡ tests
    unfolding without_search
    by_tests = refl

    by_order : answer.outcome ≡ told came tests
    unfolding found
    by_order = go without ∙ ap (told came) by_tests
      where
        go : (o : Option Outcome) → (answer_by w cells perms shapes boxes r body o).outcome ≡ told came o
        go (some o) = refl
        go none = refl

    -- ---- Found

    begun : answer.outcome ≡ Found → Began bad (valid_request r body) (too_large r body) (ends_good sp r body) nought tests × (came ≡ Found)
    begun e = on_found came bad (valid_request r body) (too_large r body) full (ends_good sp r body) nought (sym by_order ∙ e)

    -- and of every search that began
    began : without ≡ none → Began bad (valid_request r body) (too_large r body) (ends_good sp r body) nought tests
    began n = (on_found Found bad (valid_request r body) (too_large r body) full (ends_good sp r body) nought (ap (told Found) (sym by_tests ∙ n))).0

    pub route_of : answer.outcome ≡ Found → IsRoute sp r body list
    route_of e =
        let b = begun e in let p = ends_parts sp r body b.0.ends in
        record { valid = b.0.valid; goal_in_range = p.0; start_standable = p.1.0; goal_standable = p.1.1; way = search.found_route sp r body b.1 }

    pub count_of : answer.outcome ≡ Found → answer.count ≡ length list
    unfolding found
    count_of e = let n = by_tests ∙ (begun e).0.begun in rw n

    pub out_of : answer.outcome ≡ Found → out_after w cells perms shapes boxes r body nodes front index out ≡ list_bytes list ++ drop (48 * length list) out
    unfolding out_after
    out_of e = let n = by_tests ∙ (begun e).0.begun in rw n

    pub good_world : answer.outcome ≡ Found → bad ≡ false
    good_world e = (begun e).0.good

    pub small_sizes : answer.outcome ≡ Found → sizes_too_large r body ≡ false
    unfolding too_large
    small_sizes e = (or-false (sizes_too_large r body) _ (begun e).0.small).0

    -- ---- Unreachable

    -- with a valid request and good ends, or where nodes were kept, it is the search that says so
    of_search : answer.outcome ≡ Unreachable → valid_request r body ≡ true → ends_good sp r body ≡ true → (came ≡ Unreachable) × (without ≡ none)
    of_search e v g =
        let s = on_unreachable came bad (too_large r body) full nought (rw (v, g) at (sym by_order ∙ e)) in
        let t : tests ≡ none = rw (v, g) s.1 in
        (s.0, by_tests ∙ t)

    searched : answer.outcome ≡ Unreachable → answer.retained ≢ 0 → (came ≡ Unreachable) × (without ≡ none)
    unfolding found
    searched e z = go without refl e z
      where
        go : (o : Option Outcome) → without ≡ o → let a = answer_by w cells perms shapes boxes r body o in a.outcome ≡ Unreachable → a.retained ≢ 0 → (came ≡ Unreachable) × (without ≡ none)
        go (some o) i e z = absurd (z refl)
        go none i e z = (e, i)

    pub none_is_route : answer.outcome ≡ Unreachable → (t : List (Feet × Label)) → IsRoute sp r body t → ⊥
    none_is_route e t l =
        let g = ends_all sp r body l.goal_in_range l.start_standable l.goal_standable in
        search.unreachable_route sp r body (of_search e l.valid g).0 t l.way

    -- the points of the nodes that it kept are those of the node room that it leaves, and cover
    retained_is : without ≡ none → answer.retained ≡ length (ended sp r body).nodes
    unfolding found
    retained_is n = rw n

    room_is : without ≡ none → room ≡ node_room nodes (ended sp r body).nodes
    unfolding nodes_after
    room_is n = rw n

    points_are : InF64 r → without ≡ none → kept_points answer.retained room ≡ points (ended sp r body)
    unfolding ended
    points_are f n =
        let small = points_small sp (space_tops w cells perms shapes boxes) r body f r.node_budget r.node_budget in
        rw (retained_is n, room_is n) (room_back (λ x. x.feet) (λ x. x.point) (ended sp r body).nodes _ (λ k x i. point_held x (small k x i)))

    pub points_cover : InF64 r → answer.outcome ≡ Unreachable → answer.retained ≢ 0 →
        (p : Feet) → Reach (graph sp r body) p → has (λ x. same_point x p) (kept_points answer.retained room) ≡ true
    points_cover f e z p h = let s = searched e z in rw (points_are f s.1) (search.kept_all sp r body s.0 p h)

    points_many : without ≡ none → length (points (ended sp r body)) ≡ answer.retained
    points_many n = length-map (ended sp r body).nodes (λ x. x.point) ∙ sym (retained_is n)

    -- where none is kept no search began
    pub none_began : answer.outcome ≡ Unreachable → answer.retained ≡ 0 → (valid_request r body ≡ false) ⊎ (ends_good sp r body ≡ false)
    none_began e z = go (valid_request r body) refl (ends_good sp r body) refl
      where
        go : (v : Bool) → valid_request r body ≡ v → (g : Bool) → ends_good sp r body ≡ g → (valid_request r body ≡ false) ⊎ (ends_good sp r body ≡ false)
        go false p g q = inl p
        go true p false q = inr q
        go true p true q =
            let s = of_search e p q in
            absurd (search.covers_some sp r body (points (ended sp r body)) (search.kept_all sp r body s.0) (points_many s.1 ∙ z))

    -- ---- BudgetExceeded

    pub not_exceeded : (K : List Feet) → ((p : Feet) → Reach (graph sp r body) p → has (λ x. same_point x p) K ≡ true) → length K ≤ r.node_budget →
        answer.outcome ≢ BudgetExceeded
    not_exceeded K c h e =
        ⊎_elim (λ z. search.covers_some sp r body K c (omega (arith, eqb-true r.node_budget 0 z))) (λ x. search.covered sp r body K c h x)
        (on_exceeded came bad (valid_request r body) (too_large r body) full (ends_good sp r body) nought (sym by_order ∙ e)).2

    -- so Found is what is left, where nothing is refused
    pub found_of : (t : List (Feet × Label)) → IsRoute sp r body t →
        (K : List Feet) → ((p : Feet) → Reach (graph sp r body) p → has (λ x. same_point x p) K ≡ true) → length K ≤ r.node_budget →
        outcome_number answer.outcome < 3 → answer.outcome ≡ Found
    found_of t l K c h n = go answer.outcome refl
      where
        go : (o : Outcome) → answer.outcome ≡ o → answer.outcome ≡ Found
        go Found e = e
        go Unreachable e = absurd (none_is_route e t l)
        go BudgetExceeded e = absurd (not_exceeded K c h e)
        go BadWorld e = let z : outcome_number answer.outcome ≡ 3 = ap outcome_number e in absurd (omega arith)
        go TooLarge e = let z : outcome_number answer.outcome ≡ 4 = ap outcome_number e in absurd (omega arith)
        go NoRoom e = let z : outcome_number answer.outcome ≡ 5 = ap outcome_number e in absurd (omega arith)

    -- ---- the counts

    pub retained_within : answer.retained ≤ r.node_budget
    unfolding found
    retained_within = go without
      where
        go : (o : Option Outcome) → (answer_by w cells perms shapes boxes r body o).retained ≤ r.node_budget
        go (some o) = omega arith
        go none = search.nodes_within sp r body

    pub closed_within : answer.closed ≤ answer.retained
    unfolding found
    closed_within = go without
      where
        go : (o : Option Outcome) → (answer_by w cells perms shapes boxes r body o).closed ≤ (answer_by w cells perms shapes boxes r body o).retained
        go (some o) = omega arith
        go none = search.closings_within sp r body

    pub count_within : answer.count ≤ r.node_budget + 1
    unfolding found
    count_within = go without
      where
        go : (o : Option Outcome) → (answer_by w cells perms shapes boxes r body o).count ≤ r.node_budget + 1
        go (some o) = omega arith
        go none = omega (arith, search.list_within sp r body)

    closed_counted : without ≡ none → answer.closed ≡ count (λ n. n.closed) (ended sp r body).nodes
    unfolding found
    closed_counted n = rw n (search.closings_counted sp r body)

    words_are : without ≡ none → closed_words answer.retained room ≡ map (λ x. cond x.closed 1 0) (ended sp r body).nodes
    unfolding ended
    words_are n =
        rw (retained_is n, room_is n)
        (room_back (λ x. x.closed) (λ x. cond x.closed 1 0) (ended sp r body).nodes _ (marks_held (graph sp r body) (feet_of r.goal) r.node_budget r.node_budget))

    pub closed_in_room : answer.closed ≡ count (λ c. eqb c 1) (closed_words answer.retained room)
    unfolding found
    closed_in_room = go without refl
      where
        go : (o : Option Outcome) → without ≡ o → answer.closed ≡ count (λ c. eqb c 1) (closed_words answer.retained room)
        go (some o) i = rw i
        go none i = closed_counted i ∙ sym (words_counted (ended sp r body).nodes) ∙ ap (count (λ c. eqb c 1)) (sym (words_are i))

    -- ---- a search that began

    pub ends_below_three : without ≡ none → outcome_number answer.outcome < 3
    unfolding found
    ends_below_three n = rw n (go (end_of sp r body))
      where
        go : (x : explore.Outcome (Feet × Label)) → outcome_number (told_by x) < 3
        go (explore.Found t) = omega arith
        go explore.Unreachable = omega arith
        go explore.BudgetExceeded = omega arith
        go explore.Searching = omega arith

  -- ---- a call with another budget, and other rooms

  module _ (r : Request) (body : Body) (nodes front index out : List ℕ) (b : ℕ) (nodes' front' index' out' : List ℕ) where
    abbrev more : Answer
    more = answer (with_budget b r) body nodes' front' index' out'

    abbrev full' : Bool
    full' = no_room b (length nodes') (length front') (length out') || wrong_size (length index') b

    abbrev large' : Bool
    large' = too_large (with_budget b r) body

    abbrev came' : Outcome
    came' = told_by (end_of sp (with_budget b r) body)

    more_by_order : more.outcome ≡ told came' (order bad (valid_request r body) large' full' (ends_good sp r body) (eqb b 0))
    more_by_order =
        by_order (with_budget b r) body nodes' front' index' out' ∙ (let v = valid_budget b r body in let g = ends_budget b sp r body in rw (v, g))

    -- as many as were kept are enough
    pub retained_enough : (answer r body nodes front index out).outcome ≡ Unreachable → (answer r body nodes front index out).retained ≤ b → more.outcome ≢ BudgetExceeded
    retained_enough e h x =
        let o = on_exceeded came' bad (valid_request r body) large' full' (ends_good sp r body) (eqb b 0) (sym more_by_order ∙ x) in
        let s = of_search r body nodes front index out e o.0 o.1 in
        let K : List Feet = points (ended sp r body) in
        let cover = search.covers_still sp r body b K (search.kept_all sp r body s.0) in
        not_exceeded (with_budget b r) body nodes' front' index' out' K cover (omega (arith, points_many r body nodes front index out s.1)) x

    -- and fewer are not
    pub fewer_exceeded : (answer r body nodes front index out).outcome ≡ Unreachable → b < (answer r body nodes front index out).retained →
        outcome_number more.outcome < 3 → more.outcome ≡ BudgetExceeded
    fewer_exceeded e h n = go more.outcome refl
      where
        s : (came r body nodes front index out ≡ Unreachable) × (without r body nodes front index out ≡ none)
        s = searched r body nodes front index out e (λ z. omega arith)

        o : Began bad (valid_request r body) (too_large r body) (ends_good sp r body) (nought r body nodes front index out) (tests r body nodes front index out)
        o = began r body nodes front index out s.1

        below : b ≤ r.node_budget
        below = omega (arith, retained_within r body nodes front index out)

        go : (x : Outcome) → more.outcome ≡ x → more.outcome ≡ BudgetExceeded
        go Found i =
            let z = search.found_again sp (with_budget b r) body r.node_budget below (begun (with_budget b r) body nodes' front' index' out' i).1 in
            absurd (let q : ◌≡◌ {A = ℕ} 0 1 = cc (z, s.0) in omega arith)
        go Unreachable i =
            let u = of_search (with_budget b r) body nodes' front' index' out' i (valid_budget b r body ∙ o.valid) (ends_budget b sp r body ∙ o.ends) in
            absurd (omega (arith, search.kept_within sp r body b below u.0, retained_is r body nodes front index out s.1))
        go BudgetExceeded i = i
        go BadWorld i = let z : outcome_number more.outcome ≡ 3 = ap outcome_number i in absurd (omega arith)
        go TooLarge i = let z : outcome_number more.outcome ≡ 4 = ap outcome_number i in absurd (omega arith)
        go NoRoom i = let z : outcome_number more.outcome ≡ 5 = ap outcome_number i in absurd (omega arith)

    -- a larger one
    module _ (above : r.node_budget ≤ b) where
      still : eqb r.node_budget 0 ≡ false → eqb b 0 ≡ false
      still e = ne_eqb b 0 (λ z. eqb-false r.node_budget 0 e (omega arith))

      pub stays_found : (answer r body nodes front index out).outcome ≡ Found → outcome_number more.outcome < 3 → more.outcome ≡ Found
      stays_found e h =
          more_by_order
          ∙ found_stays (came r body nodes front index out) came' bad (valid_request r body) (ends_good sp r body)
          (too_large r body) (full r body nodes front index out) (eqb r.node_budget 0) large' full' (eqb b 0) still
          (search.found_again sp r body b above) (sym (by_order r body nodes front index out) ∙ e) (rw more_by_order at h)

      pub stays_unreachable : (answer r body nodes front index out).outcome ≡ Unreachable → outcome_number more.outcome < 3 → more.outcome ≡ Unreachable
      stays_unreachable e h =
          more_by_order
          ∙ unreachable_stays (came r body nodes front index out) came' bad (valid_request r body) (ends_good sp r body)
          (too_large r body) (full r body nodes front index out) (eqb r.node_budget 0) large' full' (eqb b 0) still
          (search.unreachable_again sp r body b above) (sym (by_order r body nodes front index out) ∙ e) (rw more_by_order at h)
