-- What so many expansions more make of a search that is continued: the turn that the code has, in the words of the contract.
use Rattle.std.specs.Prelude.{◌≡◌, refl, Bool, true, not, cond, ℕ, zero, suc, ◌+◌, ◌*◌, ◌/◌, ◌≤◌, ◌<◌, leb, ltb, length, drop, replicate, Ok, Err}
use Rattle.std.proofs.Common.{sym, ◌∙◌, arith, ltb-true, ltb-false, List, [], ◌∷◌, ◌++◌}
use Rattle.std.proofs.Math.Path.{ap, subst}
use Rattle.std.proofs.Math.Bool.{false}
use Rattle.std.proofs.Math.Option.{Option, none, some}
use mathlib.Core.List.{reverse_aux}
use Rattle.std.proofs.Math.ListN.{length-reverse_aux}
use Rattle.exploration.specs.Policy.{Node}
use Rattle.exploration.specs.Explore as explore
use Rattle.exploration.specs.Explore.{State, outcome}
use Rattle.exploration.proofs.Laws.Lists.{true_false}
use Rattle.fields.specs.Bytes.{Bytes}
use Rattle.world.specs.declared.Body.{Body}
use Rattle.world.specs.declared.Request.{Request}
use Rattle.world.specs.declared.Window.{Window}
use Rattle.world.specs.Space.{Space, space}
use Rattle.words.specs.Words.{feet_of}
use Rattle.rooms.specs.declared.Feet.{Feet}
use Rattle.rooms.specs.declared.Label.{Label}
use Rattle.rooms.specs.declared.Counts.{Counts}
use Rattle.rooms.specs.Records.{node_at}
use Rattle.rooms.specs.Scans.{next_of}
use Rattle.rooms.specs.Lists.{node_waypoint, walk_by, walk, list_of, list_bytes, written}
use Rattle.rooms.specs.Rooms.{Note, nodes_of, state_of, node_room, front_room, counts_in}
use Rattle.rooms.proofs.Laws.Rooms.{node_room_lem, front_room_lem, pick_none, pick_some}
use Rattle.visits.specs.declared.Aim.{Aim}
use Rattle.visits.specs.Best.{best}
use Rattle.visits.specs.Visits.{Ready}
use Rattle.outcomes.specs.declared.Outcome.{Outcome}
use Rattle.outcomes.specs.declared.Turn.{Turn}
use Rattle.outcomes.specs.declared.Turn.TheVariants.{Rest, Going, At, By}
use Rattle.outcomes.specs.declared.Answer.{Answer}
use Rattle.outcomes.specs.declared.Slice.TheVariants.{Searching, Ended}
use Rattle.outcomes.specs.declared.Refusal.TheVariants.{Judged, BadProgress}
use Rattle.outcomes.specs.Outcomes.{told_by, list_in, counts_of, end_quiet, end_at}
use Rattle.outcomes.specs.Ticks.{Tick, tick_given, Ticked, nothing_written, tick_by, front_by, Gives, GoesFrom}
use Rattle.conclusion.specs.GoesOn.{goes_on}
use Rattle.conclusion.specs.Laws.{written_is, Concludes}
use Rattle.refusals.specs.Refusals.{without_call}
use Rattle.refusals.proofs.Laws.{Passed, call_refused, call_passed}
use Rattle.progress.specs.Progress.{good_progress}
use Rattle.progress.specs.Laws.{CountBounds}
use Rattle.search.specs.Turns.{most_steps, after, Quiet}
use Rattle.search.specs.Runs.{Spun}
use Rattle.search.specs.Ticks.{expanded, came_to, expanded_in, gone_on, continued_search}
use Rattle.search.proofs.Laws.Ends.{aim_to, nodes_after_lem, counts_after_lem, Silent, silent_end}

-- ---- a list is no longer than there are nodes, and one

walk_short : (f : ℕ) (a : List ℕ) (n k : ℕ) → length (walk f a n k) ≤ f
walk_short zero a n k = omega arith
walk_short (suc f) a n k = go (ltb k n) (walk_short f a n (node_at a k).parent)
  where
    go : (b : Bool) → length (walk f a n (node_at a k).parent) ≤ f → length (walk_by b (node_waypoint a k) (walk f a n (node_at a k).parent)) ≤ suc f
    go true h = omega arith
    go false h = omega arith

list_short : (a : List ℕ) (n k : ℕ) (t : List (Feet × Label)) → length t ≤ 1 → length (list_of a n k t) ≤ n + 1
unfolding list_of
list_short a n k t h = go (leb n (length a / 64))
  where
    go : (b : Bool) → length (cond b (reverse_aux (walk n a n k) t) []) ≤ n + 1
    go true = omega (arith, length-reverse_aux (walk n a n k) t, walk_short n a n k)
    go false = omega arith

quiet_short : (d n : ℕ) → length (list_in (end_quiet d)) ≤ n + 1
quiet_short zero n = omega arith
quiet_short (suc d) n = omega arith

end_short : (a : List ℕ) (goal : Feet) (t : Turn) → length (list_in (end_at a goal t)) ≤ (counts_of t).retained + 1
end_short a goal (Rest c) = quiet_short c.dropped c.retained
end_short a goal (Going c) = quiet_short c.dropped c.retained
end_short a goal (At c k) = list_short a c.retained k [] (omega arith)
end_short a goal (By c k l) = list_short a c.retained k ((goal, l) ∷ []) (omega arith)

-- ---- the two answers of the test whether it goes on

module _ (sp : Space) (r : Request) (body : Body) where
  abbrev aim : Aim
  aim = aim_to r (feet_of r.goal)

  -- it has ended: nothing waits
  over_silent : (t : Turn) (b g : List ℕ) → Quiet aim b g t → goes_on g t ≡ false → Silent aim b g t
  unfolding best
  over_silent (Rest c) b g q e = q
  over_silent (Going c) b g q e = pick_none b g c.retained (ltb-false (next_of c.retained g) c.retained e)
  over_silent (At c k) b g q e = tt
  over_silent (By c k l) b g q e = tt

  -- a node waits still
  came_on : (c : Counts) (b g : List ℕ) → next_of c.retained g < c.retained → came_to sp r body (state_of b g c) ≡ explore.Searching
  unfolding came_to outcome state_of best
  came_on c b g h = let e = pick_some b g c.retained h in rw e

  came_going : (t : Turn) (b g : List ℕ) → goes_on g t ≡ true → (came_to sp r body (after aim t b g) ≡ explore.Searching) × (after aim t b g ≡ state_of b g (counts_of t))
  came_going (Rest c) b g e = absurd (true_false e refl)
  came_going (Going c) b g e = (came_on c b g (ltb-true (next_of c.retained g) c.retained e), refl)
  came_going (At c k) b g e = absurd (true_false e refl)
  came_going (By c k l) b g e = absurd (true_false e refl)

-- ---- an end is no search that goes on

pub ended_tick : (e : explore.Outcome (Feet × Label)) (c : Counts) → (e ≡ explore.Searching → ⊥) → tick_by e c ≡ Ok (Ended (told_by e) (length (list_in e)) c)
ended_tick (explore.Found t) c h = refl
ended_tick explore.Unreachable c h = refl
ended_tick explore.BudgetExceeded c h = refl
ended_tick explore.Searching c h = absurd (h refl)

pub ended_front : (e : explore.Outcome (Feet × Label)) (old : List ℕ) (ns : List (Node Feet Label Note)) → (e ≡ explore.Searching → ⊥) → front_by e old ns ≡ replicate (length old) 0
ended_front (explore.Found t) old ns h = refl
ended_front explore.Unreachable old ns h = refl
ended_front explore.BudgetExceeded old ns h = refl
ended_front explore.Searching old ns h = absurd (h refl)

quiet_not_searching : (d : ℕ) → end_quiet d ≡ explore.Searching → ⊥
quiet_not_searching zero e = let z : ◌≡◌ {A = ℕ} 0 1 = cc in omega arith
quiet_not_searching (suc d) e = let z : ◌≡◌ {A = ℕ} 0 1 = cc in omega arith

end_not_searching : (a : List ℕ) (goal : Feet) (t : Turn) → end_at a goal t ≡ explore.Searching → ⊥
end_not_searching a goal (Rest c) e = quiet_not_searching c.dropped e
end_not_searching a goal (Going c) e = quiet_not_searching c.dropped e
end_not_searching a goal (At c k) e = let z : ◌≡◌ {A = ℕ} 0 1 = cc in omega arith
end_not_searching a goal (By c k l) e = let z : ◌≡◌ {A = ℕ} 0 1 = cc in omega arith

-- ---- the call

module _ (w : Window) (cells perms shapes boxes : List ℕ) (r : Request) (body : Body) (a f o : List ℕ) (c : Counts) (n : ℕ) where
  abbrev call : Option Outcome
  call = without_call w cells shapes boxes r body (length a) (length f) (length o) false

  abbrev whole : Ticked
  whole = continued_search w cells perms shapes boxes r body a f o c n

  abbrev judged : Ticked
  judged = cond (not (good_progress r a f c n)) (nothing_written (Err BadProgress) a f o) (gone_on w cells perms shapes boxes r body a f o c n)

  left : (t : Tick) → nothing_written t a f o ≡ whole → Gives whole t a f o
  left t e = subst (λ (h : Ticked). Gives h t a f o) e (record { answer = refl; node_room_lem = refl; front_room_lem = refl; output = refl })

  pub left_refused : (p : Outcome) → some p ≡ call → Gives whole (Err (Judged p)) a f o
  unfolding continued_search
  left_refused p e = left (Err (Judged p)) (call_refused w cells shapes boxes r body (length a) (length f) (length o) false (λ q. nothing_written (Err (Judged q)) a f o) judged p e)

  pub left_bad : none ≡ call → good_progress r a f c n ≡ false → Gives whole (Err BadProgress) a f o
  unfolding continued_search
  left_bad e h = left (Err BadProgress)
      ((let z : nothing_written (Err BadProgress) a f o ≡ judged = rw h in z) ∙ call_passed w cells shapes boxes r body (length a) (length f) (length o) false (λ q. nothing_written (Err (Judged q)) a f o) judged e)

  pub went : none ≡ call → good_progress r a f c n ≡ true → gone_on w cells perms shapes boxes r body a f o c n ≡ whole
  unfolding continued_search
  went e h = (let z : gone_on w cells perms shapes boxes r body a f o c n ≡ judged = rw h in z) ∙ call_passed w cells shapes boxes r body (length a) (length f) (length o) false (λ q. nothing_written (Err (Judged q)) a f o) judged e

  module _ (passed : Passed w cells shapes boxes r body (length a) (length f) (length o) false) (bounds : CountBounds r.node_budget c n) where
    -- accepted rooms and counts are ready for every expansion that can be asked: no count wraps
    pub ready_on : Ready a f r.node_budget ((most_steps + 1) * n + 1) c
    ready_on = record {
      node_room_lem = passed.node_room_lem;
      front_room_lem = passed.front_room_lem;
      numbered = omega (arith, passed.few_nodes);
      few = bounds.few;
      pushes = omega (arith, bounds.asked, bounds.pushes);
      drops = omega (arith, bounds.asked, bounds.drops);
      closes = omega (arith, bounds.asked, bounds.closes, bounds.few, passed.few_nodes);
    }

    module _ {goal : Feet} {t : Turn} {b g : List ℕ} (goal_is : goal ≡ feet_of r.goal) (spun : Spun (aim_to r goal) (space w cells perms shapes boxes) r body c n t a f b g)
        (nodes_bytes : Bytes b) (front_bytes : Bytes g) (nodes_kept : length b ≡ length a) (front_kept : length g ≡ length f)
        (goes : none ≡ call) (good : good_progress r a f c n ≡ true) where
      abbrev sp : Space
      sp = space w cells perms shapes boxes

      abbrev far : State Feet Label Note ℕ
      far = expanded_in w cells perms shapes boxes r body a f o c n

      spins : Spun (aim_to r (feet_of r.goal)) sp r body c n t a f b g
      spins = subst (λ (q : Feet). Spun (aim_to r q) sp r body c n t a f b g) goal_is spun

      few : (counts_of t).retained ≤ r.node_budget
      few = spun.near.few

      state_is : after (aim_to r (feet_of r.goal)) t b g ≡ far
      unfolding expanded
      state_is = spins.state

      nodes_are : nodes_of (counts_of t).retained b g ≡ far.nodes
      nodes_are = sym (nodes_after_lem r (feet_of r.goal) t b g) ∙ ap (λ (s : State Feet Label Note ℕ). s.nodes) state_is

      counts_are : counts_in far ≡ counts_of t
      counts_are = ap counts_in (sym state_is) ∙ counts_after_lem r (feet_of r.goal) t b g

      nodes_room_is : b ≡ node_room a far.nodes
      nodes_room_is = node_room_lem a b g (counts_of t).retained nodes_bytes (omega (arith, few, passed.node_room_lem)) (spun.kept.nodes (counts_of t).retained (omega arith)) ∙ ap (node_room a) nodes_are

      front_room_is : g ≡ front_room f far.nodes
      front_room_is = front_room_lem f b g (counts_of t).retained front_bytes (omega (arith, few, passed.front_room_lem)) (spun.kept.front (counts_of t).retained (omega arith)) ∙ ap (front_room f) nodes_are

      abbrev came : explore.Outcome (Feet × Label)
      came = came_to sp r body far

      abbrev out_with : explore.Outcome (Feet × Label) → List ℕ
      out_with e = list_bytes (list_in e) ++ drop (48 * length (list_in e)) o

      -- what the code answers and leaves, where expansions were made
      by_parts : {u : Tick} {x y : List ℕ} → u ≡ tick_by came (counts_in far) → x ≡ front_by came f far.nodes → y ≡ out_with came → Gives whole u b x y
      unfolding gone_on
      by_parts {u} {x} {y} i j k = subst (λ (h : Ticked). Gives h u b x y) (went goes good) (record { answer = ap tick_given i; node_room_lem = nodes_room_is; front_room_lem = j; output = k })

      -- a node waits still
      module _ (on : goes_on g t ≡ true) where
        came_searching : came ≡ explore.Searching
        came_searching = ap (came_to sp r body) (sym state_is) ∙ (came_going sp r body t b g on).0

        pub holds_on : Gives whole (Ok (Searching (counts_of t))) b g o
        holds_on = by_parts
            (sym (ap (λ (e : explore.Outcome (Feet × Label)). tick_by e (counts_in far)) came_searching ∙ ap (λ (c : Counts). Ok (Searching c)) counts_are))
            (front_room_is ∙ sym (ap (λ (e : explore.Outcome (Feet × Label)). front_by e f far.nodes) came_searching))
            (sym (ap out_with came_searching))

        pub goes_from : GoesFrom far (Ok (Searching (counts_of t))) b g
        goes_from = sym (came_going sp r body t b g on).1 ∙ state_is

      -- the search has ended
      module _ (over : goes_on g t ≡ false) {x : Answer} {p : List ℕ} (concludes : Concludes b goal t x o p) where
        ends : Concludes b (feet_of r.goal) t x o p
        ends = subst (λ (q : Feet). Concludes b q t x o p) goal_is concludes

        came_is : came ≡ end_at b (feet_of r.goal) t
        unfolding came_to
        came_is = ap (came_to sp r body) (sym state_is) ∙ silent_end sp r body t b g (omega (arith, few, passed.few_nodes)) (omega (arith, few, passed.node_room_lem)) (over_silent sp r body t b g spins.quiet over)

        not_searching : came ≡ explore.Searching → ⊥
        not_searching e = end_not_searching b (feet_of r.goal) t (sym came_is ∙ e)

        tick_over : Ok (Ended x.outcome x.count (counts_of t)) ≡ tick_by came (counts_in far)
        tick_over = sym (ended_tick came (counts_in far) not_searching
            ∙ (λ i. Ok (Ended (told_by (came_is i)) (length (list_in (came_is i))) (counts_are i)))
            ∙ ap (λ (y : Answer). Ok (Ended y.outcome y.count (counts_of t))) (sym ends.0))

        front_over : replicate (length g) 0 ≡ front_by came f far.nodes
        front_over = ap (λ (m : ℕ). replicate m 0) front_kept ∙ sym (ended_front came f far.nodes not_searching)

        out_over : p ≡ out_with came
        out_over = ends.1 ∙ ap (λ (e : explore.Outcome (Feet × Label)). written (list_in e) o) (sym came_is)
            ∙ written_is (list_in came) o (omega (arith, passed.out_room, few, end_short b (feet_of r.goal) t, ap (λ (e : explore.Outcome (Feet × Label)). length (list_in e)) came_is))

        pub holds_over : {z : List ℕ} → z ≡ replicate (length g) 0 → Gives whole (Ok (Ended x.outcome x.count (counts_of t))) b z p
        holds_over e = by_parts tick_over (e ∙ front_over) out_over
