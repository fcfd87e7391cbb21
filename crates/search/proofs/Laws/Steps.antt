-- How steps of an expansion compose, and the paths of the code through a column and through the columns.
use Rattle.std.specs.Prelude.{◌≡◌, refl, Bool, true, false, ◌||◌, List, [], ◌∷◌, ◌++◌, map, ℕ, ◌+◌, ◌≤◌, ◌<◌, length, Option, Some, None}
use Rattle.std.proofs.Math.Path.{sym, ap}
use Rattle.std.proofs.Common.{subst, ◌∙◌, append-nil, append_assoc, arith, length-append}
use Rattle.std.proofs.Math.Bool.{or-false, or_assoc}
use Rattle.exploration.specs.Explore.{State, visits}
use Rattle.exploration.proofs.Laws.Loops.{visits_append}
use Rattle.exploration.proofs.Laws.Lists.{true_false}
use Rattle.world.specs.declared.Point.{Point}
use Rattle.world.specs.declared.Body.{Body}
use Rattle.world.specs.declared.Request.{Request}
use Rattle.world.specs.Space.{Space}
use Rattle.moves.specs.declared.answer.Waypoint.{Waypoint}
use Rattle.sides.specs.declared.Sides.{Sides}
use Rattle.sides.specs.Sides.{looked_by, side_at, answered_by, level_to}
use Rattle.sides.specs.Laws.{same_answer}
use Rattle.steps.specs.Columns.{ahead, level, column_if}
use Rattle.steps.specs.Expansion.{sides_before, sides_on, skipped, sides_skipped}
use Rattle.words.specs.Words.{feet_of, label_of, step_of}
use Rattle.rooms.specs.declared.Feet.{Feet}
use Rattle.rooms.specs.declared.Label.{Label}
use Rattle.rooms.specs.declared.Counts.{Counts}
use Rattle.rooms.specs.Scans.{first_at}
use Rattle.rooms.specs.Rooms.{Note, state_of}
use Rattle.visits.specs.declared.Aim.{Aim}
use Rattle.visits.specs.Best.{best}
use Rattle.visits.specs.Visits.{Ready, Near, shut_at, Visited}
use Rattle.visits.proofs.Laws.Visits.{kept_none, kept_trans, still_none, still_trans, rests_none, rests_trans, near_none, near_trans, is_ready, visit_sought, visited_shut}
use Rattle.visits.specs.declared.Place.{Place}
use Rattle.strides.specs.declared.Column.{Column}
use Rattle.search.specs.declared.Around.{Around}
use Rattle.strides.specs.Strides.{Strode}
use Rattle.search.specs.Steps.{Stepped, Went, Looked}

-- ---- readiness goes on

pub ready_after : {a f b g : List ℕ} {budget d e m : ℕ} {c r : Counts} → Ready a f budget m c → Near budget d c r → d + e ≤ m → length b ≡ length a → length g ≡ length f → Ready b g budget e r
ready_after p n h x y = record { node_room_lem = omega (arith, p.node_room_lem); front_room_lem = omega (arith, p.front_room_lem); numbered = p.numbered; few = n.few; pushes = omega (arith, p.pushes, n.pushes); drops = omega (arith, p.drops, n.drops); closes = omega (arith, p.closes, n.closes) }

-- ---- steps, one lot after the other

level_append : (p : Point) (ws vs : List Waypoint) → level p (ws ++ vs) ≡ (level p ws || level p vs)
unfolding level
level_append p [] vs = refl
level_append p (w ∷ ws) vs = ap (λ (b : Bool). level_to p w.feet || b) (level_append p ws vs) ∙ sym (or_assoc (level_to p w.feet) (level p ws) (level p vs))

map-append : {A B : Type 0} (h : A → B) (xs ys : List A) → map h (xs ++ ys) ≡ map h xs ++ map h ys
map-append h [] ys = refl
map-append h (x ∷ xs) ys = ap (λ (zs : List _). h x ∷ zs) (map-append h xs ys)

module _ {aim : Aim} {at : Place} where
  pub stepped_none : {c : Counts} (a f : List ℕ) → c.retained ≤ aim.budget → Stepped aim at [] c c a f a f
  stepped_none a f h = record { state = λ 𝓖 s n p q. refl; kept = kept_none _ a f; still = still_none _ a; rest = rests_none _ a f; near = near_none h }

  -- where the lookup found the first node at the step's point
  pub stepped_one : {c r : Counts} {a f b g : List ℕ} (w : Waypoint) (j : ℕ) → j ≡ first_at a c.retained (feet_of w.feet) → c.retained ≤ aim.budget →
      Visited aim at.number at.node c j (feet_of w.feet) (label_of w) r a f b g → Stepped aim at (w ∷ []) c r a f b g
  unfolding step_of
  stepped_one {c} {a = a} {f = f} w j e h v = record {
    state = λ 𝓖 s n p q. v.state 𝓖 n p q ∙ sym (visit_sought aim at.number c a f h at.node (feet_of w.feet) (label_of w) 𝓖 s n j e);
    kept = v.kept;
    still = v.still;
    rest = v.rest;
    near = v.near;
  }

  pub stepped_more : {c r t : Counts} {a f b g x y : List ℕ} {ws vs : List Waypoint} → Stepped aim at ws c r a f b g → Stepped aim at vs r t b g x y → Stepped aim at (ws ++ vs) c t a f x y
  stepped_more {c} {a = a} {f = f} {ws = ws} {vs = vs} u v = record {
    state = λ 𝓖 s n p q. v.state 𝓖 s n p q
        ∙ ap (λ (i : State Feet Label Note ℕ). visits 𝓖 (best aim.goal) aim.budget at.number n i (map step_of vs)) (u.state 𝓖 s n p q)
        ∙ sym (visits_append 𝓖 (best aim.goal) aim.budget at.number n (state_of a f c) (map step_of ws) (map step_of vs))
        ∙ ap (visits 𝓖 (best aim.goal) aim.budget at.number n (state_of a f c)) (sym (map-append step_of ws vs));
    kept = kept_trans v.near.more u.kept v.kept;
    still = still_trans u.near.more u.still v.still;
    rest = rests_trans u.near.more u.rest v.rest;
    near = rw length-append (near_trans u.near v.near);
  }

  pub went_none : {n : ℕ} {c : Column} (a f : List ℕ) → c.counts.retained ≤ aim.budget → Went aim at n [] c c a f a f
  unfolding level
  went_none {c = c} a f h = record { steps = stepped_none a f h; noted = λ side. sym (or-false c.level) }

  pub went_more : {n : ℕ} {c r t : Column} {a f b g x y : List ℕ} {ws vs : List Waypoint} → Went aim at n ws c r a f b g → Went aim at n vs r t b g x y → Went aim at n (ws ++ vs) c t a f x y
  went_more {c = c} {ws = ws} {vs = vs} u v = record {
    steps = stepped_more u.steps v.steps;
    noted = λ side. v.noted side ∙ ap (λ (b : Bool). b || level at.point vs) (u.noted side) ∙ or_assoc c.level (level at.point ws) (level at.point vs) ∙ ap (λ (b : Bool). c.level || b) (sym (level_append at.point ws vs));
  }

  -- ---- one height

  -- by the edge to it, where the rooms are ready and the lookup found the first node there
  pub went_by : {n : ℕ} {c r : Column} {a f b g : List ℕ} (e : Option Waypoint) (to : Point) (j : ℕ) → ((w : Waypoint) → e ≡ Some w → w.feet ≡ to) → j ≡ first_at a c.counts.retained (feet_of to)
      → Strode aim at e j c r a f b g → Ready a f aim.budget 1 c.counts → at.number < c.counts.retained → Went aim at n (ahead e []) c r a f b g
  unfolding level
  went_by {a = a} {f = f} None to j i o s h l = record {
    steps = rw s.visited.nodes (rw s.visited.front (rw s.visited.counts (stepped_none a f h.few)));
    noted = λ side. s.noted;
  }
  went_by {c = c} {a = a} {f = f} (Some w) to j i o s h l = record {
    steps = stepped_one w j (o ∙ ap (λ (p : Point). first_at a c.counts.retained (feet_of p)) (sym (i w refl))) h.few (s.visited.0 (is_ready a f aim.budget at.number c.counts h l));
    noted = λ side. s.noted ∙ ap (λ (x : Bool). c.level || x) (sym (or-false (level_to at.point w.feet)));
  }

  -- or, where the node there is closed and the column is no side, without asking for the edge: whatever it is, nothing changes
  pub went_shut : {n : ℕ} {c : Column} {a f : List ℕ} (e : Option Waypoint) (to : Point) (j : ℕ) → ((w : Waypoint) → e ≡ Some w → w.feet ≡ to) → j ≡ first_at a c.counts.retained (feet_of to)
      → side_at n ≡ false → shut_at a c.counts.retained j ≡ true → c.counts.retained ≤ aim.budget → Went aim at n (ahead e []) c c a f a f
  went_shut {a = a} {f = f} None to j i o s h few = record { steps = stepped_none a f few; noted = λ side. absurd (true_false side s) }
  went_shut {c = c} {a = a} (Some w) to j i o s h few = record {
    steps = stepped_one w j (o ∙ ap (λ (p : Point). first_at a c.counts.retained (feet_of p)) (sym (i w refl))) few (visited_shut few h);
    noted = λ side. absurd (true_false side s);
  }

-- ---- a loop over steps: those gone, and those left

pub record Along (R : List Waypoint → Type 0) (whole rest : List Waypoint) : Type 0 where
  pub gone : List Waypoint
  pub split : whole ≡ gone ++ rest
  pub went : R gone

module _ {R : List Waypoint → Type 0} {whole rest : List Waypoint} where
  pub along_none : whole ≡ rest → R [] → Along R whole rest
  along_none e h = record { gone = []; split = e; went = h }

  pub along_on : {S : List Waypoint → Type 0} {left : List Waypoint} (ws : List Waypoint) → Along R whole rest → rest ≡ ws ++ left → ((vs : List Waypoint) → R vs → S (vs ++ ws)) → Along S whole left
  along_on {left = left} ws u e h = record { gone = u.gone ++ ws; split = u.split ∙ ap (λ (l : List Waypoint). u.gone ++ l) e ∙ sym (append_assoc u.gone ws left); went = h u.gone u.went }

  pub along_end : Along R whole rest → rest ≡ [] → R whole
  along_end u e = subst R (sym (u.split ∙ ap (λ (l : List Waypoint). u.gone ++ l) e ∙ append-nil u.gone)) u.went

  pub along_short : (u : Along R whole rest) → length u.gone + length rest ≤ length whole
  along_short u = omega (arith, ap length u.split, length-append u.gone rest)

-- an edge, then what comes behind it
pub ahead_split : (x : Option Waypoint) (ws : List Waypoint) → ahead x ws ≡ ahead x [] ++ ws
ahead_split None ws = refl
ahead_split (Some w) ws = refl

-- ---- a column that is looked at, and one that is not

module _ {aim : Aim} {at : Place} {sp : Space} {r : Request} {body : Body} {c : Around} {a f : List ℕ} (n : ℕ) (before : c.sides ≡ sides_before sp r body at.point n) where
  pub looked_not : looked_by c.sides n ≡ false → c.counts.retained ≤ aim.budget → Looked aim at sp r body n c c a f a f
  looked_not e h = let i = rw before at e in record {
    steps = rw (skipped sp r body at.point n i) (stepped_none a f h);
    answered = before ∙ sym (sides_skipped sp r body at.point n i);
  }

  pub looked_on : {b g : List ℕ} (gone : Column) (s : Sides) → s ≡ answered_by c.sides n gone.level
      → Went aim at n (column_if sp r body at.point n) (record { counts = c.counts; level = false }) gone a f b g → Looked aim at sp r body n c (record { counts = gone.counts; sides = s }) a f b g
  looked_on gone s i w = record {
    steps = w.steps;
    answered = i ∙ ap (λ (x : Sides). answered_by x n gone.level) before ∙ same_answer (sides_before sp r body at.point n) n w.noted ∙ sym (sides_on sp r body at.point n);
  }
