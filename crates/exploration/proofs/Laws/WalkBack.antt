-- The test of a list passes exactly where the list is a route; and a list breaks off at its first pair that is none of the graph's.
use Rattle.std.proofs.Math.Path.{◌≡◌, refl, sym, ap}
use Rattle.std.proofs.Common.{◌∙◌, arith}
use Rattle.std.specs.Prelude.{Bool, ◌&&◌, ◌||◌, ℕ, suc}
use Rattle.std.proofs.Math.Bool.{true, false, cond}
use mathlib.Core.List.{List, [], ◌∷◌, ◌++◌}
use Rattle.std.proofs.Math.Logic.{⊎_elim}
use Rattle.exploration.specs.Graph.{Graph, Way, arrived, connected, stepped, Route, route, has_step, connects}
use Rattle.exploration.specs.WalkBack.{is_last, is_way, is_route, Going, Through, Astray, Broken, joined, going, last_of, steps_along, FirstBreak}
use Rattle.exploration.proofs.Laws.Lists.{true_false, or_left, or_right, or_cases, and_both, and_first, and_second}

-- whether a list goes through
abbrev pub is_through : {P L : Type 0} → Going P L → Bool
is_through Through = true
is_through Astray = false
is_through (Broken k p w last) = false

or-false : (b : Bool) → b ≡ (b || false)
or-false true = refl
or-false false = refl

module _ {P L : Type 0} (𝓖 : Graph P L) where
  open 𝓖 use {same, alike, start, start_label, goal}

  way_is : {p : P} {ws : List (P × L)} → Way 𝓖 p ws → is_way 𝓖 p ws ≡ true
  unfolding is_way
  way_is (arrived e) = e
  way_is {p} (connected {w = w} e g) = or_right (has_step 𝓖 p w && same w.0 goal) _ (and_both _ _ e g)
  way_is (stepped e l) = or_left _ _ (and_both _ _ e (way_is l))

  last_way : (p : P) (w : P × L) (ws : List (P × L)) → (is_last 𝓖 ws && (connects 𝓖 p w && same w.0 goal)) ≡ true → Way 𝓖 p (w ∷ ws)
  last_way p w [] e = connected (and_first (connects 𝓖 p w) _ e) (and_second (connects 𝓖 p w) _ e)
  last_way p w (v ∷ ws) e = absurd (true_false e refl)

  is_way_lem : (p : P) (ws : List (P × L)) → is_way 𝓖 p ws ≡ true → Way 𝓖 p ws
  unfolding is_way
  is_way_lem p [] e = arrived e
  is_way_lem p (w ∷ ws) e = ⊎_elim (λ h. stepped (and_first (has_step 𝓖 p w) _ h) (is_way_lem w.0 ws (and_second (has_step 𝓖 p w) _ h))) (last_way p w ws) (or_cases (has_step 𝓖 p w && is_way 𝓖 w.0 ws) _ e)

  pub is_route_lem : (t : List (P × L)) → is_route 𝓖 t ≡ true → Route 𝓖 t
  unfolding is_route
  is_route_lem [] e = absurd (true_false e refl)
  is_route_lem (w ∷ ws) e = let h = and_second (same start w.0) _ e in route (and_first (same start w.0) _ e) (and_first (alike start_label w.1) _ h) (is_way_lem w.0 ws (and_second (alike start_label w.1) _ h))

  pub route_is : {t : List (P × L)} → Route 𝓖 t → is_route 𝓖 t ≡ true
  unfolding is_route
  route_is (route e f l) = and_both _ _ e (and_both _ _ f (way_is l))

  -- ---- where a list breaks off

  no_break : {A : Type 0} {m : ℕ} {q : P} {w : P × L} {last : Bool} (b : Bool) → cond b Through Astray ≡ Broken m q w last → A
  no_break true e = absurd (let z : ◌≡◌ {A = ℕ} 0 1 = cc in omega arith)
  no_break false e = absurd (let z : ◌≡◌ {A = ℕ} 0 1 = cc in omega arith)

  -- only the last pair can be a connector
  step_of : (p : P) (v : P × L) (before : List (P × L)) (w : P × L) (behind : List (P × L)) → joined 𝓖 (is_last 𝓖 (before ++ (w ∷ behind))) p v ≡ true → has_step 𝓖 p v ≡ true
  step_of p v [] w behind e = or-false (has_step 𝓖 p v) ∙ e
  step_of p v (u ∷ us) w behind e = or-false (has_step 𝓖 p v) ∙ e

  pub first_break : (k : ℕ) (p : P) (ws : List (P × L)) {m : ℕ} {q : P} {w : P × L} {last : Bool} → going 𝓖 k p ws ≡ Broken m q w last → FirstBreak 𝓖 k p ws m q w last
  unfolding going
  first_break k p [] e = no_break (same p goal) e
  first_break k p (v ∷ vs) {m} {q} {w} {last} e = go (first_break (suc k) v.0 vs) (joined 𝓖 (is_last 𝓖 vs) p v) refl e
    where
      go : (going 𝓖 (suc k) v.0 vs ≡ Broken m q w last → FirstBreak 𝓖 (suc k) v.0 vs m q w last) → (b : Bool) → joined 𝓖 (is_last 𝓖 vs) p v ≡ b →
          cond b (going 𝓖 (suc k) v.0 vs) (Broken k p v (is_last 𝓖 vs)) ≡ Broken m q w last → FirstBreak 𝓖 k p (v ∷ vs) m q w last
      go on true j e =
          let f = on e in
          record {
            before = v ∷ f.before;
            behind = f.behind;
            list = ap (λ (us : List (P × L)). v ∷ us) f.list;
            place = omega (arith, f.place);
            leaves = f.leaves;
            last_pair = f.last_pair;
            steps_before = and_both _ _ (step_of p v f.before w f.behind (rw f.list at j)) f.steps_before;
            none = f.none;
          }
      go on false j e =
          let placed : k ≡ m = cc in
          let left : p ≡ q = cc in
          let later : v ≡ w = cc in
          let closed : is_last 𝓖 vs ≡ last = cc in
          record {
            before = [];
            behind = vs;
            list = ap (λ (u : P × L). u ∷ vs) later;
            place = omega (arith, placed);
            leaves = sym left;
            last_pair = sym closed;
            steps_before = refl;
            none = rw (← closed, ← left, ← later) j;
          }

  -- ---- where it goes through

  -- it goes through exactly where the test says that it is a way
  pub through_is : (k : ℕ) (p : P) (ws : List (P × L)) → is_through (going 𝓖 k p ws) ≡ is_way 𝓖 p ws
  unfolding going is_way
  through_is k p [] = go (same p goal)
    where
      go : (b : Bool) → is_through {P = P} {L = L} (cond b Through Astray) ≡ b
      go true = refl
      go false = refl
  through_is k p (w ∷ ws) = go ws (has_step 𝓖 p w) (connects 𝓖 p w) (through_is (suc k) w.0 ws)
    where
      last : (s c g : Bool) → is_through (cond (s || (true && (c && g))) (cond g Through Astray) (Broken k p w true)) ≡ ((s && g) || (true && (c && g)))
      last true c true = refl
      last true true false = refl
      last true false false = refl
      last false true true = refl
      last false true false = refl
      last false false true = refl
      last false false false = refl

      go : (ws : List (P × L)) (s c : Bool) → is_through (going 𝓖 (suc k) w.0 ws) ≡ is_way 𝓖 w.0 ws →
          is_through (cond (s || (is_last 𝓖 ws && (c && same w.0 goal))) (going 𝓖 (suc k) w.0 ws) (Broken k p w (is_last 𝓖 ws)))
          ≡ ((s && is_way 𝓖 w.0 ws) || (is_last 𝓖 ws && (c && same w.0 goal)))
      go [] s c h = last s c (same w.0 goal)
      go (v ∷ vs) true c h = h ∙ or-false (is_way 𝓖 w.0 (v ∷ vs))
      go (v ∷ vs) false c h = refl

  -- ---- where a list ends elsewhere

  not_astray : {A : Type 0} {m : ℕ} {q : P} {w : P × L} {last : Bool} → Broken m q w last ≡ Astray → A
  not_astray e = absurd (let z : ◌≡◌ {A = ℕ} 0 1 = cc in omega arith)

  -- a last pair that is joined and does not end at the goal is no connector
  last_step : (s c g : Bool) → (s || (true && (c && g))) ≡ true → g ≡ false → s ≡ true
  last_step true c g e h = refl
  last_step false true true e h = sym h
  last_step false true false e h = e
  last_step false false g e h = e

  pub astray_is : (k : ℕ) (p : P) (ws : List (P × L)) → going 𝓖 k p ws ≡ Astray → (steps_along 𝓖 p ws ≡ true) × (same (last_of 𝓖 p ws) goal ≡ false)
  unfolding going
  astray_is k p [] e = go (same p goal) e
    where
      go : (b : Bool) → ◌≡◌ {A = Going P L} (cond b Through Astray) Astray → (◌≡◌ {A = Bool} true true) × (b ≡ false)
      go true e = absurd (let z : ◌≡◌ {A = ℕ} 0 1 = cc in omega arith)
      go false e = (refl, refl)
  astray_is k p (v ∷ vs) e = go (astray_is (suc k) v.0 vs) (joined 𝓖 (is_last 𝓖 vs) p v) refl e
    where
      step : (vs : List (P × L)) → joined 𝓖 (is_last 𝓖 vs) p v ≡ true → same (last_of 𝓖 v.0 vs) goal ≡ false → has_step 𝓖 p v ≡ true
      step [] j h = last_step (has_step 𝓖 p v) (connects 𝓖 p v) (same v.0 goal) j h
      step (u ∷ us) j h = or-false (has_step 𝓖 p v) ∙ j

      go : (going 𝓖 (suc k) v.0 vs ≡ Astray → (steps_along 𝓖 v.0 vs ≡ true) × (same (last_of 𝓖 v.0 vs) goal ≡ false)) → (b : Bool) → joined 𝓖 (is_last 𝓖 vs) p v ≡ b →
          cond b (going 𝓖 (suc k) v.0 vs) (Broken k p v (is_last 𝓖 vs)) ≡ Astray → (steps_along 𝓖 p (v ∷ vs) ≡ true) × (same (last_of 𝓖 p (v ∷ vs)) goal ≡ false)
      go on true j e = let h = on e in (and_both _ _ (step vs j h.1) h.0, h.1)
      go on false j e = not_astray e
