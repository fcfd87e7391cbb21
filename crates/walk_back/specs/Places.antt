-- Where a list breaks off, in its records: from the place that goes with a pair's reason back to the list.
use Prim.Native.Nat.{ℕ, zero, suc, ◌+◌, ◌-◌, ◌/◌, ◌≤◌, ◌<◌}
use Rattle.std.proofs.Common.{arith, add-one, ◌∙◌}
use Rattle.std.proofs.Math.Path.{◌≡◌, refl, sym, ap}
use Rattle.std.specs.Prelude.{Bool}
use Rattle.std.proofs.Math.Bool.{true, false}
use mathlib.Core.List.{List, [], ◌∷◌, ◌++◌}
use borrow.Author.Tests.{eq-eqb, ne_eqb, eqb-true, eqb-false}
use Rattle.std.proofs.Math.Dec.{eqb}
use Rattle.std.proofs.Math.ListN.{length}
use Rattle.exploration.specs.Graph.{has_step}
use Rattle.exploration.specs.WalkBack.{is_last, Astray, Broken, joined, last_of, steps_along}
use Rattle.exploration.proofs.Claims.{breaks_at_the_first_pair}
use Rattle.exploration.proofs.Laws.Lists.{and_first, and_second}
use Rattle.exploration.proofs.Laws.WalkBack.{astray_is}
use Rattle.world.specs.declared.Body.{Body}
use Rattle.world.specs.declared.Request.{Request}
use Rattle.world.specs.Space.{Space}
use Rattle.rooms.specs.declared.Feet.{Feet}
use Rattle.rooms.specs.declared.Label.{Label}
use Rattle.rooms.specs.Records.{waypoint_at}
use Rattle.rooms.specs.Waypoints.{same_point}
use Rattle.words.specs.Words.{feet_of}
use Rattle.steps.specs.Graph.{graph}
use Rattle.listed.specs.Listed.{entry, entries_from}
use Rattle.pairs.specs.declared.PairFault.{PairFault}
use Rattle.pairs.specs.Pairs.{pair_fault}
use Rattle.walk_back.specs.WalkBack.{going_on}

length_entries : (s : List ℕ) (k n : ℕ) → length (entries_from s k n) ≡ n
unfolding entries_from
length_entries s k zero = refl
length_entries s k (suc n) = ap suc (length_entries s (suc k) n)

module _ (sp : Space) (r : Request) (body : Body) (s : List ℕ) where
  -- The pair whose later record has the place m is none of the graph's, for this reason, and each pair before it is a graph step.
  pub record BreaksAt (m : ℕ) (fault : PairFault) : Type 0 where
    pub earlier : ℕ
    pub place : m ≡ earlier + 1
    pub inside : m < length s / 48
    pub steps_before : (j : ℕ) → j < earlier → has_step (graph sp r body) (waypoint_at s j).feet (entry (waypoint_at s (j + 1))) ≡ true
    pub none : joined (graph sp r body) (eqb (m + 1) (length s / 48)) (waypoint_at s earlier).feet (entry (waypoint_at s m)) ≡ false
    pub why : fault ≡ pair_fault sp r body (eqb (m + 1) (length s / 48)) (waypoint_at s earlier).feet (waypoint_at s m).feet

  -- Each pair of the list is a graph step, and its last point is not the goal.
  pub record EndsElsewhere : Type 0 where
    pub steps_through : steps_along (graph sp r body) (waypoint_at s 0).feet (entries_from s 1 (length s / 48 - 1)) ≡ true
    pub elsewhere : same_point (last_of (graph sp r body) (waypoint_at s 0).feet (entries_from s 1 (length s / 48 - 1))) (feet_of r.goal) ≡ false

  -- records from k + 1 on, some of them before one and some behind it: those before are the records up to `at`, and then comes w
  record Along (k c : ℕ) (before : List (Feet × Label)) (w : Feet × Label) (behind : List (Feet × Label)) : Type 0 where
    ends : (at : ℕ) → at ≡ k + length before → (last_of (graph sp r body) (waypoint_at s k).feet before ≡ (waypoint_at s at).feet) × (w ≡ entry (waypoint_at s (at + 1)))
    steps : (i : ℕ) → k ≤ i → i < k + length before → has_step (graph sp r body) (waypoint_at s i).feet (entry (waypoint_at s (i + 1))) ≡ true
    count : c ≡ suc (length before + length behind)

  along : (before : List (Feet × Label)) (k c : ℕ) {w : Feet × Label} {behind : List (Feet × Label)} → entries_from s (suc k) c ≡ before ++ (w ∷ behind) →
      steps_along (graph sp r body) (waypoint_at s k).feet before ≡ true → Along k c before w behind
  unfolding entries_from
  along [] k zero e h = absurd (let z : ◌≡◌ {A = ℕ} 0 1 = cc in omega arith)
  along [] k (suc c) {w} {behind} e h =
      let first : entry (waypoint_at s (suc k)) ≡ w = cc in
      let others : entries_from s (suc (suc k)) c ≡ behind = cc in
      record {
        ends = λ at a. let z : at ≡ k = omega (arith, a) in rw (z, add-one) (refl, sym first);
        steps = λ i l m. absurd (omega arith);
        count = omega (arith, ap length others, length_entries s (suc (suc k)) c);
      }
  along (v ∷ vs) k zero e h = absurd (let z : ◌≡◌ {A = ℕ} 0 1 = cc in omega arith)
  along (v ∷ vs) k (suc c) {w} {behind} e h =
      let first : entry (waypoint_at s (suc k)) ≡ v = cc in
      let others : entries_from s (suc (suc k)) c ≡ vs ++ (w ∷ behind) = cc in
      let here = and_first (has_step (graph sp r body) (waypoint_at s k).feet v) _ h in
      let a = along vs (suc k) c others (rw (← first) at (and_second (has_step (graph sp r body) (waypoint_at s k).feet v) _ h)) in
      record {
        ends = λ at b. rw (← first) (a.ends at (omega (arith, b)));
        steps = λ i l m. one (eqb i k) refl (rw (← first) at here) (a.steps i) l m;
        count = omega (arith, a.count);
      }
    where
      one : {i : ℕ} (b : Bool) → eqb i k ≡ b → has_step (graph sp r body) (waypoint_at s k).feet (entry (waypoint_at s (suc k))) ≡ true →
          (suc k ≤ i → i < suc k + length vs → has_step (graph sp r body) (waypoint_at s i).feet (entry (waypoint_at s (i + 1))) ≡ true) → k ≤ i → i < k + suc (length vs) →
          has_step (graph sp r body) (waypoint_at s i).feet (entry (waypoint_at s (i + 1))) ≡ true
      one {i} true q here on l m = rw (eqb-true i k q, add-one) here
      one {i} false q here on l m = let d = eqb-false i k q in on (omega arith) (omega arith)

  -- the last pair is the one that ends the list
  ends_list : (behind : List (Feet × Label)) (m : ℕ) → length s / 48 ≡ m + 1 + length behind → is_last (graph sp r body) behind ≡ eqb (m + 1) (length s / 48)
  ends_list [] m e = sym (eq-eqb (m + 1) (length s / 48) (omega arith))
  ends_list (u ∷ us) m e = sym (ne_eqb (m + 1) (length s / 48) (λ z. omega arith))

  -- where the list breaks off, it does so in its records
  pub broken_at : {m : ℕ} {q : Feet} {w : Feet × Label} {last : Bool} → going_on sp r body s ≡ Broken m q w last → BreaksAt m (pair_fault sp r body last q w.0)
  broken_at {m} {q} {w} {last} e =
      let f = breaks_at_the_first_pair (graph sp r body) 1 (waypoint_at s 0).feet _ e in
      let a = along f.before 0 (length s / 48 - 1) f.list f.steps_before in
      let ends = a.ends (length f.before) (omega arith) in
      let whole : length s / 48 ≡ m + 1 + length f.behind = omega (arith, a.count, f.place) in
      let placed : m ≡ length f.before + 1 = omega (arith, f.place) in
      let closed : last ≡ eqb (m + 1) (length s / 48) = f.last_pair ∙ ends_list f.behind m whole in
      let left : q ≡ (waypoint_at s (length f.before)).feet = f.leaves ∙ ends.0 in
      let later : w ≡ entry (waypoint_at s m) = ends.1 ∙ ap (λ (k : ℕ). entry (waypoint_at s k)) (sym placed) in
      record {
        earlier = length f.before;
        place = placed;
        inside = omega (arith, whole);
        steps_before = λ j l. a.steps j (omega arith) (omega arith);
        none = sym (λ i. joined (graph sp r body) (closed i) (left i) (later i)) ∙ f.none;
        why = λ i. pair_fault sp r body (closed i) (left i) (later i).0;
      }

  pub ends_elsewhere : going_on sp r body s ≡ Astray → EndsElsewhere
  unfolding graph
  ends_elsewhere e = let a = astray_is (graph sp r body) 1 (waypoint_at s 0).feet (entries_from s 1 (length s / 48 - 1)) e in record { steps_through = a.0; elsewhere = a.1 }
