-- The ways out of `judge_call` and `judge`, and what a call that passed them may rely on.
use Rattle.std.specs.Prelude.{◌≡◌, Bool, not, ◌||◌, List, ℕ, ◌+◌, ◌*◌, ◌/◌, ◌≤◌, ◌<◌, eqb, leb}
use Rattle.std.proofs.Math.Path.{refl}
use Rattle.std.proofs.Common.{sym, ap, ◌∙◌, mul_comm, div-lt_iff_lt-mul, le-div_iff_mul-le, arith, ltb-true, ltb-false, lt-ltb, le-ltb, le-leb}
use Rattle.std.proofs.lemmas.Bool.{lt-leb}
use Rattle.std.proofs.Math.Bool.{true, false, cond}
use Rattle.std.proofs.Math.Option.{Option, none, some}
use Rattle.std.proofs.Math.Dec.{ltb}
use borrow.Author.Tests.{not-false, eqb-false}
use Rattle.exploration.proofs.Laws.Lists.{none_some, or-false}
use Rattle.world.specs.declared.Body.{Body}
use Rattle.world.specs.declared.Request.{Request}
use Rattle.world.specs.declared.Window.{Window}
use Rattle.world.specs.Space.{space}
use Rattle.tables.specs.BadWorld.{bad_world}
use Rattle.request.specs.Request.{valid_request, sizes_too_large, too_large}
use Rattle.ends.specs.Ends.{ends_good}
use Rattle.outcomes.specs.declared.Outcome.{Outcome}
use Rattle.outcomes.specs.declared.Outcome.TheVariants.{Unreachable, BudgetExceeded, BadWorld, TooLarge, NoRoom}
use Rattle.refusals.specs.Refusals.{no_room, call_judged, without_call, without_search}

-- ---- rooms: the code divides, 01's numbers multiply

-- under n records of d bytes: as many whole records, or bytes
few : (d n x : ℕ) → 0 < d → ltb (x / d) n ≡ ltb x (d * n)
few d n x p = go (ltb x (d * n)) refl
  where
    go : (t : Bool) → ltb x (d * n) ≡ t → ltb (x / d) n ≡ t
    go true e = lt-ltb (x / d) n ((div-lt_iff_lt-mul {k = d} {x = x} {y = n} p).1 (rw (mul_comm n d) (ltb-true x (d * n) e)))
    go false e = le-ltb (x / d) n ((le-div_iff_mul-le {k = d} {x = n} {y = x} p).1 (rw (mul_comm n d) (ltb-false x (d * n) e)))

le_as_lt : (x n : ℕ) → leb x n ≡ ltb x (n + 1)
le_as_lt x n = go (ltb x (n + 1)) refl
  where
    go : (t : Bool) → ltb x (n + 1) ≡ t → leb x n ≡ t
    go true e = le-leb x n (omega (arith, ltb-true x (n + 1) e))
    go false e = lt-leb x n (omega (arith, ltb-false x (n + 1) e))

pub room_divided : (n nodes front out : ℕ) (wrong_index : Bool) →
    (ltb (nodes / 64) n || ltb (front / 24) n || leb (out / 48) n || wrong_index) ≡ (no_room n nodes front out || wrong_index)
unfolding no_room
room_divided n nodes front out wrong_index =
    rw (few 64 n nodes (omega arith), few 24 n front (omega arith), le_as_lt (out / 48) n ∙ few 48 (n + 1) out (omega arith))

module _ (w : Window) (cells shapes boxes : List ℕ) (r : Request) (body : Body) (nodes front out : ℕ) (wrong_index : Bool) where
  abbrev bad : Bool
  bad = bad_world w cells shapes boxes

  abbrev valid : Bool
  valid = valid_request r body

  abbrev large : Bool
  large = too_large r body

  abbrev short : Bool
  short = no_room r.node_budget nodes front out || wrong_index

  abbrev call : Option Outcome
  call = without_call w cells shapes boxes r body nodes front out wrong_index

  -- ---- the ways out of `judge_call`, in 01's order, each under the tests so far

  pub out_bad_world : bad ≡ true → some BadWorld ≡ call
  unfolding without_call
  out_bad_world b = rw b

  pub out_invalid : bad ≡ false → valid ≡ false → some Unreachable ≡ call
  unfolding without_call
  out_invalid b v = rw (b, v)

  pub out_too_large : bad ≡ false → valid ≡ true → large ≡ true → some TooLarge ≡ call
  unfolding without_call
  out_too_large b v l = rw (b, v, l)

  pub out_room : bad ≡ false → valid ≡ true → large ≡ false → (none_left : Bool) → short ≡ none_left → cond none_left (some NoRoom) none ≡ call
  unfolding without_call
  out_room b v l none_left s = rw (b, v, l, s)

  -- ---- a refusal goes before what comes after, and without one that is said

  module _ {A : Type 0} (says : Outcome → A) (after : A) where
    abbrev judged : A
    judged = call_judged w cells shapes boxes r body nodes front out wrong_index says after

    said : (o p : Outcome) → some o ≡ some p → says o ≡ says p
    said o p e = let z : o ≡ p = cc in ap says z

    pub call_refused : (o : Outcome) → some o ≡ call → says o ≡ judged
    unfolding without_call
    call_refused o = go bad (not valid) large short
      where
        go : (b v l s : Bool) → some o ≡ cond b (some BadWorld) (cond v (some Unreachable) (cond l (some TooLarge) (cond s (some NoRoom) none))) →
            says o ≡ cond b (says BadWorld) (cond v (says Unreachable) (cond l (says TooLarge) (cond s (says NoRoom) after)))
        go true v l s e = said o BadWorld e
        go false true l s e = said o Unreachable e
        go false false true s e = said o TooLarge e
        go false false false true e = said o NoRoom e
        go false false false false e = absurd (none_some (sym e))

    pub call_passed : none ≡ call → after ≡ judged
    unfolding without_call
    call_passed = go bad (not valid) large short
      where
        go : (b v l s : Bool) → none ≡ cond b (some BadWorld) (cond v (some Unreachable) (cond l (some TooLarge) (cond s (some NoRoom) none))) →
            after ≡ cond b (says BadWorld) (cond v (says Unreachable) (cond l (says TooLarge) (cond s (says NoRoom) after)))
        go true v l s e = absurd (none_some e)
        go false true l s e = absurd (none_some e)
        go false false true s e = absurd (none_some e)
        go false false false true e = absurd (none_some e)
        go false false false false e = refl

  -- ---- and back: what a call that passed them may rely on

  pub record Passed : Type 0 where
    pub world : bad ≡ false
    pub request : valid ≡ true
    pub sizes : large ≡ false
    pub few_nodes : r.node_budget ≤ 4096
    pub node_room_lem : 64 * r.node_budget ≤ nodes
    pub front_room_lem : 24 * r.node_budget ≤ front
    pub out_room : 48 * (r.node_budget + 1) ≤ out

  small : large ≡ false → r.node_budget ≤ 4096
  unfolding too_large
  small e = ltb-false 4096 r.node_budget (or-false (sizes_too_large r body) (ltb 4096 r.node_budget) e).1

  has_room : bad ≡ false → valid ≡ true → large ≡ false → short ≡ false → Passed
  unfolding no_room
  has_room b v l e' =
      let n = r.node_budget in
      let e = (or-false (no_room n nodes front out) wrong_index e').0 in
      let f = (or-false (ltb nodes (64 * n) || ltb front (24 * n)) (ltb out (48 * (n + 1))) e).0 in
      record {
        world = b;
        request = v;
        sizes = l;
        few_nodes = small l;
        node_room_lem = ltb-false nodes (64 * n) (or-false (ltb nodes (64 * n)) (ltb front (24 * n)) f).0;
        front_room_lem = ltb-false front (24 * n) (or-false (ltb nodes (64 * n)) (ltb front (24 * n)) f).1;
        out_room = ltb-false out (48 * (n + 1)) (or-false (ltb nodes (64 * n) || ltb front (24 * n)) (ltb out (48 * (n + 1))) e).1;
      }

  -- a test that a call passed was not met
  passed : (b : Bool) (o : Outcome) (x : Option Outcome) → cond b (some o) x ≡ none → (b ≡ false) × (x ≡ none)
  passed true o x e = absurd (none_some (sym e))
  passed false o x e = (refl, e)

  passed_to : (after : Option Outcome) → call_judged w cells shapes boxes r body nodes front out wrong_index some after ≡ none → Passed × (after ≡ none)
  passed_to after e =
      let b = passed bad BadWorld _ e in
      let v = passed (not valid) Unreachable _ b.1 in
      let l = passed large TooLarge _ v.1 in
      let s = passed short NoRoom _ l.1 in
      (has_room b.0 (not-false valid v.0) l.0 s.0, s.1)

  pub passes : call ≡ none → Passed
  unfolding without_call
  passes e = (passed_to none e).0

  -- ---- `judge`: the ends and the budget come after

  module _ (perms : List ℕ) where
    abbrev good : Bool
    good = ends_good (space w cells perms shapes boxes) r body

    abbrev way : Option Outcome
    way = without_search w cells perms shapes boxes r body nodes front out wrong_index

    abbrev ends : Option Outcome
    ends = cond (not good) (some Unreachable) (cond (eqb r.node_budget 0) (some BudgetExceeded) none)

    pub search_refused : (o : Outcome) → some o ≡ call → some o ≡ way
    unfolding without_search
    search_refused o e = call_refused some ends o e

    pub out_bad_end : none ≡ call → good ≡ false → some Unreachable ≡ way
    unfolding without_search
    out_bad_end e g = let z : some Unreachable ≡ ends = rw g in z ∙ call_passed some ends e

    pub out_last : none ≡ call → good ≡ true → (nothing : Bool) → eqb r.node_budget 0 ≡ nothing → cond nothing (some BudgetExceeded) none ≡ way
    unfolding without_search
    out_last e g nothing z = let y : cond nothing (some BudgetExceeded) none ≡ ends = rw (g, z) in y ∙ call_passed some ends e

    pub begins : way ≡ none → Passed
    unfolding without_search
    begins e = (passed_to ends e).0

    -- a search that begins has a budget, and a call that continues it passes its tests too
    pub some_budget : way ≡ none → 0 < r.node_budget
    unfolding without_search
    some_budget e =
        let g = passed (not good) Unreachable _ (passed_to ends e).1 in
        omega (arith, eqb-false r.node_budget 0 (passed (eqb r.node_budget 0) BudgetExceeded none g.1).0)

    pub call_begins : way ≡ none → call ≡ none
    unfolding without_search without_call
    call_begins = go bad (not valid) large short
      where
        go : (b v l s : Bool) → cond b (some BadWorld) (cond v (some Unreachable) (cond l (some TooLarge) (cond s (some NoRoom) ends))) ≡ none →
            cond b (some BadWorld) (cond v (some Unreachable) (cond l (some TooLarge) (cond s (some NoRoom) none))) ≡ none
        go true v l s e = e
        go false true l s e = e
        go false false true s e = e
        go false false false true e = e
        go false false false false e = refl
