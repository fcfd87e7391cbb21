-- A run goes on by one expansion, and an expansion that ends the search ends the run.
use Rattle.std.specs.Prelude.{◌≡◌, refl, List, ℕ, ◌+◌, ◌*◌, ◌-◌, ◌≤◌}
use Rattle.std.proofs.Common.{sym, ap, subst, ◌∙◌, arith}
use Rattle.exploration.specs.Explore.{advance, run}
use Rattle.exploration.proofs.Laws.Loops.{run_add}
use Rattle.exploration.proofs.Laws.Expansions.{Done, at_found, at_end, done_run}
use Rattle.world.specs.declared.Body.{Body}
use Rattle.world.specs.declared.Request.{Request}
use Rattle.world.specs.Space.{Space}
use Rattle.steps.specs.Graph.{graph}
use Rattle.rooms.specs.declared.Counts.{Counts}
use Rattle.rooms.specs.Rooms.{state_of}
use Rattle.visits.specs.declared.Aim.{Aim}
use Rattle.visits.specs.Best.{best}
use Rattle.visits.proofs.Laws.Visits.{kept_none, kept_trans, near_none, near_trans, near_le}
use Rattle.outcomes.specs.declared.Turn.{Turn}
use Rattle.outcomes.specs.declared.Turn.TheVariants.{Rest, Going, At, By}
use Rattle.search.specs.Turns.{most_steps, after, Quiet, Turned}
use Rattle.search.specs.Runs.{Spun}

module _ {aim : Aim} {sp : Space} {r : Request} {body : Body} where
  pub spun_none : {c : Counts} (a f : List ℕ) → c.retained ≤ aim.budget → Spun aim sp r body c 0 (Going c) a f a f
  spun_none a f h = record { state = refl; kept = kept_none _ a f; near = near_none h; quiet = tt }

  pub spun_next : {c s : Counts} {t : Turn} {a f b g x y : List ℕ} (n : ℕ) → Spun aim sp r body c n (Going s) a f b g → Turned aim sp r body s t b g x y → Spun aim sp r body c (n + 1) t a f x y
  spun_next {c} {a = a} {f = f} n u v = record {
    state = v.state ∙ ap (advance (graph sp r body) (best aim.goal) aim.budget) u.state ∙ sym (run_add (graph sp r body) (best aim.goal) aim.budget n 1 (state_of a f c));
    kept = kept_trans v.near.more u.kept v.kept;
    near = near_le ((most_steps + 1) * (n + 1)) (omega arith) (near_trans u.near v.near);
    quiet = v.quiet;
  }

  spun_end : {c : Counts} {t : Turn} {a f b g : List ℕ} (n m : ℕ) → n ≤ m → Done (graph sp r body) (best aim.goal) (after aim t b g) → Spun aim sp r body c n t a f b g → Spun aim sp r body c m t a f b g
  spun_end {c} {a = a} {f = f} n m h o u = record {
    state = let e : n + (m - n) ≡ m = omega arith in
        u.state ∙ sym (done_run (graph sp r body) (best aim.goal) aim.budget (m - n) _ (subst (Done (graph sp r body) (best aim.goal)) u.state o))
        ∙ sym (run_add (graph sp r body) (best aim.goal) aim.budget n (m - n) (state_of a f c))
        ∙ ap (λ (i : ℕ). run (graph sp r body) (best aim.goal) aim.budget i (state_of a f c)) e;
    kept = u.kept;
    near = near_le ((most_steps + 1) * m) (omega arith) u.near;
    quiet = u.quiet;
  }

-- a turn that does not go on, so that the search has ended

abbrev pub Ended : Turn → Type 0
Ended (Rest c) = Unit {0}
Ended (Going c) = ⊥
Ended (At c k) = Unit {0}
Ended (By c k l) = Unit {0}

over : (aim : Aim) (sp : Space) (r : Request) (body : Body) (b g : List ℕ) (t : Turn) → Ended t → Quiet aim b g t → Done (graph sp r body) (best aim.goal) (after aim t b g)
unfolding state_of
over aim sp r body b g (Rest c) e h = at_end refl h
over aim sp r body b g (Going c) e h = absurd e
over aim sp r body b g (At c k) e h = at_found _ refl
over aim sp r body b g (By c k l) e h = at_found _ refl

pub spun_over : {aim : Aim} {sp : Space} {r : Request} {body : Body} {c : Counts} (t : Turn) {a f b g : List ℕ} (n m : ℕ) → n ≤ m → Ended t → Spun aim sp r body c n t a f b g → Spun aim sp r body c m t a f b g
spun_over {aim} {sp} {r} {body} t {b = b} {g = g} n m h e u = spun_end n m h (over aim sp r body b g t e u.quiet) u
