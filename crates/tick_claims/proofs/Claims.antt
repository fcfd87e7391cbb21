-- What begin and continue promise of a search that nobody touches between its calls (02, No. 10): one theorem a claim, in the words of Calls.
use Rattle.std.specs.Prelude.{ℕ, ◌≤◌, ◌≡◌, refl, false, List, ◌⊎◌, ◌≢◌, length, Ok, Err}
use Rattle.std.proofs.Common.{arith, sym, ap, ◌∙◌, inl, inr}
use Rattle.std.proofs.Math.Option.{none}
use Rattle.exploration.specs.Lists.{total}
use Rattle.exploration.specs.Explore as explore
use Rattle.world.specs.declared.Window.{Window}
use Rattle.world.specs.declared.Body.{Body}
use Rattle.world.specs.declared.Request.{Request}
use Rattle.world.specs.Space.{Space, space}
use Rattle.rooms.specs.declared.Feet.{Feet}
use Rattle.rooms.specs.declared.Label.{Label}
use Rattle.rooms.specs.declared.Counts.{Counts}
use Rattle.rooms.specs.Rooms.{counts_in}
use Rattle.outcomes.specs.declared.Outcome.{Outcome}
use Rattle.outcomes.specs.declared.Slice.TheVariants.{Searching, Ended}
use Rattle.outcomes.specs.declared.Refusal.TheVariants.{BadProgress}
use Rattle.outcomes.specs.Ticks.{Ticked, tick_by, nothing_written}
use Rattle.refusals.specs.Refusals.{without_search}
use Rattle.search.specs.Ticks.{came_to}
use Rattle.claims.specs.Words.{InF64, after}
use Rattle.tick_claims.specs.Calls.{Lots, LeftByBegin, LeftByContinue, Calls, EndsAlike}
use Rattle.tick_claims.proofs.Divided.{StandsAfter, all_stand}
use Rattle.tick_claims.proofs.Ended.{budget_ends, ends_alike, closed_few, refused_after}

-- A search that begins, of a request of f64s, as every caller's are; h is what begin left, and k what the calls after it left, each asked for one lot of expansions.
module _ (w : Window) (cells perms shapes boxes : List ℕ) (r : Request) (body : Body) (f : InF64 r) (nodes front out : List ℕ)
    (goes : without_search w cells perms shapes boxes r body (length nodes) (length front) (length out) false ≡ none)
    (h k : Ticked) (lots : List ℕ) (begins : LeftByBegin w cells perms shapes boxes r body nodes front out h) (each : Lots lots) (calls : Calls w cells perms shapes boxes r body h lots k) where
  abbrev sp : Space
  sp = space w cells perms shapes boxes

  -- what the whole search has come to after as many expansions, and what it is told as
  abbrev came : explore.Outcome (Feet × Label)
  came = came_to sp r body (after sp r body (total lots))

  left : StandsAfter w cells perms shapes boxes r body f nodes front out goes (total lots) k
  left = all_stand w cells perms shapes boxes r body f nodes front out goes begins each calls

  told : (x : explore.Outcome (Feet × Label)) → came ≡ x → k.tick ≡ tick_by x (counts_in (after sp r body (total lots)))
  told x e = ap (λ (m : Ticked). m.tick) left.is ∙ ap (λ (y : explore.Outcome (Feet × Label)). tick_by y (counts_in (after sp r body (total lots)))) e

  -- The search goes on, or it has ended: "however the expansions are divided, the final outcome, list and node room equal one whole search". So no call of it is refused, with 12 or with
  -- another number.
  pub untouched_ends_alike : ((c : Counts) × (k.tick ≡ Ok (Searching c))) ⊎ EndsAlike w cells perms shapes boxes r body nodes front out k
  untouched_ends_alike = go came refl
    where
      alike : (x : explore.Outcome (Feet × Label)) → came ≡ x → (x ≢ explore.Searching) → EndsAlike w cells perms shapes boxes r body nodes front out k
      alike x e n = ends_alike w cells perms shapes boxes r body f nodes front out goes (total lots) left (λ s. n (sym e ∙ s))

      go : (x : explore.Outcome (Feet × Label)) → came ≡ x → ((c : Counts) × (k.tick ≡ Ok (Searching c))) ⊎ EndsAlike w cells perms shapes boxes r body nodes front out k
      go (explore.Found t) e = inr (alike (explore.Found t) e (λ p. let z : ◌≡◌ {A = ℕ} 0 1 = cc in omega arith))
      go explore.Unreachable e = inr (alike explore.Unreachable e (λ p. let z : ◌≡◌ {A = ℕ} 0 1 = cc in omega arith))
      go explore.BudgetExceeded e = inr (alike explore.BudgetExceeded e (λ p. let z : ◌≡◌ {A = ℕ} 0 1 = cc in omega arith))
      go explore.Searching e = inl (counts_in (after sp r body (total lots)), told explore.Searching e)

  -- a call that answered an outcome has ended the search
  over : (o : Outcome) (n : ℕ) (c : Counts) → k.tick ≡ Ok (Ended o n c) → came ≢ explore.Searching
  over o n c e s = let y = sym e ∙ told explore.Searching s in let z : ◌≡◌ {A = ℕ} 0 1 = cc in omega arith

  -- "and a search ends after at most budget closings": whenever it ends, no more nodes are closed than the budget;
  pub few_closings : (o : Outcome) (n : ℕ) (c : Counts) → k.tick ≡ Ok (Ended o n c) → c.closed ≤ r.node_budget
  few_closings o n c e = closed_few w cells perms shapes boxes r body f nodes front out goes (total lots) left (over o n c e) o n c e

  -- and lots that are together as many as the budget have ended it.
  pub untouched_ends : r.node_budget ≤ total lots → EndsAlike w cells perms shapes boxes r body nodes front out k
  untouched_ends most = ends_alike w cells perms shapes boxes r body f nodes front out goes (total lots) left (budget_ends sp r body (total lots) most)

  -- "12 BadProgress, nothing written, for .. a search already ended": whatever counts and whatever number of expansions the next call is handed.
  pub ended_is_refused : (o : Outcome) (n : ℕ) (c : Counts) → k.tick ≡ Ok (Ended o n c) →
      (d : Counts) (expansions : ℕ) (m : Ticked) → LeftByContinue w cells perms shapes boxes r body k d expansions m → m ≡ nothing_written (Err BadProgress) k.nodes k.front k.out
  ended_is_refused o n c e = refused_after w cells perms shapes boxes r body f nodes front out goes (total lots) left (over o n c e)
