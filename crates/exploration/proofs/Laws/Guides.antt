-- Two guides by turns: each makes the expansions that it would make alone, both come to an end, and the turns are fair.
use Rattle.std.specs.Prelude.{◌≡◌, refl, Bool, true, false, List, [], ◌∷◌, ℕ, zero, suc, ◌+◌, ◌≤◌}
use Rattle.std.proofs.Common.{ap, subst, ◌∙◌, ⊎_elim, arith}
use Rattle.std.proofs.Math.Option.{Option, none, some}
use Rattle.exploration.specs.Lists.{count}
use Rattle.exploration.specs.Graph.{Graph, GraphLaws}
use Rattle.exploration.specs.Policy.{Policy, PolicyLaws}
use Rattle.exploration.specs.Explore.{State, Outcome, Found, Unreachable, BudgetExceeded, Searching, advance, run, begin, final, outcome}
use Rattle.exploration.specs.Guides.{Guide, one, two, other, is_searching, next_by, movers_by, Both, move, searching, next, movers, play, begin_both, turns, Fair}
use Rattle.exploration.proofs.Laws.Endings.{done_ended, ended_done, done_final}
use Rattle.exploration.proofs.Laws.Expansions.{Sound, sound_room, Done, full_done, advanced, begin_sound}
use Rattle.exploration.proofs.Laws.Invariant.{closed_count}
use Rattle.exploration.proofs.Laws.Lists.{true_false, count_le}

module _ {P L A B : Type 0} (𝓖 : Graph P L) (𝓟 : Policy P L A B) where
  idle_done : (s : State P L A B) → is_searching (outcome 𝓖 𝓟 s) ≡ false → Done 𝓖 𝓟 s
  idle_done s e = ended_done 𝓖 𝓟 s (λ q. true_false (ap is_searching q) e)

  done_idle : (s : State P L A B) → Done 𝓖 𝓟 s → is_searching (outcome 𝓖 𝓟 s) ≡ true → ⊥
  done_idle s d = go (outcome 𝓖 𝓟 s) refl
    where
      go : (x : Outcome (P × L)) → outcome 𝓖 𝓟 s ≡ x → is_searching x ≡ true → ⊥
      go (Found t) q e = true_false e refl
      go Unreachable q e = true_false e refl
      go BudgetExceeded q e = true_false e refl
      go Searching q e = done_ended 𝓖 𝓟 s d q

  module _ (𝓛 : GraphLaws 𝓖) (𝓠 : PolicyLaws 𝓟) (b : ℕ) where
    -- an expansion of a search that goes on closes a node
    closes : (s : State P L A B) → Sound 𝓖 𝓟 b s → is_searching (outcome 𝓖 𝓟 s) ≡ true → suc (closed_count 𝓖 𝓟 s.nodes) ≤ closed_count 𝓖 𝓟 (advance 𝓖 𝓟 b s).nodes
    closes s g e = ⊎_elim (λ r. absurd (done_idle s r e)) (λ h. h) (advanced 𝓖 𝓟 𝓛 𝓠 b s g).2

    closed_room : (s : State P L A B) → Sound 𝓖 𝓟 b s → closed_count 𝓖 𝓟 s.nodes ≤ b
    closed_room s g = omega (arith, sound_room 𝓖 𝓟 g, count_le (λ n. n.closed) s.nodes)

-- who moves next, by its three cases
data Next (g : Guide) (mine theirs : Bool) : Option Guide → Type 0 where
  own : mine ≡ true → Next g mine theirs (some g)
  pass : mine ≡ false → theirs ≡ true → Next g mine theirs (some (other g))
  nobody : mine ≡ false → theirs ≡ false → Next g mine theirs none

next_is : (g : Guide) (mine theirs : Bool) → Next g mine theirs (next_by g mine theirs)
next_is g true theirs = own refl
next_is g false true = pass refl refl
next_is g false false = nobody refl refl

abbrev is_one : Guide → Bool
is_one one = true
is_one two = false

abbrev is_two : Guide → Bool
is_two one = false
is_two two = true

module _ {P L A B Q M C D : Type 0} (𝓖 : Graph P L) (𝓗 : Graph Q M) (𝓟 : Policy P L A B) (𝓡 : Policy Q M C D) (b c : ℕ) where
  abbrev Pair : Type 0
  Pair = Both 𝓖 𝓗 𝓟 𝓡 b c

  abbrev moved : Guide → Pair → Pair
  moved m s = move 𝓖 𝓗 𝓟 𝓡 b c m s

  -- each guide makes its own moves
  alone : (ms : List Guide) (s : Pair) → play 𝓖 𝓗 𝓟 𝓡 b c ms s ≡ (run 𝓖 𝓟 b (count is_one ms) s.0, run 𝓗 𝓡 c (count is_two ms) s.1)
  alone [] s = refl
  alone (one ∷ ms) s = alone ms (advance 𝓖 𝓟 b s.0, s.1)
  alone (two ∷ ms) s = alone ms (s.0, advance 𝓗 𝓡 c s.1)

  fair_after : (n : ℕ) (m : Guide) (s : Pair) (o : Option Guide) → Next (other m) (searching 𝓖 𝓗 𝓟 𝓡 b c (other m) (moved m s)) (searching 𝓖 𝓗 𝓟 𝓡 b c (other (other m)) (moved m s)) o
      → Fair 𝓖 𝓗 𝓟 𝓡 b c (movers_by (λ k. movers 𝓖 𝓗 𝓟 𝓡 b c n (other k) (moved k (moved m s))) o) (moved m s)
      → Fair 𝓖 𝓗 𝓟 𝓡 b c (m ∷ movers_by (λ k. movers 𝓖 𝓗 𝓟 𝓡 b c n (other k) (moved k (moved m s))) o) s
  fair_after n m s o (own e) f = (λ h. refl, f)
  fair_after n m s o (pass e d) f = (λ h. absurd (true_false h e), f)
  fair_after n m s o (nobody e d) f = tt

  fair_move : (n : ℕ) (m : Guide) (s : Pair) → Fair 𝓖 𝓗 𝓟 𝓡 b c (movers 𝓖 𝓗 𝓟 𝓡 b c n (other m) (moved m s)) (moved m s) → Fair 𝓖 𝓗 𝓟 𝓡 b c (m ∷ movers 𝓖 𝓗 𝓟 𝓡 b c n (other m) (moved m s)) s
  fair_move zero m s f = tt
  fair_move (suc n) m s f = fair_after n m s (next 𝓖 𝓗 𝓟 𝓡 b c (other m) (moved m s)) (next_is (other m) _ _) f

  pub movers_fair : (n : ℕ) (g : Guide) (s : Pair) → Fair 𝓖 𝓗 𝓟 𝓡 b c (movers 𝓖 𝓗 𝓟 𝓡 b c n g s) s
  movers_fair zero g s = tt
  movers_fair (suc n) g s = go (next 𝓖 𝓗 𝓟 𝓡 b c g s) (λ m. movers_fair n (other m) (moved m s))
    where
      go : (o : Option Guide) → ((m : Guide) → Fair 𝓖 𝓗 𝓟 𝓡 b c (movers 𝓖 𝓗 𝓟 𝓡 b c n (other m) (moved m s)) (moved m s)) → Fair 𝓖 𝓗 𝓟 𝓡 b c (movers_by (λ m. movers 𝓖 𝓗 𝓟 𝓡 b c n (other m) (moved m s)) o) s
      go none f = tt
      go (some m) f = fair_move n m s (f m)

  module _ (𝓛 : GraphLaws 𝓖) (𝓜 : GraphLaws 𝓗) (𝓠 : PolicyLaws 𝓟) (𝓢 : PolicyLaws 𝓡) where
    abbrev BothSound : Pair → Type 0
    BothSound s = Sound 𝓖 𝓟 b s.0 × Sound 𝓗 𝓡 c s.1

    abbrev BothDone : Pair → Type 0
    BothDone s = Done 𝓖 𝓟 s.0 × Done 𝓗 𝓡 s.1

    abbrev closed_both : Pair → ℕ
    closed_both s = closed_count 𝓖 𝓟 s.0.nodes + closed_count 𝓗 𝓡 s.1.nodes

    sound_move : (m : Guide) (s : Pair) → BothSound s → BothSound (moved m s)
    sound_move one s g = ((advanced 𝓖 𝓟 𝓛 𝓠 b s.0 g.0).0, g.1)
    sound_move two s g = (g.0, (advanced 𝓗 𝓡 𝓜 𝓢 c s.1 g.1).0)

    closed_move : (m : Guide) (s : Pair) → BothSound s → searching 𝓖 𝓗 𝓟 𝓡 b c m s ≡ true → suc (closed_both s) ≤ closed_both (moved m s)
    closed_move one s g e = omega (arith, closes 𝓖 𝓟 𝓛 𝓠 b s.0 g.0 e)
    closed_move two s g e = omega (arith, closes 𝓗 𝓡 𝓜 𝓢 c s.1 g.1 e)

    nobody_done : (g : Guide) (s : Pair) → searching 𝓖 𝓗 𝓟 𝓡 b c g s ≡ false → searching 𝓖 𝓗 𝓟 𝓡 b c (other g) s ≡ false → BothDone s
    nobody_done one s d e = (idle_done 𝓖 𝓟 s.0 d, idle_done 𝓗 𝓡 s.1 e)
    nobody_done two s d e = (idle_done 𝓖 𝓟 s.0 e, idle_done 𝓗 𝓡 s.1 d)

    -- as many moves as the two budgets together are enough
    settles : (n : ℕ) (g : Guide) (s : Pair) → BothSound s → b + c ≤ n + closed_both s → BothDone (play 𝓖 𝓗 𝓟 𝓡 b c (movers 𝓖 𝓗 𝓟 𝓡 b c n g s) s)
    settles zero g s i h = (full_done 𝓖 𝓟 𝓛 𝓠 b s.0 i.0 (omega (arith, closed_room 𝓗 𝓡 𝓜 𝓢 c s.1 i.1)), full_done 𝓗 𝓡 𝓜 𝓢 c s.1 i.1 (omega (arith, closed_room 𝓖 𝓟 𝓛 𝓠 b s.0 i.0)))
    settles (suc n) g s i h = go (next 𝓖 𝓗 𝓟 𝓡 b c g s) (next_is g _ _) (λ m e. settles n (other m) (moved m s) (sound_move m s i) (omega (arith, closed_move m s i e)))
      where
        go : (o : Option Guide) → Next g (searching 𝓖 𝓗 𝓟 𝓡 b c g s) (searching 𝓖 𝓗 𝓟 𝓡 b c (other g) s) o
            → ((m : Guide) → searching 𝓖 𝓗 𝓟 𝓡 b c m s ≡ true → BothDone (play 𝓖 𝓗 𝓟 𝓡 b c (movers 𝓖 𝓗 𝓟 𝓡 b c n (other m) (moved m s)) (moved m s)))
            → BothDone (play 𝓖 𝓗 𝓟 𝓡 b c (movers_by (λ m. movers 𝓖 𝓗 𝓟 𝓡 b c n (other m) (moved m s)) o) s)
        go o (own e) f = f g e
        go o (pass e d) f = f (other g) d
        go o (nobody e d) f = nobody_done g s e d

    pub as_alone : play 𝓖 𝓗 𝓟 𝓡 b c (turns 𝓖 𝓗 𝓟 𝓡 b c) (begin_both 𝓖 𝓗 𝓟 𝓡 b c) ≡ (final 𝓖 𝓟 b, final 𝓗 𝓡 c)
    as_alone = a ∙ (λ j. (done_final 𝓖 𝓟 𝓛 𝓠 b (count is_one ms) r.0 j, done_final 𝓗 𝓡 𝓜 𝓢 c (count is_two ms) r.1 j))
      where
        ms : List Guide
        ms = turns 𝓖 𝓗 𝓟 𝓡 b c

        a : play 𝓖 𝓗 𝓟 𝓡 b c ms (begin_both 𝓖 𝓗 𝓟 𝓡 b c) ≡ (run 𝓖 𝓟 b (count is_one ms) (begin 𝓖 𝓟 b), run 𝓗 𝓡 c (count is_two ms) (begin 𝓗 𝓡 c))
        a = alone ms (begin_both 𝓖 𝓗 𝓟 𝓡 b c)

        r : Done 𝓖 𝓟 (run 𝓖 𝓟 b (count is_one ms) (begin 𝓖 𝓟 b)) × Done 𝓗 𝓡 (run 𝓗 𝓡 c (count is_two ms) (begin 𝓗 𝓡 c))
        r = subst BothDone a (settles (b + c) one (begin_both 𝓖 𝓗 𝓟 𝓡 b c) (begin_sound 𝓖 𝓟 𝓛 𝓠 b, begin_sound 𝓗 𝓡 𝓜 𝓢 c) (omega arith))
