-- Two guides that search by turns, each with its own graph, policy, budget and state: one expansion each, the first guide first, while both are searching;
-- when one ends the other goes on. For No. 11 of 02: nothing that 01 asks for rests on it.
use Rattle.std.specs.Prelude.{◌≡◌, Bool, true, false, List, [], ◌∷◌, ℕ, zero, suc, ◌+◌}
use Rattle.std.proofs.Math.Option.{Option, none, some}
use Rattle.exploration.specs.Graph.{Graph}
use Rattle.exploration.specs.Policy.{Policy}
use Rattle.exploration.specs.Explore.{State, Outcome, Found, Unreachable, BudgetExceeded, Searching, advance, begin, outcome}

pub data Guide : Type 0 where
  one two : Guide

abbrev pub other : Guide → Guide
other one = two
other two = one

abbrev pub is_searching : {W : Type 0} → Outcome W → Bool
is_searching (Found t) = false
is_searching Unreachable = false
is_searching BudgetExceeded = false
is_searching Searching = true

-- who moves, where it is g's turn: g if it is searching, else the other one if that one is
abbrev pub next_by : Guide → Bool → Bool → Option Guide
next_by g true theirs = some g
next_by g false true = some (other g)
next_by g false false = none

abbrev pub movers_by : (Guide → List Guide) → Option Guide → List Guide
movers_by f none = []
movers_by f (some m) = m ∷ f m

module _ {P L A B Q M C D : Type 0} (𝓖 : Graph P L) (𝓗 : Graph Q M) (𝓟 : Policy P L A B) (𝓡 : Policy Q M C D) (b c : ℕ) where
  abbrev pub Both : Type 0
  Both = State P L A B × State Q M C D

  -- one expansion of one guide: the other's state is untouched
  abbrev pub move : Guide → Both → Both
  move one s = (advance 𝓖 𝓟 b s.0, s.1)
  move two s = (s.0, advance 𝓗 𝓡 c s.1)

  abbrev pub searching : Guide → Both → Bool
  searching one s = is_searching (outcome 𝓖 𝓟 s.0)
  searching two s = is_searching (outcome 𝓗 𝓡 s.1)

  abbrev pub next : Guide → Both → Option Guide
  next g s = next_by g (searching g s) (searching (other g) s)

  -- who moves, from g's turn on, in at most so many moves
  abbrev pub movers : ℕ → Guide → Both → List Guide
  movers zero g s = []
  movers (suc n) g s = movers_by (λ m. movers n (other m) (move m s)) (next g s)

  abbrev pub play : List Guide → Both → Both
  play [] s = s
  play (m ∷ ms) s = play ms (move m s)

  abbrev pub begin_both : Both
  begin_both = (begin 𝓖 𝓟 b, begin 𝓗 𝓡 c)

  -- the whole run of both: as many moves as the two budgets together, which are enough (Claims, `guides_by_turns`)
  abbrev pub turns : List Guide
  turns = movers (b + c) one begin_both

  -- A guide that is searching after a move of the other makes the next move: it waits for at most one expansion of the other.
  abbrev pub Fair : List Guide → Both → Type 0
  Fair [] s = Unit {0}
  Fair (m ∷ []) s = Unit {0}
  Fair (m ∷ k ∷ ms) s = (searching (other m) (move m s) ≡ true → k ≡ other m) × Fair (k ∷ ms) (move m s)
