-- A search in slices (02, No. 10): begin, then one call of continue after the other, "with tables, body, request, node budget, counts and rooms untouched between
-- calls". Each call is told by its contract, and all are handed the same output. Then: what it means that such a search ends as one whole search does. Definitions
-- only.
use Rattle.std.specs.Prelude.{ℕ, ◌≤◌, ◌≡◌, false, List, [], ◌∷◌, length, replicate, Ok}
use Rattle.world.specs.declared.Body.{Body}
use Rattle.world.specs.declared.Request.{Request}
use Rattle.world.specs.declared.Window.{Window}
use Rattle.world.specs.Space.{space}
use Rattle.rooms.specs.declared.Counts.{Counts}
use Rattle.outcomes.specs.declared.Outcome.{Outcome}
use Rattle.outcomes.specs.declared.Answer.{Answer}
use Rattle.outcomes.specs.declared.Slice.TheVariants.{Searching, Ended}
use Rattle.outcomes.specs.Ticks.{Ticked, Gives, GoesFrom}
use Rattle.index.specs.Size.{wrong_size}
use Rattle.openings.specs.Openings.{start_state, begun_search}
use Rattle.search.specs.FindWalkPath.{found, nodes_after, front_after, out_after}
use Rattle.search.specs.Ticks.{expanded_in, continued_search}

-- "each continue with a number of expansions of 1 to 4,096": how many each call is asked for
abbrev pub Lots : List ℕ → Type 0
Lots [] = Unit {0}
Lots (n ∷ lots) = (1 ≤ n) × (n ≤ 4096) × Lots lots

-- The whole search has an index room besides (02, No. 7): any of a right size.
abbrev pub RightIndex : Request → List ℕ → Type 0
RightIndex r index = wrong_size (length index) r.node_budget ≡ false

module _ (w : Window) (cells perms shapes boxes : List ℕ) (r : Request) (body : Body) where
  -- ---- the calls: the tables, the request and the body are the same in all of them

  -- h is what `begin_search` promises of rooms and an output with these bytes: its two promises
  pub record LeftByBegin (nodes front out : List ℕ) (h : Ticked) : Type 0 where
    pub holds : Gives (begun_search w cells perms shapes boxes r body nodes front out) h.tick h.nodes h.front h.out
    pub goes : GoesFrom (start_state (space w cells perms shapes boxes) r body) h.tick h.nodes h.front

  -- k is what `continue_search` promises, asked for n expansions, of the rooms and the output that h has, and of these counts: its two promises
  pub record LeftByContinue (h : Ticked) (c : Counts) (n : ℕ) (k : Ticked) : Type 0 where
    pub holds : Gives (continued_search w cells perms shapes boxes r body h.nodes h.front h.out c n) k.tick k.nodes k.front k.out
    pub goes : GoesFrom (expanded_in w cells perms shapes boxes r body h.nodes h.front h.out c n) k.tick k.nodes k.front

  -- Calls of continue, from what one call left to what the last of them left: each while the search goes on, with the counts of the call before it and on the
  -- rooms and the output that this left.
  pub data Calls : Ticked → List ℕ → Ticked → Type 0 where
    no_call : {h : Ticked} → Calls h [] h
    next_call : {h m k : Ticked} {lots : List ℕ} (c : Counts) (n : ℕ) → h.tick ≡ Ok (Searching c) → LeftByContinue h c n m → Calls m lots k → Calls h (n ∷ lots) k

  -- ---- one whole search on the rooms and the output as they were before begin

  module _ (nodes front out : List ℕ) where
    abbrev pub whole_answer : List ℕ → Answer
    whole_answer index = found w cells perms shapes boxes r body (length nodes) (length front) (length index) (length out)

    -- a call that answered the outcome, and left what the whole search leaves
    pub record EndsAlike (k : Ticked) : Type 0 where
      pub outcome : Outcome
      pub count : ℕ
      pub counts : Counts
      pub ended : k.tick ≡ Ok (Ended outcome count counts)
      -- "the final outcome", with the number of waypoints, of retained and of closed nodes
      pub answer : (index : List ℕ) → RightIndex r index → record { outcome = outcome; count = count; retained = counts.retained; closed = counts.closed } ≡ whole_answer index
      -- "list"
      pub output : (index : List ℕ) → RightIndex r index → k.out ≡ out_after w cells perms shapes boxes r body nodes front index out
      -- "and node room equal one whole search"
      pub node_room_lem : (index : List ℕ) → RightIndex r index → k.nodes ≡ nodes_after w cells perms shapes boxes r body nodes front index out
      -- "The frontier room is zeroed when it ends", as the whole search leaves it
      pub zeroed : k.front ≡ replicate (length front) 0
      pub front_room_lem : (index : List ℕ) → RightIndex r index → k.front ≡ front_after w cells perms shapes boxes r body nodes front index out
