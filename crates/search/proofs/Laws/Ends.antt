-- The state after so many expansions, by what the last of them came to: its nodes, its counts, and the outcome that the theory gives it, in the words of the
-- answer.
use Rattle.std.specs.Prelude.{◌≡◌, refl, List, [], ◌∷◌, ℕ, zero, suc, ◌*◌, ◌≤◌, length}
use Rattle.std.proofs.Math.Option.{none}
use Rattle.exploration.specs.Graph.{Graph}
use Rattle.exploration.specs.Policy.{Policy}
use Rattle.exploration.specs.Explore as explore
use Rattle.exploration.specs.Explore.{arrive, outcome, outcome_by}
use Rattle.exploration.proofs.Laws.Endings.{found_outcome}
use Rattle.world.specs.declared.Body.{Body}
use Rattle.world.specs.declared.Request.{Request}
use Rattle.world.specs.Space.{Space}
use Rattle.words.specs.Words.{feet_of}
use Rattle.steps.specs.Graph.{graph}
use Rattle.rooms.specs.declared.Feet.{Feet}
use Rattle.rooms.specs.declared.Label.{Label}
use Rattle.rooms.specs.declared.Counts.{Counts}
use Rattle.rooms.specs.Lists.{list_of}
use Rattle.rooms.specs.Rooms.{Note, nobody, nodes_of, state_of, counts_in}
use Rattle.rooms.proofs.Laws.Lists.{arrive_list}
use Rattle.rooms.proofs.Laws.Rooms.{counts_back}
use Rattle.visits.specs.declared.Aim.{Aim}
use Rattle.visits.specs.Best.{best}
use Rattle.outcomes.specs.declared.Turn.{Turn}
use Rattle.outcomes.specs.declared.Turn.TheVariants.{Rest, Going, At, By}
use Rattle.outcomes.specs.Outcomes.{counts_of, end_quiet, end_at}
use Rattle.search.specs.Turns.{after, Quiet}

abbrev pub aim_to : Request → Feet → Aim
aim_to r goal = record { budget = r.node_budget; goal = goal }

-- ---- nodes and counts

pub nodes_after_lem : (r : Request) (goal : Feet) (t : Turn) (b g : List ℕ) → (after (aim_to r goal) t b g).nodes ≡ nodes_of (counts_of t).retained b g
unfolding state_of
nodes_after_lem r goal (Rest c) b g = refl
nodes_after_lem r goal (Going c) b g = refl
nodes_after_lem r goal (At c k) b g = refl
nodes_after_lem r goal (By c k l) b g = refl

pub counts_after_lem : (r : Request) (goal : Feet) (t : Turn) (b g : List ℕ) → counts_in (after (aim_to r goal) t b g) ≡ counts_of t
unfolding state_of
counts_after_lem r goal (Rest c) b g = counts_back b g c
counts_after_lem r goal (Going c) b g = counts_back b g c
counts_after_lem r goal (At c k) b g = counts_back b g c
counts_after_lem r goal (By c k l) b g = counts_back b g c

-- ---- the outcome

-- the last expansion ended the search, or nothing waits after it
abbrev pub Silent : Aim → List ℕ → List ℕ → Turn → Type 0
Silent aim b g (Rest c) = Quiet aim b g (Rest c)
Silent aim b g (Going c) = Quiet aim b g (Rest c)
Silent aim b g (At c k) = Unit {0}
Silent aim b g (By c k l) = Unit {0}

module _ (sp : Space) (r : Request) (body : Body) where
  abbrev 𝓖 : Graph Feet Label
  𝓖 = graph sp r body

  abbrev 𝓟 : Policy Feet Label Note ℕ
  𝓟 = best (feet_of r.goal)

  abbrev aim : Aim
  aim = aim_to r (feet_of r.goal)

  quiet_end : (d : ℕ) → outcome_by 𝓖 𝓟 none none d ≡ end_quiet d
  quiet_end zero = refl
  quiet_end (suc d) = refl

  rest_end : (c : Counts) (b g : List ℕ) → Quiet aim b g (Rest c) → outcome 𝓖 𝓟 (state_of b g c) ≡ end_quiet c.dropped
  unfolding outcome state_of
  rest_end c b g q = rw q (quiet_end c.dropped)

  found_end : (c : Counts) (k : ℕ) (t : List (Feet × Label)) (b g : List ℕ) → c.retained ≤ nobody → 64 * c.retained ≤ length b
      → outcome 𝓖 𝓟 (arrive (state_of b g c) k t) ≡ explore.Found (list_of b c.retained k t)
  found_end c k t b g small room = found_outcome 𝓖 𝓟 (arrive (state_of b g c) k t) _ (arrive_list b g c k t small room)

  pub silent_end : (t : Turn) (b g : List ℕ) → (counts_of t).retained ≤ nobody → 64 * (counts_of t).retained ≤ length b → Silent aim b g t
      → outcome 𝓖 𝓟 (after aim t b g) ≡ end_at b (feet_of r.goal) t
  silent_end (Rest c) b g small room q = rest_end c b g q
  silent_end (Going c) b g small room q = rest_end c b g q
  silent_end (At c k) b g small room q = found_end c k [] b g small room
  silent_end (By c k l) b g small room q = found_end c k ((feet_of r.goal, l) ∷ []) b g small room
