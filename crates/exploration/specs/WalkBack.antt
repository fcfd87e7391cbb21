-- The test of a list: whether it is a route, as a walk-back answers it. That it is true exactly for routes is `route_test_exact` of Claims. And where a list
-- that is none breaks off (02, No. 3): that this is its first pair that is none of the graph's is `breaks_at_the_first_pair` of Claims.
use Rattle.std.specs.Prelude.{◌≡◌, Bool, true, false, ◌&&◌, ◌||◌, cond, List, [], ◌∷◌, ◌++◌, ℕ, suc, ◌+◌, length}
use Rattle.exploration.specs.Graph.{Graph, has_step, connects}

-- How a list goes on from a point: through to the goal; each pair by the graph, and yet to another end; or to a first pair that is none of the graph's: its later
-- point's place, the point that it leaves, its later point with its label, and whether it is the last pair.
pub data Going (P L : Type 0) : Type 0 where
  Through : Going P L
  Astray : Going P L
  Broken : ℕ → P → P × L → Bool → Going P L

module _ {P L : Type 0} (𝓖 : Graph P L) where
  open 𝓖 use {same, alike, start, start_label, goal}

  abbrev pub is_last : List (P × L) → Bool
  is_last [] = true
  is_last (w ∷ ws) = false

  -- from p by the list to the goal: by a graph step and on from there, or at the last pair by a connector
  unfoldable pub is_way : P → List (P × L) → Bool
  is_way p [] = same p goal
  is_way p (w ∷ ws) = (has_step 𝓖 p w && is_way w.0 ws) || (is_last ws && (connects 𝓖 p w && same w.0 goal))

  -- an empty list is no route
  unfoldable pub is_route : List (P × L) → Bool
  is_route [] = false
  is_route (w ∷ ws) = same start w.0 && (alike start_label w.1 && is_way w.0 ws)

  -- a pair is the graph's: a graph step, or at the last pair a connector to the goal
  abbrev pub joined : Bool → P → P × L → Bool
  joined last p w = has_step 𝓖 p w || (last && (connects 𝓖 p w && same w.0 goal))

  -- from p by the list, whose first point has the place k
  unfoldable pub going : ℕ → P → List (P × L) → Going P L
  going k p [] = cond (same p goal) Through Astray
  going k p (w ∷ ws) = cond (joined (is_last ws) p w) (going (suc k) w.0 ws) (Broken k p w (is_last ws))

  -- where a list of pairs from p on ends
  abbrev pub last_of : P → List (P × L) → P
  last_of p [] = p
  last_of p (w ∷ ws) = last_of w.0 ws

  -- each pair of a list from p on is a graph step
  abbrev pub steps_along : P → List (P × L) → Bool
  steps_along p [] = true
  steps_along p (w ∷ ws) = has_step 𝓖 p w && steps_along w.0 ws

  -- The first pair of a list from p on that is none of the graph's: those before it are graph steps. The list's first point has the place k, and m is the place of the
  -- pair's later point w; q is the point that it leaves.
  pub record FirstBreak (k : ℕ) (p : P) (ws : List (P × L)) (m : ℕ) (q : P) (w : P × L) (last : Bool) : Type 0 where
    pub before : List (P × L)
    pub behind : List (P × L)
    pub list : ws ≡ before ++ (w ∷ behind)
    pub place : m ≡ k + length before
    pub leaves : q ≡ last_of p before
    pub last_pair : last ≡ is_last behind
    pub steps_before : steps_along p before ≡ true
    pub none : joined last q w ≡ false
