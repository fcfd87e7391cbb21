-- Bounded exploration of a graph under a policy. An expansion picks a waiting node, closes it, ends the search where the node is at the goal or has a
-- connector, and else visits the node's steps in order: a step to a known point may re-parent an open node there, a step to a new point retains it while the
-- budget has room and else counts it as dropped. The search goes on until the goal is found or nothing waits.
use Rattle.std.specs.Prelude.{Bool, true, false, ℕ, zero, suc, ltb, length, set}
use Rattle.std.proofs.Math.Option.{Option, none, some}
use mathlib.Core.List.{List, [], ◌∷◌, ◌++◌, map, reverse_aux}
use Rattle.exploration.specs.Lists.{nth}
use Rattle.exploration.specs.Graph.{Graph}
use Rattle.exploration.specs.Policy.{Node, Policy}

-- the retained nodes in discovery order, the policy's book, how many nodes were closed, how many new points were dropped, and the list once it is found
pub record State (P L A B : Type 0) : Type 0 where
  pub nodes : List (Node P L A)
  pub book : B
  pub closings : ℕ
  pub dropped : ℕ
  pub found : Option (List (P × L))

-- `Searching` is the outcome of a search that has not ended yet.
pub data Outcome (W : Type 0) : Type 0 where
  Found : List W → Outcome W
  Unreachable BudgetExceeded Searching : Outcome W

-- What a graph step asks for, whatever the budget is: nothing, a node put in the place of another, or a new node.
pub data Effect (P L A B : Type 0) : Type 0 where
  skip : Effect P L A B
  reparent : ℕ → Node P L A → B → Effect P L A B
  retain : Node P L A → B → Effect P L A B

-- ---- nodes and lists of nodes

module _ {P L A : Type 0} where
  abbrev pub waypoint : Node P L A → P × L
  waypoint n = (n.point, n.label)

  -- an open node reached from the node at place k
  abbrev pub child : ℕ → P → L → A → Node P L A
  child k p l a = record { point = p; label = l; parent = some k; closed = false; note = a }

  -- the waypoints from the node at a place back over its parents, over at most so many of them
  abbrev pub trace_at : (Option ℕ → List (P × L)) → Option (Node P L A) → List (P × L)
  trace_at r none = []
  trace_at r (some n) = waypoint n ∷ r n.parent

  abbrev pub trace : ℕ → List (Node P L A) → Option ℕ → List (P × L)
  trace zero ns o = []
  trace (suc f) ns none = []
  trace (suc f) ns (some k) = trace_at (trace f ns) (nth ns k)

  abbrev pub head_or : Bool → Node P L A → Option (ℕ × Node P L A) → Option (ℕ × Node P L A)
  head_or true n r = some (0, n)
  head_or false n none = none
  head_or false n (some r) = some (suc r.0, r.1)

module _ {P L A : Type 0} (𝓖 : Graph P L) where
  -- the first node at a point, with its place
  abbrev pub seek : List (Node P L A) → P → Option (ℕ × Node P L A)
  seek [] q = none
  seek (n ∷ ns) q = head_or (𝓖.same n.point q) n (seek ns q)

module _ {P L : Type 0} (𝓖 : Graph P L) where
  open 𝓖 use {same, goal, connector}

  abbrev pub ending_by : Bool → Option L → Option (List (P × L))
  ending_by true o = some []
  ending_by false none = none
  ending_by false (some l) = some ((goal, l) ∷ [])

  -- where the search ends once p is closed, what comes after p in its list: nothing at the goal, the goal where p has a connector
  unfoldable pub ending : P → Option (List (P × L))
  ending p = ending_by (same p goal) (connector p)

-- ---- one graph step

module _ {P L A B : Type 0} where
  abbrev pub points : State P L A B → List P
  points s = map (λ n. n.point) s.nodes

  -- a new node is kept, or it is dropped and counted
  abbrev pub keep_or_drop : Bool → State P L A B → Node P L A → B → State P L A B
  keep_or_drop true s n g = record { nodes = s.nodes ++ (n ∷ []); book = g; closings = s.closings; dropped = s.dropped; found = s.found }
  keep_or_drop false s n g = record { nodes = s.nodes; book = s.book; closings = s.closings; dropped = suc s.dropped; found = s.found }

  -- what the budget makes of an effect; nothing else sees the budget
  abbrev pub apply : ℕ → State P L A B → Effect P L A B → State P L A B
  apply b s skip = s
  apply b s (reparent j n g) = record { nodes = set s.nodes j n; book = g; closings = s.closings; dropped = s.dropped; found = s.found }
  apply b s (retain n g) = keep_or_drop (ltb (length s.nodes) b) s n g

  -- to a known point: a closed node stays; an open one is re-parented where the policy says so, and keeps its own point
  abbrev pub effect_known : ℕ → P × L → ℕ × Node P L A → Bool → Option (A × B) → Effect P L A B
  effect_known k w r true o = skip
  effect_known k w r false none = skip
  effect_known k w r false (some a) = reparent r.0 (child k r.1.point w.1 a.0) a.1

  -- the search ends at the node at place k: the list is its trace, turned round, and then t
  abbrev pub arrive : State P L A B → ℕ → List (P × L) → State P L A B
  arrive s k t = record { nodes = s.nodes; book = s.book; closings = s.closings; dropped = s.dropped; found = some (reverse_aux (trace (length s.nodes) s.nodes (some k)) t) }

module _ {P L A B : Type 0} (𝓖 : Graph P L) (𝓟 : Policy P L A B) where
  open 𝓖 use {start, start_label, steps}
  open 𝓟 use {pick, opening, shut, admit, relax}

  abbrev pub effect_at : ℕ → Node P L A → B → P × L → Option (ℕ × Node P L A) → Effect P L A B
  effect_at k f g w none = retain (child k w.0 w.1 (admit f w g).0) (admit f w g).1
  effect_at k f g w (some r) = effect_known k w r r.1.closed (relax f r.1 w g)

  -- what the step w from the node f at place k asks for
  unfoldable pub effect : ℕ → Node P L A → List (Node P L A) → B → P × L → Effect P L A B
  effect k f ns g w = effect_at k f g w (seek 𝓖 ns w.0)

  abbrev pub visit : ℕ → ℕ → Node P L A → State P L A B → P × L → State P L A B
  visit b k f s w = apply b s (effect k f s.nodes s.book w)

  abbrev pub visits : ℕ → ℕ → Node P L A → State P L A B → List (P × L) → State P L A B
  visits b k f s [] = s
  visits b k f s (w ∷ ws) = visits b k f (visit b k f s w) ws

  -- ---- one expansion

  abbrev pub closed_node : Node P L A → Node P L A
  closed_node n = record { point = n.point; label = n.label; parent = n.parent; closed = true; note = shut n.note }

  abbrev pub close : State P L A B → ℕ → Node P L A → State P L A B
  close s k n = record { nodes = set s.nodes k (closed_node n); book = s.book; closings = suc s.closings; dropped = s.dropped; found = s.found }

  -- close the node n at place k; end the search there, or visit the node's steps. 01, "Search": "Pop, close, try the connector (a start equal to the goal
  -- needs none: its list is the start alone), then the columns."
  abbrev pub expand_by : ℕ → State P L A B → ℕ → Node P L A → Option (List (P × L)) → State P L A B
  expand_by b s k n (some t) = arrive (close s k n) k t
  expand_by b s k n none = visits b k (closed_node n) (close s k n) (steps n.point)

  abbrev pub advance_by : ℕ → State P L A B → Option (List (P × L)) → Option (ℕ × Node P L A) → State P L A B
  advance_by b s (some t) o = s
  advance_by b s none none = s
  advance_by b s none (some r) = expand_by b s r.0 r.1 (ending 𝓖 r.1.point)

  -- one expansion under budget b; a search that has ended stays as it is
  unfoldable pub advance : ℕ → State P L A B → State P L A B
  advance b s = advance_by b s s.found (pick s.nodes s.book)

  -- ---- the search

  -- so many expansions
  abbrev pub run : ℕ → ℕ → State P L A B → State P L A B
  run b zero s = s
  run b (suc n) s = run b n (advance b s)

  -- expansions divided into lots, one lot a call (for No. 10 of 02)
  abbrev pub runs : ℕ → List ℕ → State P L A B → State P L A B
  runs b [] s = s
  runs b (n ∷ ns) s = runs b ns (run b n s)

  abbrev pub blank : State P L A B
  blank = record { nodes = []; book = opening.1; closings = zero; dropped = zero; found = none }

  abbrev pub start_node : Node P L A
  start_node = record { point = start; label = start_label; parent = none; closed = false; note = opening.0 }

  -- the start is retained like any new point: budget 0 drops it
  unfoldable pub begin : ℕ → State P L A B
  begin b = apply b blank (retain start_node opening.1)

  -- the whole search: as many expansions as the budget, which are enough (Claims, `ends_within_budget`)
  abbrev pub final : ℕ → State P L A B
  final b = run b b (begin b)

  abbrev pub outcome_by : Option (List (P × L)) → Option (ℕ × Node P L A) → ℕ → Outcome (P × L)
  outcome_by (some t) o d = Found t
  outcome_by none (some r) d = Searching
  outcome_by none none zero = Unreachable
  outcome_by none none (suc d) = BudgetExceeded

  -- Found: the list. Else, where nothing waits: Unreachable if nothing was dropped, BudgetExceeded if a new point was.
  unfoldable pub outcome : State P L A B → Outcome (P × L)
  outcome s = outcome_by s.found (pick s.nodes s.book) s.dropped

  -- the outcome of the whole search under a budget
  abbrev pub answer : ℕ → Outcome (P × L)
  answer b = outcome (final b)
