-- A graph to be searched, what a route over it is, and which points its steps reach. No search is mentioned here: these are the words in which the claims
-- on a search are stated. Document 01, "The graph", gives the instance: its graph steps, its connector, its same point.
use Rattle.std.specs.Prelude.{◌≡◌, Bool, true, false, ◌&&◌, List, [], ◌∷◌}
use Rattle.std.proofs.Math.Option.{Option, none, some}
use Rattle.exploration.specs.Lists.{has}

-- Over points P and labels L. A label is what an edge says of its later point: its movement, its lift and its door.
pub record Graph (P L : Type 0) : Type 0 where
  -- points compare by `same`, labels by `alike`
  pub same : P → P → Bool
  pub alike : L → L → Bool
  pub start : P
  -- what the first point of a list carries (Walk, lift 0, no door)
  pub start_label : L
  pub goal : P
  -- the graph steps from a point, in the order in which an expansion visits them
  pub steps : P → List (P × L)
  -- the connector: the edge from a point to the goal, where it has one
  pub connector : P → Option L

module _ {P L : Type 0} (𝓖 : Graph P L) where
  open 𝓖 use {same, alike, start, start_label, goal, steps, connector}

  -- a graph step leads from p to the point of w with the label of w
  abbrev pub has_step : P → P × L → Bool
  has_step p w = has (λ v. same v.0 w.0 && alike v.1 w.1) (steps p)

  abbrev pub labelled : Option L → L → Bool
  labelled none l = false
  labelled (some m) l = alike m l

  -- the connector leads from p with the label of w
  abbrev pub connects : P → P × L → Bool
  connects p w = labelled (connector p) w.1

  -- The list leads from p to the goal: each pair is a graph step, the last pair may be a connector, and the last point is the goal.
  pub data Way : P → List (P × L) → Type 0 where
    arrived : {p : P} → same p goal ≡ true → Way p []
    connected : {p : P} {w : P × L} → connects p w ≡ true → same w.0 goal ≡ true → Way p (w ∷ [])
    stepped : {p : P} {w : P × L} {ws : List (P × L)} → has_step p w ≡ true → Way w.0 ws → Way p (w ∷ ws)

  -- Route: the start first, with the start's label, and from there to the goal. A single point is a route when start equals goal.
  pub data Route : List (P × L) → Type 0 where
    route : {w : P × L} {ws : List (P × L)} → same start w.0 ≡ true → alike start_label w.1 ≡ true → Way w.0 ws → Route (w ∷ ws)

  -- the points that graph steps reach from the start
  pub data Reach : P → Type 0 where
    at_start_lem : {p : P} → same start p ≡ true → Reach p
    by_step : {p : P} (w : P × L) → Reach p → has_step p w ≡ true → Reach w.0

  -- What the claims ask of a graph: `same` is an equivalence, and same points have the same steps and the same connector.
  pub record GraphLaws : Type 0 where
    pub same_refl : (p : P) → same p p ≡ true
    pub same_sym : (p q : P) → same p q ≡ true → same q p ≡ true
    pub same_trans : (p q r : P) → same p q ≡ true → same q r ≡ true → same p r ≡ true
    pub alike_refl : (l : L) → alike l l ≡ true
    pub step_same : (p q : P) (w : P × L) → same p q ≡ true → has_step p w ≡ true → has_step q w ≡ true
    pub connector_same : (p q : P) (w : P × L) → same p q ≡ true → connects p w ≡ true → connects q w ≡ true
