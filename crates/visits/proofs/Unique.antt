-- A closing, the start and a visit have one result: two that meet the same contract are the same, answer and both rooms. The theory fixes the state, a state
-- fixes the counts and the records, and `Kept` fixes the bytes past the records.
use Rattle.std.specs.Prelude.{◌≡◌, Option, Some, None, Bool, true, false, ℕ, zero, suc, ◌*◌, ◌≤◌, length}
use Rattle.std.proofs.Math.Path.{refl, sym, ap}
use Rattle.std.proofs.Common.{◌∙◌, arith, List, []}
use Rattle.std.proofs.Math.Option.{none}
use Rattle.exploration.specs.Graph.{Graph}
use Rattle.exploration.specs.Explore.{State, apply, effect_at, close}
use Rattle.exploration.proofs.Laws.Lists.{true_false}
use Rattle.fields.specs.Bytes.{Bytes}
use Rattle.fields.proofs.RecordLaws.{length_firsts}
use Rattle.rooms.specs.declared.Feet.{Feet}
use Rattle.rooms.specs.declared.Label.{Label}
use Rattle.rooms.specs.declared.NodeRecord.{NodeRecord}
use Rattle.rooms.specs.declared.Counts.{Counts}
use Rattle.rooms.specs.Waypoints.{same_point, alike, standing}
use Rattle.rooms.specs.Scans.{idle}
use Rattle.rooms.specs.Rooms.{Note, node_of, node_in, nodes_of, state_of, node_room, front_room}
use Rattle.rooms.proofs.Laws.Rooms.{node_room_lem, front_room_lem}
use Rattle.visits.specs.declared.Aim.{Aim}
use Rattle.visits.specs.declared.Closing.{Closing}
use Rattle.visits.specs.Best.{best}
use Rattle.visits.specs.Visits.{ready, Kept, Untouched, counts_by, says_closed, found_at, Visited, VisitedIf, ClosedIf, Started}
use Rattle.visits.proofs.Laws.Visits.{ready_is}

-- What the language gives of two lent u8 slices, a and f before and b and g after: their lengths stay, and what they hold are bytes. The contracts do not say
-- it: a full room whose last records are zero could be cut short.
pub record Lent (a f b g : List ℕ) : Type 0 where
  pub nodes_length : length b ≡ length a
  pub front_length : length g ≡ length f
  pub nodes_bytes : Bytes b
  pub front_bytes : Bytes g

-- ---- one state, one content

-- what Closed and Visited say of a result: it is the state s, within the budget, and past its records all is as it was
record Made (s : State Feet Label Note ℕ) (budget : ℕ) (r : Counts) (a f b g : List ℕ) : Type 0 where
  state : state_of b g r ≡ s
  kept : Kept r.retained a f b g
  few : r.retained ≤ budget

module _ {s : State Feet Label Note ℕ} {budget : ℕ} {r₁ r₂ : Counts} {a f b₁ g₁ b₂ g₂ : List ℕ} where
  one_made : 64 * budget ≤ length a → 24 * budget ≤ length f → Lent a f b₁ g₁ → Lent a f b₂ g₂ →
      Made s budget r₁ a f b₁ g₁ → Made s budget r₂ a f b₂ g₂ → (r₁ ≡ r₂) × (b₁ ≡ b₂) × (g₁ ≡ g₂)
  unfolding state_of
  one_made p q l₁ l₂ m₁ m₂ = (
    (λ i. record { retained = n i; closed = (same i).closings; pushed = (same i).book; dropped = (same i).dropped }),
    node_of_lem b₁ g₁ r₁ l₁ m₁ ∙ ap (node_room a) nodes ∙ sym (node_of_lem b₂ g₂ r₂ l₂ m₂),
    front_of b₁ g₁ r₁ l₁ m₁ ∙ ap (front_room f) nodes ∙ sym (front_of b₂ g₂ r₂ l₂ m₂),
  )
    where
      same : state_of b₁ g₁ r₁ ≡ state_of b₂ g₂ r₂
      same = m₁.state ∙ sym m₂.state

      nodes : nodes_of r₁.retained b₁ g₁ ≡ nodes_of r₂.retained b₂ g₂
      nodes = ap (λ (t : State Feet Label Note ℕ). t.nodes) same

      n : r₁.retained ≡ r₂.retained
      n = sym (length_firsts r₁.retained (node_in b₁ g₁)) ∙ ap length nodes ∙ length_firsts r₂.retained (node_in b₂ g₂)

      node_of_lem : (b g : List ℕ) (r : Counts) → Lent a f b g → Made s budget r a f b g → b ≡ node_room a (nodes_of r.retained b g)
      node_of_lem b g r l m = node_room_lem a b g r.retained l.nodes_bytes (omega (arith, l.nodes_length, m.few)) (m.kept.nodes r.retained (omega arith))

      front_of : (b g : List ℕ) (r : Counts) → Lent a f b g → Made s budget r a f b g → g ≡ front_room f (nodes_of r.retained b g)
      front_of b g r l m = front_room_lem f b g r.retained l.front_bytes (omega (arith, l.front_length, m.few)) (m.kept.front r.retained (omega arith))

-- rooms and counts that stay have one result
pub one_untouched : {c r₁ r₂ : Counts} {a f b₁ g₁ b₂ g₂ : List ℕ} → Untouched c r₁ a f b₁ g₁ → Untouched c r₂ a f b₂ g₂ → (r₁ ≡ r₂) × (b₁ ≡ b₂) × (g₁ ≡ g₂)
one_untouched x y = (x.counts ∙ sym y.counts, x.nodes ∙ sym y.nodes, x.front ∙ sym y.front)

-- the same where the rooms are ready for node k, and nothing where they are not
record MadeIf (s : State Feet Label Note ℕ) (budget k : ℕ) (c r : Counts) (a f b g : List ℕ) : Type 0 where
  done : ready (length a) (length f) budget k c ≡ true → Made s budget r a f b g
  left : ready (length a) (length f) budget k c ≡ false → Untouched c r a f b g

one_made_if : {s : State Feet Label Note ℕ} {budget k : ℕ} {c r₁ r₂ : Counts} {a f b₁ g₁ b₂ g₂ : List ℕ} → Lent a f b₁ g₁ → Lent a f b₂ g₂ →
    MadeIf s budget k c r₁ a f b₁ g₁ → MadeIf s budget k c r₂ a f b₂ g₂ → (r₁ ≡ r₂) × (b₁ ≡ b₂) × (g₁ ≡ g₂)
one_made_if {s} {budget} {k} {c} {r₁} {r₂} {a} {f} {b₁} {g₁} {b₂} {g₂} l₁ l₂ m₁ m₂ = go (ready (length a) (length f) budget k c) refl
  where
    go : (t : Bool) → ready (length a) (length f) budget k c ≡ t → (r₁ ≡ r₂) × (b₁ ≡ b₂) × (g₁ ≡ g₂)
    go true e = let h = (ready_is a f budget k c e).0 in one_made h.node_room_lem h.front_room_lem l₁ l₂ (m₁.done e) (m₂.done e)
    go false e = one_untouched (m₁.left e) (m₂.left e)

-- ---- the contracts

-- a graph with no steps, whose points compare as 01 says
abbrev bare : Feet → Graph Feet Label
bare p = record { same = same_point; alike = alike; start = p; start_label = standing; goal = p; steps = λ q. []; connector = λ q. none }

-- what VisitedIf says of the counts and the rooms
abbrev pub VisitedOr : Aim → ℕ → NodeRecord → Counts → ℕ → Feet → Label → Counts → List ℕ → List ℕ → List ℕ → List ℕ → Type 0
VisitedOr aim k from c j to label r a f b g =
    (ready (length a) (length f) aim.budget k c ≡ true → Visited aim k from c j to label r a f b g)
    × (ready (length a) (length f) aim.budget k c ≡ false → Untouched c r a f b g)

one_answer : (c : Counts) (v w : Option Counts) → says_closed v ≡ says_closed w → counts_by c v ≡ counts_by c w → v ≡ w
one_answer c None None p q = refl
one_answer c None (Some s) p q = absurd (true_false refl p)
one_answer c (Some r) None p q = absurd (true_false p refl)
one_answer c (Some r) (Some s) p q = ap Some q

-- the start has one result, whatever the rooms
pub one_start : {budget : ℕ} {start : Feet} {r₁ r₂ : Counts} {a f b₁ g₁ b₂ g₂ : List ℕ} →
    Started budget start r₁ a f b₁ g₁ → Started budget start r₂ a f b₂ g₂ → (r₁ ≡ r₂) × (b₁ ≡ b₂) × (g₁ ≡ g₂)
one_start {budget = zero} x y = one_untouched (x.none refl) (y.none refl)
one_start {budget = suc m} x y =
    let u = x.some (λ e. omega arith) in let w = y.some (λ e. omega arith) in (u.0 ∙ sym w.0, u.1.is ∙ sym w.1.is, u.2.is ∙ sym w.2.is)

module _ {a f b₁ g₁ b₂ g₂ : List ℕ} (l₁ : Lent a f b₁ g₁) (l₂ : Lent a f b₂ g₂) where
  -- a closing of lent rooms has one result
  pub one_closing : {aim : Aim} {k : ℕ} {c : Counts} {r₁ r₂ : Closing} →
      ClosedIf aim k c r₁ a f b₁ g₁ → ClosedIf aim k c r₂ a f b₂ g₂ → (r₁ ≡ r₂) × (b₁ ≡ b₂) × (g₁ ≡ g₂)
  one_closing {aim} {k} {c} {r₁} {r₂} x y = ((λ i. record { node = (x.node ∙ sym y.node) i; counts = z.0 i }), z.1, z.2)
    where
      made : {r : Closing} {b g : List ℕ} → ClosedIf aim k c r a f b g →
          MadeIf (close (bare aim.goal) (best aim.goal) (state_of a f c) k (node_in a f k)) aim.budget k c r.counts a f b g
      made w = record { done = λ e. (let u = w.done e in record { state = u.state (bare aim.goal); kept = u.kept; few = u.near.few }); left = w.left }

      z : (r₁.counts ≡ r₂.counts) × (b₁ ≡ b₂) × (g₁ ≡ g₂)
      z = one_made_if l₁ l₂ (made x) (made y)

  module _ {aim : Aim} {k : ℕ} {from : NodeRecord} {c : Counts} {j : ℕ} {to : Feet} {label : Label} where
    -- a visit of lent rooms has one result in counts and rooms
    pub one_visited : {r₁ r₂ : Counts} →
        VisitedOr aim k from c j to label r₁ a f b₁ g₁ → VisitedOr aim k from c j to label r₂ a f b₂ g₂ → (r₁ ≡ r₂) × (b₁ ≡ b₂) × (g₁ ≡ g₂)
    unfolding node_of
    one_visited x y = one_made_if l₁ l₂ (made x) (made y)
      where
        made : {r : Counts} {b g : List ℕ} → VisitedOr aim k from c j to label r a f b g →
            MadeIf (apply aim.budget (state_of a f c) (effect_at (bare to) (best aim.goal) k (node_of from idle) c.pushed (to, label) (found_at a f c.retained j))) aim.budget k c r a f b g
        made w = record {
          done = λ e. (let u = w.0 e in record { state = u.state (bare to) (node_of from idle) refl refl; kept = u.kept; few = u.near.few });
          left = w.1;
        }

    -- and in its answer
    pub one_visit : {v₁ v₂ : Option Counts} →
        VisitedIf aim k from c j to label v₁ a f b₁ g₁ → VisitedIf aim k from c j to label v₂ a f b₂ g₂ → (v₁ ≡ v₂) × (b₁ ≡ b₂) × (g₁ ≡ g₂)
    one_visit {v₁} {v₂} x y =
        let z = one_visited (x.done, x.left) (y.done, y.left) in (one_answer c v₁ v₂ (x.closed ∙ sym y.closed) z.0, z.1, z.2)
