-- A state that the search of a valid request comes to and that is still searching (02, No. 10): its counts are within 12's bounds, its nodes are as 12 asks, and one of them waits.
use Rattle.std.specs.Prelude.{ℕ, ◌≤◌, ◌<◌, ◌≡◌, true, false, List, ◌≢◌, ltb, length}
use Rattle.std.proofs.Common.{arith, ltb-false}
use Rattle.std.proofs.Math.Path.{refl}
use Rattle.std.proofs.Math.Option.{none, some}
use Rattle.exploration.specs.Lists.{nth}
use Rattle.exploration.specs.Graph.{Graph}
use Rattle.exploration.specs.Policy.{Node, Policy}
use Rattle.exploration.specs.Explore.{State, Searching, begin, outcome}
use Rattle.exploration.proofs.Laws.Counts.{run_counts}
use Rattle.exploration.proofs.Laws.Endings.{wait_of, inv_going}
use Rattle.exploration.proofs.Laws.Expansions.{Sound, sound_room, sound_counted, open_of, ran, begin_sound}
use Rattle.exploration.proofs.Laws.Invariant.{Inv}
use Rattle.exploration.proofs.Laws.Lists.{or-false, count_le}
use Rattle.exploration.proofs.Laws.Roots.{start_alone}
use Rattle.world.specs.declared.Window.{Window}
use Rattle.world.specs.declared.Body.{Body}
use Rattle.world.specs.declared.Request.{Request}
use Rattle.world.specs.Space.{Space, space}
use Rattle.tables.specs.BadWorld.{bad_world}
use Rattle.request.specs.Request.{valid_request, sizes_too_large, too_large}
use Rattle.rooms.specs.declared.Feet.{Feet}
use Rattle.rooms.specs.declared.Label.{Label}
use Rattle.rooms.specs.Scans.{waits}
use Rattle.rooms.specs.Rooms.{Note}
use Rattle.words.specs.Words.{feet_of}
use Rattle.steps.specs.Graph.{graph}
use Rattle.steps.specs.GraphLaws.{graph_laws}
use Rattle.steps.specs.Bounds.{graph_bounded}
use Rattle.visits.specs.Best.{best}
use Rattle.visits.proofs.Laws.Policy.{best_laws, best_pushes}
use Rattle.claims.specs.Words.{InF64, after}
use Rattle.claims.specs.Laws.Fits.{space_tops}
use Rattle.claims.specs.Laws.Marks.{Marked, nodes_marked}
use Rattle.claims.specs.Laws.Nodes.{AllOf}
use Rattle.tick_claims.specs.Retained.{Fit, nodes_fit}

-- what it has; the first node alone is without a parent, the next one is that which the policy picks
pub record UnderWay (r : Request) (𝓖 : Graph Feet Label) (𝓟 : Policy Feet Label Note ℕ) (s : State Feet Label Note ℕ) : Type 0 where
  pub retained : length s.nodes ≤ r.node_budget
  pub closed : s.closings ≤ length s.nodes
  pub pushed : s.book < 4294967296
  pub dropped : s.dropped < 4294967296
  pub fit : AllOf (Fit r s.closings) s.nodes
  pub marked : AllOf Marked s.nodes
  pub alone : (k : ℕ) (x : Node Feet Label Note) → nth s.nodes k ≡ some x → (k ≡ 0 → x.parent ≡ none) × (k ≢ 0 → x.parent ≢ none)
  pub invariant : Inv 𝓖 𝓟 r.node_budget none s
  pub opens : (k : ℕ) (x : Node Feet Label Note) → nth s.nodes k ≡ some x → waits x.note.entry ≡ true → x.closed ≡ false
  pub next : ℕ
  pub next_node : Node Feet Label Note
  pub next_there : nth s.nodes next ≡ some next_node
  pub next_waits : waits next_node.note.entry ≡ true

pub limits : (r : Request) (body : Body) → too_large r body ≡ false → (sizes_too_large r body ≡ false) × (r.node_budget ≤ 4096)
unfolding too_large
limits r body e = let z = or-false (sizes_too_large r body) (ltb 4096 r.node_budget) e in (z.0, ltb-false 4096 r.node_budget z.1)

module _ (w : Window) (cells perms shapes boxes : List ℕ) (r : Request) (body : Body) (f : InF64 r) (valid : valid_request r body ≡ true) (small : too_large r body ≡ false)
    (good : bad_world w cells shapes boxes ≡ false) (m : ℕ) where
  abbrev sp : Space
  sp = space w cells perms shapes boxes

  abbrev 𝓖 : Graph Feet Label
  𝓖 = graph sp r body

  abbrev 𝓟 : Policy Feet Label Note ℕ
  𝓟 = best (feet_of r.goal)

  abbrev s : State Feet Label Note ℕ
  s = after sp r body m

  sound : Sound 𝓖 𝓟 r.node_budget s
  sound =
      let 𝓛 = graph_laws sp r body in
      let 𝓠 = best_laws (feet_of r.goal) in
      (ran 𝓖 𝓟 𝓛 𝓠 r.node_budget m (begin 𝓖 𝓟 r.node_budget) (begin_sound 𝓖 𝓟 𝓛 𝓠 r.node_budget)).0

  pub under_way : outcome 𝓖 𝓟 s ≡ Searching → UnderWay r 𝓖 𝓟 s
  under_way e =
      let wait = wait_of 𝓖 𝓟 s e in
      let chosen = (best_laws (feet_of r.goal)).pick_some s.nodes s.book wait.1.0 wait.1.1 in
      let few = (limits r body small).1 in
      let room = sound_room 𝓖 𝓟 sound in
      let closes : s.closings ≤ length s.nodes = omega (arith, sound_counted 𝓖 𝓟 sound, count_le (λ n. n.closed) s.nodes) in
      let counts = run_counts 𝓖 𝓟 (λ g. g) (best_pushes 𝓖 (feet_of r.goal)) r.node_budget 36864 (graph_bounded w cells perms shapes boxes r body good) m in
      record {
        retained = room;
        closed = closes;
        pushed = omega (arith, counts.0, few, first);
        dropped = omega (arith, counts.1, few);
        fit = nodes_fit sp (space_tops w cells perms shapes boxes) r body f valid (limits r body small).0 r.node_budget m (omega (arith, few));
        marked = nodes_marked 𝓖 (feet_of r.goal) r.node_budget m;
        alone = start_alone 𝓖 𝓟 (best_laws (feet_of r.goal)) r.node_budget m;
        invariant = inv_going 𝓖 𝓟 sound wait.0;
        opens = unfold best in open_of 𝓖 𝓟 (inv_going 𝓖 𝓟 sound wait.0);
        next = wait.1.0.0;
        next_node = wait.1.0.1;
        next_there = chosen.0;
        next_waits = unfold best in chosen.1;
      }
    where
      first : 𝓟.opening.1 ≡ 1
      first = unfold best in refl
