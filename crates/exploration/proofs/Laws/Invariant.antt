-- What holds of the retained nodes throughout a run.
use Rattle.std.specs.Prelude.{◌≡◌, refl, true, false, not, List, [], ◌∷◌, ◌++◌, map, ◌⊎◌, ◌≢◌, ℕ, zero, ◌≤◌, length, set}
use Rattle.std.proofs.Common.{sym, ap, ◌∙◌, append_assoc, append-nil, inl, inr, ⊎_elim, arith, length-append, length-set}
use Rattle.std.proofs.Math.Option.{Option, none, some}
use Rattle.exploration.specs.Lists.{nth, count}
use Rattle.exploration.specs.Graph.{Graph, Reach, at_start_lem, by_step, has_step, GraphLaws}
use Rattle.exploration.specs.Policy.{Node, Policy}
use Rattle.exploration.specs.Explore.{ending, State, child, waypoint, points}
use Rattle.exploration.proofs.Laws.Apart.{Apart, apart_snoc}
use Rattle.exploration.proofs.Laws.Lists.{true_false, and_both, and_first, and_second, nth_snoc, nth_left, nth_set, nth_set_other, has_left, has_map, count_snoc, count_same, map_set, map_snoc}
use Rattle.exploration.proofs.Laws.Visits.{known, Visited, kept, reparented, retained, lost}

module _ {P L A B : Type 0} (𝓖 : Graph P L) (𝓟 : Policy P L A B) where
  open 𝓖 use {same, alike, start, start_label, goal, steps, connector}
  open 𝓟 use {waits, pick, opening, shut, admit, relax}

  -- the first node is the start; every other was reached by a graph step from a closed node
  pub data Link (ns : List (Node P L A)) (n : Node P L A) : Type 0 where
    first_link : n.parent ≡ none → same start n.point ≡ true → alike start_label n.label ≡ true → Link ns n
    next_link : (j : ℕ) (m : Node P L A) → n.parent ≡ some j → nth ns j ≡ some m → m.closed ≡ true → has_step 𝓖 m.point (waypoint n) ≡ true → Link ns n

  -- the parents of a closed node, back to the start
  pub data Trail (ns : List (Node P L A)) : ℕ → Node P L A → List (P × L) → Type 0 where
    first_trail : {k : ℕ} {n : Node P L A} → nth ns k ≡ some n → n.closed ≡ true → n.parent ≡ none → same start n.point ≡ true → alike start_label n.label ≡ true → Trail ns k n (waypoint n ∷ [])
    next_trail : {k j : ℕ} {n m : Node P L A} {c : List (P × L)} → nth ns k ≡ some n → n.closed ≡ true → n.parent ≡ some j → has_step 𝓖 m.point (waypoint n) ≡ true → Trail ns j m c → Trail ns k n (waypoint n ∷ c)

  -- closed nodes stay as they are
  abbrev pub Frozen : List (Node P L A) → List (Node P L A) → Type 0
  Frozen ns ms = (k : ℕ) (n : Node P L A) → nth ns k ≡ some n → n.closed ≡ true → nth ms k ≡ some n

  pub link_later : {ns ms : List (Node P L A)} {n : Node P L A} → Frozen ns ms → Link ns n → Link ms n
  link_later f (first_link a b c) = first_link a b c
  link_later f (next_link j m a b c d) = next_link j m a (f j m b c) c d

  pub trail_later : {ns ms : List (Node P L A)} {k : ℕ} {n : Node P L A} {c : List (P × L)} → Frozen ns ms → Trail ns k n c → Trail ms k n c
  trail_later f (first_trail a b c d e) = first_trail (f _ _ a b) b c d e
  trail_later f (next_trail a b c d t) = next_trail (f _ _ a b) b c d (trail_later f t)

  pub trail_reach : {ns : List (Node P L A)} {k : ℕ} {n : Node P L A} {c : List (P × L)} → Trail ns k n c → Reach 𝓖 n.point
  trail_reach (first_trail a b c d e) = at_start_lem d
  trail_reach (next_trail {n = n} a b c d t) = by_step (waypoint n) (trail_reach t) d

  -- a closed node has no last edge, and while nothing is dropped its steps lead to retained points
  abbrev pub Expanded : State P L A B → Node P L A → Type 0
  Expanded s n = (ending 𝓖 n.point ≡ none) × (s.dropped ≡ zero → (w : P × L) → has_step 𝓖 n.point w ≡ true → known 𝓖 s.nodes w.0 ≡ true)

  abbrev pub closed_count : List (Node P L A) → ℕ
  closed_count ns = count (λ n. n.closed) ns

  -- what holds of a state; the node `busy` is closed and not yet expanded
  pub record Inv (b : ℕ) (busy : Option ℕ) (s : State P L A B) : Type 0 where
    pub links : (k : ℕ) (n : Node P L A) → nth s.nodes k ≡ some n → Link s.nodes n
    pub trails : (k : ℕ) (n : Node P L A) → nth s.nodes k ≡ some n → n.closed ≡ true → (c : List (P × L)) × Trail s.nodes k n c × (length c ≤ closed_count s.nodes)
    pub waiting : (k : ℕ) (n : Node P L A) → nth s.nodes k ≡ some n → waits n.note ≡ not n.closed
    pub expanded : (k : ℕ) (n : Node P L A) → nth s.nodes k ≡ some n → n.closed ≡ true → some k ≢ busy → Expanded s n
    pub counted : s.closings ≡ closed_count s.nodes
    pub apart : Apart same (points s)
    pub rooted : s.dropped ≡ zero → known 𝓖 s.nodes start ≡ true
    pub room : length s.nodes ≤ b
    pub over : s.dropped ≢ zero → (q : P) × Reach 𝓖 q × (known 𝓖 s.nodes q ≡ false) × (b ≤ length s.nodes)

  -- a run keeps closed nodes and points, and adds to them
  pub record Grow (s t : State P L A B) : Type 0 where
    pub frozen : Frozen s.nodes t.nodes
    pub more : (r : List P) × (points t ≡ points s ++ r)
    pub drops : s.dropped ≤ t.dropped
    pub shuts : closed_count s.nodes ≤ closed_count t.nodes

  pub grow_refl : (s : State P L A B) → Grow s s
  grow_refl s = record { frozen = λ k n e c. e; more = ([], sym (append-nil _)); drops = omega arith; shuts = omega arith }

  pub grow_trans : {s t u : State P L A B} → Grow s t → Grow t u → Grow s u
  grow_trans g h = record { frozen = λ k n e c. h.frozen k n (g.frozen k n e c) c; more = (g.more.0 ++ h.more.0, rw (h.more.1, g.more.1, append_assoc)); drops = omega arith; shuts = omega arith }

  pub grow_known : {s t : State P L A B} → Grow s t → (q : P) → known 𝓖 s.nodes q ≡ true → known 𝓖 t.nodes q ≡ true
  grow_known {s} {t} g q e = rw g.more.1 (has_left (λ p. same p q) (points s) g.more.0 e)

  -- one step changes no closed node: each node is an old one, or open, waiting and linked
  pub record Change (s t : State P L A B) : Type 0 where
    pub frozen : Frozen s.nodes t.nodes
    pub origins : (k : ℕ) (n : Node P L A) → nth t.nodes k ≡ some n → (nth s.nodes k ≡ some n) ⊎ ((n.closed ≡ false) × (waits n.note ≡ true) × Link t.nodes n)
    pub counts : closed_count t.nodes ≡ closed_count s.nodes

  change_none : (s t : State P L A B) → t.nodes ≡ s.nodes → Change s t
  change_none s t e = record { frozen = λ k n h c. rw e h; origins = λ k n h. inl (rw e at h); counts = ap closed_count e }

  points_stay : (s : State P L A B) (k j : ℕ) (m : Node P L A) (l : L) (a : A) → nth s.nodes j ≡ some m → map (λ n. n.point) (set s.nodes j (child k m.point l a)) ≡ points s
  points_stay s k j m l a e = map_set _ s.nodes j _ m e refl

  -- points are kept and added to, and the drops are counted; where the budget is full, no point is added
  pub more_of : {b k : ℕ} {w : P × L} {s t : State P L A B} → Visited 𝓖 𝓟 b k s w t → (r : List P) × (points t ≡ points s ++ r)
  more_of (kept h) = ([], sym (append-nil _))
  more_of (lost h i) = ([], sym (append-nil _))
  more_of {k = k} {w = w} {s = s} (reparented j m a g e h o v) = ([], points_stay s k j m w.1 a e ∙ sym (append-nil _))
  more_of {w = w} {s = s} (retained a g h r v) = (w.0 ∷ [], map_snoc _ s.nodes _)

  pub drops_of : {b k : ℕ} {w : P × L} {s t : State P L A B} → Visited 𝓖 𝓟 b k s w t → s.dropped ≤ t.dropped
  drops_of (kept h) = omega arith
  drops_of (lost h i) = omega arith
  drops_of (reparented j m a g e h o v) = omega arith
  drops_of (retained a g h r v) = omega arith

  counted_of : {b k : ℕ} {w : P × L} {s t : State P L A B} → Visited 𝓖 𝓟 b k s w t → t.closings ≡ s.closings
  counted_of (kept h) = refl
  counted_of (lost h i) = refl
  counted_of (reparented j m a g e h o v) = refl
  counted_of (retained a g h r v) = refl

  pub full_of : {b k : ℕ} {w : P × L} {s t : State P L A B} → b ≤ length s.nodes → Visited 𝓖 𝓟 b k s w t → points t ≡ points s
  full_of f (kept h) = refl
  full_of f (lost h i) = refl
  full_of {k = k} {w = w} {s = s} f (reparented j m a g e h o v) = points_stay s k j m w.1 a e
  full_of f (retained a g h r v) = absurd (omega arith)

  module _ (𝓛 : GraphLaws 𝓖) where
    -- a step to w is one to any point that is the same
    step_to : (p q : P) (w : P × L) → has_step 𝓖 p w ≡ true → same w.0 q ≡ true → has_step 𝓖 p (q, w.1) ≡ true
    step_to p q w h e = has_map _ _ (λ v i. and_both _ _ (𝓛.same_trans v.0 w.0 q (and_first _ _ i) e) (and_second (same v.0 w.0) _ i)) (steps p) h

    module _ (b k : ℕ) (f : Node P L A) (s : State P L A B) (w : P × L) (at_k : nth s.nodes k ≡ some f) (shut_k : f.closed ≡ true) (step_k : has_step 𝓖 f.point w ≡ true) where
      change_of : {t : State P L A B} → Visited 𝓖 𝓟 b k s w t → Change s t
      change_of (kept h) = change_none s s refl
      change_of (lost h i) = change_none s _ refl
      change_of (reparented j m a g e h o v) = record { frozen = still; origins = whence; counts = count_same _ s.nodes j _ m e (sym o) }
        where
          ms : List (Node P L A)
          ms = set s.nodes j (child k m.point w.1 a)

          still : Frozen s.nodes ms
          still i n e' c = nth_set_other s.nodes j _ i (λ q. let z : n.closed ≡ false = cc in true_false c z) ∙ e'

          whence : (i : ℕ) (n : Node P L A) → nth ms i ≡ some n → (nth s.nodes i ≡ some n) ⊎ ((n.closed ≡ false) × (waits n.note ≡ true) × Link ms n)
          whence i n e' = ⊎_elim (λ r. inr (rw r.1 (refl, v, next_link k f refl (still k f at_k shut_k) shut_k (step_to f.point m.point w step_k (𝓛.same_sym m.point w.0 h))))) (λ r. inl r.1) (nth_set s.nodes j _ i n e')
      change_of (retained a g h r v) = record { frozen = still; origins = whence; counts = count_snoc _ s.nodes new refl }
        where
          new : Node P L A
          new = child k w.0 w.1 a

          still : Frozen s.nodes (s.nodes ++ (new ∷ []))
          still i n e c = nth_left s.nodes _ i n e

          whence : (i : ℕ) (n : Node P L A) → nth (s.nodes ++ (new ∷ [])) i ≡ some n → (nth s.nodes i ≡ some n) ⊎ ((n.closed ≡ false) × (waits n.note ≡ true) × Link (s.nodes ++ (new ∷ [])) n)
          whence i n e = ⊎_elim inl (λ r. inr (rw r.1 (refl, v, next_link k f refl (still k f at_k shut_k) shut_k step_k))) (nth_snoc s.nodes new i n e)

      pub grow_of : {t : State P L A B} → Visited 𝓖 𝓟 b k s w t → Grow s t
      grow_of v = record { frozen = (change_of v).frozen; more = more_of v; drops = drops_of v; shuts = omega (arith, (change_of v).counts) }

      apart_of : {t : State P L A B} → Apart same (points s) → Visited 𝓖 𝓟 b k s w t → Apart same (points t)
      apart_of a (kept h) = a
      apart_of a (lost h i) = a
      apart_of a (reparented j m x g e h o v) = rw (points_stay s k j m w.1 x e) a
      apart_of a (retained _ g h r v) = rw map_snoc (apart_snoc same (points s) w.0 a h)

      room_of : {t : State P L A B} → length s.nodes ≤ b → Visited 𝓖 𝓟 b k s w t → length t.nodes ≤ b
      room_of r (kept h) = r
      room_of r (lost h i) = r
      room_of r (reparented j m a g e h o v) = rw length-set r
      room_of r (retained a g h i v) = rw length-append (omega arith)

      abbrev Over : State P L A B → Type 0
      Over t = t.dropped ≢ zero → (q : P) × Reach 𝓖 q × (known 𝓖 t.nodes q ≡ false) × (b ≤ length t.nodes)

      over_of : {t : State P L A B} → Reach 𝓖 f.point → Over s → Visited 𝓖 𝓟 b k s w t → Over t
      over_of r o (kept h) = o
      over_of r o (lost h i) = λ d. (w.0, by_step w r step_k, h, i)
      over_of r o (reparented j m a g e h c v) = λ d. let z = o d in (z.0, z.1, rw (points_stay s k j m w.1 a e) z.2, rw length-set z.3)
      over_of r o (retained a g h i v) = λ d. let z = o d in absurd (omega arith)

      module _ (busy : Option ℕ) (inv : Inv b busy s) where
        pub inv_of : {t : State P L A B} → Visited 𝓖 𝓟 b k s w t → Inv b busy t
        inv_of {t} v = record {
          links = λ i n e. ⊎_elim (λ h. link_later ch.frozen (inv.links i n h)) (λ h. h.2) (ch.origins i n e);
          trails = λ i n e c. ⊎_elim (λ h. let z = inv.trails i n h c in (z.0, trail_later ch.frozen z.1, rw ch.counts z.2)) (λ h. absurd (true_false c h.0)) (ch.origins i n e);
          waiting = λ i n e. ⊎_elim (λ h. inv.waiting i n h) (λ h. rw h.0 h.1) (ch.origins i n e);
          expanded = λ i n e c o. ⊎_elim (λ h. let z = inv.expanded i n h c o in (z.0, λ d x y. grow_known gr x.0 (z.1 (none_dropped d) x y))) (λ h. absurd (true_false c h.0)) (ch.origins i n e);
          counted = counted_of v ∙ inv.counted ∙ sym ch.counts;
          apart = apart_of inv.apart v;
          rooted = λ d. grow_known gr start (inv.rooted (none_dropped d));
          room = room_of inv.room v;
          over = over_of (trail_reach (inv.trails k f at_k shut_k).1) inv.over v;
        }
          where
            ch : Change s t
            ch = change_of v

            gr : Grow s t
            gr = grow_of v

            none_dropped : t.dropped ≡ zero → s.dropped ≡ zero
            none_dropped d = omega (arith, gr.drops)
