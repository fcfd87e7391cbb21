-- Two runs of one search under a smaller and a larger budget: they are the same run until the smaller drops a point, and from there on the smaller
-- retains no further point.
use Rattle.std.specs.Prelude.{◌≡◌, refl, Bool, true, false, List, [], ◌∷◌, ◌++◌, ℕ, zero, suc, ◌+◌, ◌-◌, ◌≤◌, ◌<◌, ltb, length}
use Rattle.std.proofs.Common.{sym, ap, subst, ◌∙◌, append_assoc, append-nil, arith, length-append, ltb-true, ltb-false}
use Rattle.std.proofs.Math.Option.{Option, none, some}
use Rattle.std.proofs.lemmas.List.{length-map}
use Rattle.exploration.specs.Graph.{Graph, GraphLaws}
use Rattle.exploration.specs.Policy.{Node, Policy, PolicyLaws}
use Rattle.exploration.specs.Explore.{ending, State, Effect, skip, reparent, retain, keep_or_drop, apply, points, effect, visit, visits, expand_by, advance_by, advance, run, begin, final, blank, start_node}
use Rattle.exploration.proofs.Laws.Expansions.{Sound, sound_room, Advanced, advanced, ran, done_run, begin_sound, final_done}
use Rattle.exploration.proofs.Laws.Invariant.{more_of, drops_of, full_of}
use Rattle.exploration.proofs.Laws.Lists.{map_snoc}
use Rattle.exploration.proofs.Laws.Loops.{run_add}
use Rattle.exploration.proofs.Laws.Visits.{visited}

nil_of : {A : Type 0} (r : List A) → length r ≤ 0 → r ≡ []
nil_of [] h = refl
nil_of (x ∷ r) h = absurd (omega arith)

module _ {P L A B : Type 0} (𝓖 : Graph P L) (𝓟 : Policy P L A B) where
  open 𝓖 use {steps}
  open 𝓟 use {pick, opening}

  -- the runs have parted: the smaller budget is full and has dropped a point, and its points are the first of the other's
  pub record Parted (b : ℕ) (s t : State P L A B) : Type 0 where
    pub full : b ≤ length s.nodes
    pub lost : 0 < s.dropped
    pub rest : (r : List P) × (points t ≡ points s ++ r)

  pub data Compared (b : ℕ) (s t : State P L A B) : Type 0 where
    equal : s ≡ t → Compared b s t
    parted : Parted b s t → Compared b s t

  count_points : (s : State P L A B) → length (points s) ≡ length s.nodes
  count_points s = length-map s.nodes _

  parted_left : {b : ℕ} (s t u : State P L A B) → Parted b s u → points t ≡ points s → s.dropped ≤ t.dropped → Parted b t u
  parted_left s t u o e d = record { full = omega (arith, o.full, count_points s, count_points t, ap length e); lost = omega (arith, o.lost); rest = (o.rest.0, rw e o.rest.1) }

  parted_right : {b : ℕ} (s t u : State P L A B) → Parted b s t → (r : List P) × (points u ≡ points t ++ r) → Parted b s u
  parted_right s t u o m = record { full = o.full; lost = o.lost; rest = (o.rest.0 ++ m.0, rw (m.1, o.rest.1, append_assoc)) }

  module _ (b c : ℕ) (b≤c : b ≤ c) where
    compare_keep : (s : State P L A B) (n : Node P L A) (g : B) (u v : Bool) → ltb (length s.nodes) b ≡ u → ltb (length s.nodes) c ≡ v → Compared b (keep_or_drop u s n g) (keep_or_drop v s n g)
    compare_keep s n g true true p q = equal refl
    compare_keep s n g true false p q = absurd (omega (arith, ltb-true (length s.nodes) b p, ltb-false (length s.nodes) c q))
    compare_keep s n g false true p q = parted (record { full = ltb-false _ _ p; lost = omega arith; rest = (n.point ∷ [], map_snoc _ s.nodes n) })
    compare_keep s n g false false p q = equal refl

    compare_apply : (s : State P L A B) (m : Effect P L A B) → Compared b (apply b s m) (apply c s m)
    compare_apply s skip = equal refl
    compare_apply s (reparent j n g) = equal refl
    compare_apply s (retain n g) = compare_keep s n g _ _ refl refl

    module _ (𝓠 : PolicyLaws 𝓟) (k : ℕ) (f : Node P L A) where
      left_visits : (ws : List (P × L)) (s t : State P L A B) → Parted b s t → Parted b (visits 𝓖 𝓟 b k f s ws) t
      left_visits [] s t o = o
      left_visits (w ∷ ws) s t o = let v = visited 𝓖 𝓟 𝓠 b k f s w in left_visits ws _ t (parted_left s _ t o (full_of 𝓖 𝓟 o.full v) (drops_of 𝓖 𝓟 v))

      right_visits : (ws : List (P × L)) (s t : State P L A B) → Parted b s t → Parted b s (visits 𝓖 𝓟 c k f t ws)
      right_visits [] s t o = o
      right_visits (w ∷ ws) s t o = right_visits ws s _ (parted_right s t _ o (more_of 𝓖 𝓟 (visited 𝓖 𝓟 𝓠 c k f t w)))

      compare_visits : (ws : List (P × L)) (s : State P L A B) → Compared b (visits 𝓖 𝓟 b k f s ws) (visits 𝓖 𝓟 c k f s ws)
      compare_visits [] s = equal refl
      compare_visits (w ∷ ws) s = go (compare_apply s (effect 𝓖 𝓟 k f s.nodes s.book w)) (compare_visits ws (visit 𝓖 𝓟 b k f s w))
        where
          t : State P L A B
          t = visit 𝓖 𝓟 b k f s w

          u : State P L A B
          u = visit 𝓖 𝓟 c k f s w

          go : Compared b t u → Compared b (visits 𝓖 𝓟 b k f t ws) (visits 𝓖 𝓟 c k f t ws) → Compared b (visits 𝓖 𝓟 b k f t ws) (visits 𝓖 𝓟 c k f u ws)
          go (equal e) p = rw (← e) p
          go (parted o) p = parted (left_visits ws t (visits 𝓖 𝓟 c k f u ws) (right_visits ws t u o))

    module _ (𝓛 : GraphLaws 𝓖) (𝓠 : PolicyLaws 𝓟) where
      compare_advance_by : (s : State P L A B) (h : Option (List (P × L))) (o : Option (ℕ × Node P L A)) → Compared b (advance_by 𝓖 𝓟 b s h o) (advance_by 𝓖 𝓟 c s h o)
      compare_advance_by s (some t) o = equal refl
      compare_advance_by s none none = equal refl
      compare_advance_by s none (some r) = go (ending 𝓖 r.1.point)
        where
          go : (o : Option (List (P × L))) → Compared b (expand_by 𝓖 𝓟 b s r.0 r.1 o) (expand_by 𝓖 𝓟 c s r.0 r.1 o)
          go (some t) = equal refl
          go none = compare_visits 𝓠 r.0 _ (steps r.1.point) _

      compare_advance : (s : State P L A B) → Compared b (advance 𝓖 𝓟 b s) (advance 𝓖 𝓟 c s)
      unfolding advance
      compare_advance s = compare_advance_by s s.found (pick s.nodes s.book)

      left_advance : (s t : State P L A B) → Sound 𝓖 𝓟 b s → Parted b s t → Parted b (advance 𝓖 𝓟 b s) t
      left_advance s t g o = parted_left s _ t o (m.1 ∙ rw nil (append-nil _)) u.1.drops
        where
          u : Advanced 𝓖 𝓟 b s (advance 𝓖 𝓟 b s)
          u = advanced 𝓖 𝓟 𝓛 𝓠 b s g

          m : (r : List P) × (points (advance 𝓖 𝓟 b s) ≡ points s ++ r)
          m = u.1.more

          nil : m.0 ≡ []
          nil = nil_of m.0 (omega (arith, sound_room 𝓖 𝓟 u.0, o.full, count_points s, count_points (advance 𝓖 𝓟 b s), ap length m.1, length-append (points s) m.0))

      compare_run : (n : ℕ) (s t : State P L A B) → Sound 𝓖 𝓟 b s → Sound 𝓖 𝓟 c t → Compared b s t → Compared b (run 𝓖 𝓟 b n s) (run 𝓖 𝓟 c n t)
      compare_run zero s t g h p = p
      compare_run (suc n) s t g h p = compare_run n _ _ (advanced 𝓖 𝓟 𝓛 𝓠 b s g).0 (advanced 𝓖 𝓟 𝓛 𝓠 c t h).0 (go p)
        where
          go : Compared b s t → Compared b (advance 𝓖 𝓟 b s) (advance 𝓖 𝓟 c t)
          go (equal e) = rw (← e) (compare_advance s)
          go (parted o) = parted (left_advance s _ g (parted_right s t _ o (advanced 𝓖 𝓟 𝓛 𝓠 c t h).1.more))

      right_run : (n : ℕ) (s t : State P L A B) → Sound 𝓖 𝓟 c t → Parted b s t → Parted b s (run 𝓖 𝓟 c n t)
      right_run n s t h o = parted_right s t _ o (ran 𝓖 𝓟 𝓛 𝓠 c n t h).1.more

  module _ (𝓛 : GraphLaws 𝓖) (𝓠 : PolicyLaws 𝓟) (b c : ℕ) (b≤c : b ≤ c) where
    compare_begin : Compared b (begin 𝓖 𝓟 b) (begin 𝓖 𝓟 c)
    unfolding begin
    compare_begin = compare_apply b c b≤c (blank 𝓖 𝓟) (retain (start_node 𝓖 𝓟) opening.1)

    pub compare_final : Compared b (final 𝓖 𝓟 b) (final 𝓖 𝓟 c)
    compare_final = subst (Compared b (final 𝓖 𝓟 b)) (sym split) (go (compare_run b c b≤c 𝓛 𝓠 b _ _ (begin_sound 𝓖 𝓟 𝓛 𝓠 b) (begin_sound 𝓖 𝓟 𝓛 𝓠 c) compare_begin))
      where
        mid : State P L A B
        mid = run 𝓖 𝓟 c b (begin 𝓖 𝓟 c)

        split : final 𝓖 𝓟 c ≡ run 𝓖 𝓟 c (c - b) mid
        split = ap (λ (i : ℕ). run 𝓖 𝓟 c i (begin 𝓖 𝓟 c)) (sum c b b≤c) ∙ run_add 𝓖 𝓟 c b (c - b) (begin 𝓖 𝓟 c)
          where
            sum : (c b : ℕ) → b ≤ c → c ≡ b + (c - b)
            sum c b h = omega arith

        go : Compared b (final 𝓖 𝓟 b) mid → Compared b (final 𝓖 𝓟 b) (run 𝓖 𝓟 c (c - b) mid)
        go (equal e) = rw (← e) (equal (sym (done_run 𝓖 𝓟 c (c - b) (final 𝓖 𝓟 b) (final_done 𝓖 𝓟 𝓛 𝓠 b))))
        go (parted o) = parted (right_run b c b≤c 𝓛 𝓠 (c - b) (final 𝓖 𝓟 b) mid (ran 𝓖 𝓟 𝓛 𝓠 c b _ (begin_sound 𝓖 𝓟 𝓛 𝓠 c)).0 o)
