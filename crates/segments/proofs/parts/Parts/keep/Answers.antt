-- `segments::parts::Parts::keep` meets its contract. Assumes nothing.
use Rattle.std.proofs.Common.{ℕ, ◌+◌, ◌-◌, ◌≤◌, ◌<◌, ◌≡◌, List, [], ◌∷◌, ◌++◌, length, take, drop, set, sym, ap, ◌∙◌, arith, length-drop}
use Rattle.std.proofs.lemmas.List.{length-take, length-take-le, drop-take, take-take, take_more_set, set-append_left}
use Rattle.std.proofs.lemmas.List.Edits.{take-paste}
use Rattle.std.proofs.lemmas.List.Elements.{All-head, All-cons, All-nil, All-take, All-drop, All-append}
use Rattle.std.proofs.Math.Seq.{take-set-lt}
use Rattle.std.specs.List.{All, copy_within}
use mathlib.Core.List.{Memᴰ}
use Rattle.support.specs.declared.Interval.{Interval}
use Rattle.support.specs.Joints.{Gathers, gathers_append}
use Rattle.segments.proofs.parts.Parts.keep.Goals as goal

module _ (places new : List Interval) (k n : ℕ) (i : Interval) (h : k ≤ n) (l : n < length places) (e : new ≡ copy_within places k n (k + 1)) where
  -- the parts from a place on moved by one, and one more put there
  placed : take (n + 1) (set new k i) ≡ (take k places ++ i ∷ []) ++ take (n - k) (drop k places)
  placed =
      let whole : n + 1 ≡ k + 1 + (n - k) = omega arith in
      let moved : take (n + 1) new ≡ take (k + 1) places ++ take (n - k) (drop k places) =
      rw (e, whole) (take-paste places (k + 1) (drop k places) (n - k) (omega arith) (omega (arith, length-drop k places))) in
      take-set-lt (n + 1) new k i (omega arith)
      ∙ ap (λ (xs : List Interval). set xs k i) moved
      ∙ set-append_left (take (k + 1) places) (take (n - k) (drop k places)) k i (omega (arith, length-take-le (k + 1) places (omega arith)))
      ∙ ap (λ (xs : List Interval). xs ++ take (n - k) (drop k places)) (sym (take-set-lt (k + 1) places k i (omega arith)) ∙ take_more_set places k i (omega arith))

  kept : (P : Interval → Type 0) → P i → All P (take n places) → All P (take (n + 1) (set new k i))
  kept P p o =
      let whole : k + (n - k) ≡ n = omega arith in
      let behind : All P (take (n - k) (drop k places)) = rw (← drop-take k (n - k) places, whole) (All-drop P k (take n places) o) in
      let before : All P (take k places) = rw (← take-take k n places h) (All-take P k (take n places) o) in
      rw placed (All-append P (take k places ++ i ∷ []) (take (n - k) (drop k places)) (All-append P (take k places) (i ∷ []) before (All-cons P i [] p (All-nil P))) behind)

pub returns : goal.returns
returns c =
    let s = c.self.inside in
    let room : s.count < 1024 = omega (arith, simp length-take at (rw (sym c.self.view_is) at c.make_room.ensures.room)) in
    let one : Gathers (c.args.i ∷ []) (take s.count s.places) _ = record { all = λ is f o. kept s.places c.copy_within.new.self (s.count - c.count-nearer.result) s.count c.args.i (omega arith) (omega arith) c.copy_within.ensures.after (λ i. Memᴰ i is) (All-head (λ i. Memᴰ i is) c.args.i [] f) o } in
    gathers_append c.make_room.ensures.gathers (rw c.self.view_is at one)
