-- The ways out of `conclude`, as its proof cites them.
use Rattle.std.specs.Prelude.{◌≡◌, List, [], ◌∷◌, ◌++◌, ◌⊎◌, ℕ, zero, suc, ◌*◌, ◌/◌, ◌≤◌, length, drop}
use Rattle.std.proofs.Common.{sym, ap, inl, inr, arith, le-leb}
use Rattle.rooms.specs.declared.Feet.{Feet}
use Rattle.rooms.specs.declared.Label.{Label}
use Rattle.rooms.specs.declared.Counts.{Counts}
use Rattle.rooms.specs.Lists.{list_bytes, written, Listed}
use Rattle.outcomes.specs.declared.Turn.{Turn}
use Rattle.outcomes.specs.declared.Turn.TheVariants.{Rest, Going, At, By}
use Rattle.outcomes.specs.declared.Answer.{Answer}
use Rattle.outcomes.specs.declared.Outcome.TheVariants.{Found}
use Rattle.outcomes.specs.Outcomes.{list_in, counts_of, end_quiet, end_at, answer_of}

-- a list that has room is written, and no list changes nothing
pub written_is : (l : List (Feet × Label)) (old : List ℕ) → 48 * length l ≤ length old → written l old ≡ list_bytes l ++ drop (48 * length l) old
unfolding written
written_is l old h = let e = le-leb (length l) (length old / 48) (omega arith) in rw e

written_quiet : (d : ℕ) (old : List ℕ) → old ≡ written (list_in (end_quiet d)) old
written_quiet zero old = sym (written_is [] old (omega arith))
written_quiet (suc d) old = sym (written_is [] old (omega arith))

abbrev pub Concludes : List ℕ → Feet → Turn → Answer → List ℕ → List ℕ → Type 0
Concludes a goal t x old out = (x ≡ answer_of (counts_of t) (end_at a goal t)) × (out ≡ written (list_in (end_at a goal t)) old)

-- the answer of a search that found a list, of so many points
abbrev pub told : Counts → ℕ → Answer
told c n = record { outcome = Found; count = n; retained = c.retained; closed = c.closed }

module _ (a : List ℕ) (goal : Feet) (t : Turn) (c : Counts) (old : List ℕ) where
  -- nothing waits, or the run was as long as the budget
  pub concludes_quiet : (x : Answer) → (t ≡ Rest c) ⊎ (t ≡ Going c) → x ≡ answer_of c (end_quiet c.dropped) → Concludes a goal t x old old
  concludes_quiet x (inl e) h = rw e (h, written_quiet c.dropped old)
  concludes_quiet x (inr e) h = rw e (h, written_quiet c.dropped old)

  pub concludes_at : (k m : ℕ) (out : List ℕ) → t ≡ At c k → Listed a c.retained k [] m old out → Concludes a goal t (told c m) old out
  concludes_at k m out e h = rw e (ap (told c) h.count, h.bytes)

  pub concludes_by : (k : ℕ) (l : Label) (m : ℕ) (out : List ℕ) → t ≡ By c k l → Listed a c.retained k ((goal, l) ∷ []) m old out
      → Concludes a goal t (told c m) old out
  concludes_by k l m out e h = rw e (ap (told c) h.count, h.bytes)
