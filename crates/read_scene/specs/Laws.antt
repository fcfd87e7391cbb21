-- The records of a slice, piece by piece: what is left to read behind each of them. Assumes nothing.
use Rattle.std.specs.Prelude.{◌≡◌, ℕ, zero, suc, ◌+◌, ◌*◌, ◌-◌, ◌≤◌, ◌<◌, min, List, [], ◌∷◌, ◌++◌, length, take, drop, refl}
use Rattle.std.proofs.Common.{arith, sym, ap, ◌∙◌, inl, inr, append-nil, length-append, length-drop, take_all}
use Rattle.std.proofs.Math.Seq.{drop-append-add, take-append_seam}
use Rattle.std.proofs.lemmas.Bool.{cases_lt}
use Rattle.std.proofs.lemmas.List.{nil_from_length}
use Rattle.scene_state.specs.declared.state.Reading.{Reading}
use Rattle.scene_state.specs.Answers.{Answer, scene_of}
use Rattle.scene.specs.Scene.{Tables}
use Rattle.scene.specs.Progress.{tables_of, further, tables_further, taken_in}
use Rattle.read_scene.specs.Whole.{record_count, record_at, records_from, records}

-- a record as a part of the scene: what is left, or 64 bytes
pub short_record : (s : List ℕ) (k : ℕ) → length s - 64 * k < 64 → take (length s - 64 * k) (drop (64 * k) s) ≡ record_at s k
unfolding record_at
short_record s k l =
    let h : length (drop (64 * k) s) ≡ length s - 64 * k = length-drop (64 * k) s in
    take_all (length s - 64 * k) (drop (64 * k) s) (omega arith) ∙ sym (take_all 64 (drop (64 * k) s) (omega arith))

pub whole_record : (s : List ℕ) (k : ℕ) → take (64 * k + 64 - 64 * k) (drop (64 * k) s) ≡ record_at s k
unfolding record_at
whole_record s k = rw (let e : 64 * k + 64 - 64 * k ≡ 64 = omega arith in e)

-- all records are those from the first on
pub from_first : (s : List ℕ) (n : ℕ) → n ≡ record_count (length s) → records s ≡ records_from s 0 (n - 0)
unfolding records
from_first s n e = rw (let z : n - 0 ≡ record_count (length s) = omega (arith, e) in z)

-- by the records' numbers: record k, taken in, is left behind, and the tables behind it are c, p, h and b
module _ (a a' : Answer Reading) (t : Tables) (s piece : List ℕ) (k n : ℕ) (is : piece ≡ record_at s k) (l : k < n) (e : a' ≡ further a piece) where
  pub goes_on_at : (c p h b : List ℕ) →
      c ≡ (tables_further a piece t).cells → p ≡ (tables_further a piece t).perms → h ≡ (tables_further a piece t).shapes → b ≡ (tables_further a piece t).boxes →
      taken_in a t (records_from s k (n - k)) ≡ taken_in a' (tables_of c p h b) (records_from s (k + 1) (n - (k + 1)))
  unfolding taken_in records_from
  goes_on_at c p h b cs ps hs bs = rw (let m : n - k ≡ suc (n - (k + 1)) = omega arith in m, ← is, e, cs, ps, hs, bs)

-- and after the last one the input ends
pub ends_at : (a : Answer Reading) (t : Tables) (s : List ℕ) (k n : ℕ) → n ≤ k → taken_in a t (records_from s k (n - k)) ≡ record { answer = scene_of a; tables = t }
unfolding taken_in records_from
ends_at a t s k n l = rw (let m : n - k ≡ 0 = omega arith in m)

-- behind 64 bytes, the records are those of what is left
behind : (piece rest : List ℕ) (k n : ℕ) → length piece ≡ 64 → records_from (piece ++ rest) (k + 1) n ≡ records_from rest k n
unfolding records_from record_at
behind piece rest k zero e = refl
behind piece rest k (suc n) e =
    let at : 64 * (k + 1) ≡ length piece + 64 * k = omega (arith, e) in
    rw (at, drop-append-add, behind piece rest (k + 1) n e)

-- a piece of 64 bytes, or of all that are left, is the first record
pub records_more : (s piece rest : List ℕ) → s ≡ piece ++ rest → length piece ≡ min 64 (length s) → 0 < length s → records s ≡ piece ∷ records rest
unfolding records records_from record_at
records_more s piece rest parts size some =
    let sum : length s ≡ length piece + length rest = ap length parts ∙ length-append piece rest in
    let count : record_count (length s) ≡ suc (record_count (length rest)) = omega arith in
    elim (cases_lt (length s) 64) [
      | inl short ↦
          let none : rest ≡ [] = nil_from_length rest (omega arith) in
          let whole : s ≡ piece = parts ∙ rw (none, append-nil) in
          rw (count, none) (ap (λ (x : List ℕ). x ∷ []) (take_all 64 s (omega arith) ∙ whole))
      | inr long ↦
          let e : length piece ≡ 64 = omega arith in
          let left : ℕ = record_count (length rest) in
          let first : take 64 s ≡ piece = ap (take 64) parts ∙ rw (← e) (take-append_seam piece rest) in
          let others : records_from s (0 + 1) left ≡ records_from rest 0 left = ap (λ (x : List ℕ). records_from x (0 + 1) left) parts ∙ behind piece rest 0 left e in
          rw count (λ i. first i ∷ others i)
    ]

-- record by record: the tables behind the first one are c, p, h and b
pub goes_on : (a a' : Answer Reading) (t : Tables) (s piece rest : List ℕ) → s ≡ piece ++ rest → length piece ≡ min 64 (length s) → 0 < length s → a' ≡ further a piece →
    (c p h b : List ℕ) →
    c ≡ (tables_further a piece t).cells → p ≡ (tables_further a piece t).perms → h ≡ (tables_further a piece t).shapes → b ≡ (tables_further a piece t).boxes →
    taken_in a t (records s) ≡ taken_in a' (tables_of c p h b) (records rest)
unfolding taken_in
goes_on a a' t s piece rest parts size some e c p h b cs ps hs bs = rw (records_more s piece rest parts size some, e, cs, ps, hs, bs)

-- behind the last one the input ends
pub ends : (a : Answer Reading) (t : Tables) (s : List ℕ) → length s ≡ 0 → taken_in a t (records s) ≡ record { answer = scene_of a; tables = t }
unfolding taken_in records records_from
ends a t s e = rw e
