-- How a field of a line stands in a buffer, with the byte that ends it; and what those who write the fields of a line one behind another promise each other.
use Rattle.std.specs.Prelude.{ℕ, suc, ◌+◌, ◌≤◌, ◌≡◌, cond, List, [], ◌∷◌, ◌++◌, leb, length, set}
use Rattle.std.proofs.Common.{ap, ◌∙◌, add-zero, arith, le-leb, length-append}
use Rattle.std.proofs.lemmas.List.Edits.{sets}
use Rattle.std.proofs.Math.Seq.{length-sets}

-- a field stands at an offset from which on the buffer has 21 bytes; any other buffer stays as it is
unfoldable pub with_field : List ℕ → ℕ → ℕ → List ℕ → List ℕ
with_field field end at s = cond (leb (at + 21) (length s)) (sets s at (field ++ (end ∷ []))) s

-- the offset behind it, or the same offset where nothing was written
unfoldable pub behind : List ℕ → ℕ → List ℕ → ℕ
behind field at s = cond (leb (at + 21) (length s)) (at + (length field + 1)) at

-- bytes were written from an offset on, and the next offset is r
pub record Wrote (old new : List ℕ) (at r : ℕ) (bytes : List ℕ) : Type 0 where
  pub is : new ≡ sets old at bytes
  pub next : r ≡ at + length bytes

-- a field was written with the byte that ends it: no field has more than 20 bytes, and the buffer is as long as it was
pub record Field (old new : List ℕ) (at r : ℕ) (field : List ℕ) (end : ℕ) : Type 0 where
  pub wrote : Wrote old new at r (field ++ (end ∷ []))
  pub short : r ≤ at + 21
  pub size : length new ≡ length old

-- a run of stores in two parts
pub sets_append : (a b s : List ℕ) (i : ℕ) → sets s i (a ++ b) ≡ sets (sets s i a) (i + length a) b
sets_append [] b s i = rw (add-zero i)
sets_append (x ∷ a) b s i = let there : i + suc (length a) ≡ suc i + length a = omega arith in rw there (sets_append a b (set s i x) (suc i))

-- a field, once its bytes and the one that ends it are stored
pub field_is : (s t f : List ℕ) (at r end : ℕ) → t ≡ sets s at (f ++ (end ∷ [])) → r ≡ at + (length f + 1) → length f ≤ 20 → Field s t at r f end
field_is s t f at r end e n h =
    let size : length (f ++ (end ∷ [])) ≡ length f + 1 = length-append f (end ∷ []) in
    record { wrote = record { is = e; next = omega arith }; short = omega arith; size = ap length e ∙ length-sets s at (f ++ (end ∷ [])) }

-- the room that is left behind it
pub left : {s t f : List ℕ} {at r end : ℕ} (n : ℕ) → Field s t at r f end → at + (21 + n) ≤ length s → r + n ≤ length t
left n w room = omega (arith, w.short, w.size)

-- a field where there is room for one, and for n bytes behind it
pub placed : (s t f : List ℕ) (at r end n : ℕ) → at + (21 + n) ≤ length s → length f ≤ 20 → r ≡ behind f at s → t ≡ with_field f end at s →
    Field s t at r f end × (r + n ≤ length t)
unfolding with_field behind
placed s t f at r end n room short next e =
    let yes = le-leb (at + 21) (length s) (omega arith) in
    let field = field_is s t f at r end (rw yes at e) (rw yes at next) short in
    (field, left n field room)
