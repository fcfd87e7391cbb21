-- A record of words, written word by word: the table that is still to be made of the one that has the first i.
use Prim.Native.Nat.{ℕ, zero, suc, ◌+◌, ◌-◌, ◌*◌, ◌/◌, ◌<◌, ◌≤◌}
use native.Mathlib.Omega.{arith}
use Rattle.std.proofs.Common.{le-div_iff_mul-le, div-lt_iff_lt-mul, mul-suc, mul_comm, subst, ◌∙◌, drop-cons}
use Rattle.std.specs.Prelude.{◌≡◌, Bool, get_or, drop, replicate}
use Rattle.std.proofs.Math.Path.{refl, ap}
use Rattle.std.proofs.Math.Bool.{true, false, cond}
use mathlib.Core.List.{List, [], ◌∷◌}
use borrow.Author.Tests.{le-leb, lt-leb}
use Rattle.std.proofs.Math.ListN.{length}
use Rattle.fields.specs.Little.{fits_at, with_field}
use Rattle.fields.specs.Records.{record_size, with_fields, with_record, with_words}

-- whether record k, of n words, is one of a table
module _ (n k long : ℕ) (some : 0 < 8 * n) where
  size_of : suc k * (8 * n) ≡ 8 * n * k + 8 * n
  size_of = mul_comm (suc k) (8 * n) ∙ mul-suc (8 * n) k

  pub inside : k < long / (8 * n) → 8 * n * k + 8 * n ≤ long
  inside h = subst (λ (m : ℕ). m ≤ long) size_of ((le-div_iff_mul-le some).0 h)

  pub outside : long / (8 * n) ≤ k → long < 8 * n * k + 8 * n
  outside h = subst (λ (m : ℕ). long < m) size_of ((div-lt_iff_lt-mul some).0 (omega arith))

size : (n : ℕ) → record_size (replicate n 8) ≡ 8 * n
size zero = refl
size (suc n) = omega (arith, size n)

-- the words from number i on, where the record is one of the table
unfoldable pub rest : List ℕ → ℕ → List ℕ → ℕ → List ℕ → List ℕ
rest old k words i s =
    cond (fits_at (8 * length words) old (8 * length words * k))
    (with_fields (replicate (length words - i) 8) s (8 * length words * k) (8 * i) (drop i words))
    s

module _ (old : List ℕ) (k : ℕ) (words : List ℕ) where
  pub rest_all : with_words old k words ≡ rest old k words 0 old
  unfolding rest with_record
  rest_all = let z : length words - 0 ≡ length words = omega arith in rw (size (length words), z)

  pub rest_more : (i : ℕ) (s : List ℕ) → i < length words → k < length old / (8 * length words) →
      rest old k words i s ≡ rest old k words (i + 1) (with_field 8 s (8 * length words * k + 8 * i) (get_or words i 0))
  unfolding rest
  rest_more i s h l =
      let t = le-leb (8 * length words * k + 8 * length words) (length old) (inside (length words) k (length old) (omega arith) l) in
      rw t (ap (λ (m : ℕ). with_fields (replicate m 8) s at (8 * i) (drop i words)) one
      ∙ ap (λ (vs : List ℕ). with_fields (replicate (suc left) 8) s at (8 * i) vs) (drop-cons words i 0 h)
      ∙ ap (λ (by : ℕ). with_fields (replicate left 8) new at by (drop (suc i) words)) by
      ∙ ap (λ (j : ℕ). with_fields (replicate left 8) new at (8 * (i + 1)) (drop j words)) next)
    where
      at : ℕ
      at = 8 * length words * k

      left : ℕ
      left = length words - (i + 1)

      new : List ℕ
      new = with_field 8 s (at + 8 * i) (get_or words i 0)

      one : length words - i ≡ suc left
      one = omega arith

      by : 8 * i + 8 ≡ 8 * (i + 1)
      by = omega arith

      next : suc i ≡ i + 1
      next = omega arith

  pub rest_none : (i : ℕ) (s : List ℕ) → length words ≤ i → rest old k words i s ≡ s
  unfolding rest
  rest_none i s h = let z : length words - i ≡ 0 = omega arith in rw z (go (fits_at (8 * length words) old (8 * length words * k)))
    where
      go : (b : Bool) → cond b s s ≡ s
      go true = refl
      go false = refl

  pub rest_out : (i : ℕ) (s : List ℕ) → i < length words → length old / (8 * length words) ≤ k → rest old k words i s ≡ s
  unfolding rest
  rest_out i s h l = rw (lt-leb (8 * length words * k + 8 * length words) (length old) (outside (length words) k (length old) (omega arith) l))

-- nothing is written where the record is none of the table
pub none_out : (old : List ℕ) (k : ℕ) (words : List ℕ) → (0 < 8 * length words → length old / (8 * length words) ≤ k) → rest old k words 0 old ≡ old
none_out old k [] h = rest_none old k [] 0 old (omega arith)
none_out old k (w ∷ words) h = rest_out old k (w ∷ words) 0 old (omega arith) (h (omega arith))
