-- Fields of a piece of a table: behind an offset, before one, behind other bytes; and a table with a field set, piece by piece.
pub use Rattle.fields.specs.Bytes.{Bytes}
use Rattle.std.specs.Prelude.{ℕ, zero, suc, ◌+◌, ◌*◌, ◌/◌, ◌%◌, ◌^◌, ◌<◌, ◌≤◌, ◌≡◌, refl, Bool, true, false, cond, List, [], ◌∷◌, ◌++◌, length, get_or, set, take, drop}
use Rattle.std.specs.Int.{sum_through, byte_worth}
use Rattle.std.proofs.Common.{arith, mul_comm, pow-suc, mod-eq_of_lt, sym, ap, ◌∙◌, append_assoc, length-append, length-take, length-drop, drop-cons, get_or-drop, get_or-take, drop-set-lt}
use Rattle.std.proofs.Math.Nat.{mod-one, pow-zero, div-eq_of_lt, add-mul-mod_self_left, add-mul-div_left, min-le_right, le-min}
use Rattle.std.proofs.lemmas.List.Edits.{sets, sets-eq}
use Rattle.std.proofs.Math.Seq.{drop-append_seam}
use Rattle.std.proofs.Math.Arith.{mod-mul}
use Rattle.fields.specs.Little.{le_at, bytes_of, fits_at, field, with_field}
use Rattle.fields.proofs.Laws.{le_parts, field_in, field_parts, with_in, length_bytes, le_same, leb_same, positive}

-- ---- reading

none : (s : List ℕ) (at : ℕ) → field 0 s at ≡ 0
unfolding field
none s at = go (fits_at 0 s at)
  where
    go : (b : Bool) → cond b (le_at 0 s at) 0 ≡ 0
    go true = refl
    go false = refl

le_drop : (n k : ℕ) (s : List ℕ) (at : ℕ) → le_at n (drop k s) at ≡ le_at n s (k + at)
le_drop zero k s at = refl
le_drop (suc n) k s at =
    let first : get_or (drop k s) at 0 ≡ get_or s (k + at) 0 = get_or-drop k s at 0 in
    let rest : le_at n (drop k s) (suc at) ≡ le_at n s (k + suc at) = le_drop n k s (suc at) in
    let there : k + suc at ≡ suc (k + at) = omega arith in
    rw (first, rest, there)

-- a field behind an offset is a field of the whole
pub field_drop : (n k : ℕ) (s : List ℕ) (at : ℕ) → field n (drop k s) at ≡ field n s (k + at)
unfolding field
field_drop zero k s at = none (drop k s) at ∙ sym (none s (k + at))
field_drop (suc n) k s at =
    let test : fits_at (suc n) (drop k s) at ≡ fits_at (suc n) s (k + at) =
    leb_same (at + suc n) (length (drop k s)) (k + at + suc n) (length s) (λ h. omega (arith, length-drop k s)) (λ h. omega (arith, length-drop k s)) in
    rw (test, le_drop (suc n) k s at)

-- and so is one that ends before an offset
pub field_take : (n k : ℕ) (s : List ℕ) (at : ℕ) → at + n ≤ k → field n (take k s) at ≡ field n s at
unfolding field
field_take n k s at h =
    let test : fits_at n (take k s) at ≡ fits_at n s at =
    leb_same (at + n) (length (take k s)) (at + n) (length s)
    (λ l. omega (arith, length-take k s, min-le_right k (length s)))
    (λ l. omega (arith, length-take k s, le-min {k = at + n} {a = k} {b = length s} h l)) in
    let bytes : le_at n (take k s) at ≡ le_at n s at = le_same n (take k s) s at (λ j a b. get_or-take k s j 0 (omega arith)) in
    rw (test, bytes)

-- what std reads of bytes: a sum of what each one is worth
through : (n : ℕ) (b : List ℕ) → sum_through (λ i. byte_worth i (get_or b i 0)) n ≡ le_at (suc n) b 0
through zero b = omega arith
through (suc n) b =
    let parts : le_at (suc n + 1) b 0 ≡ le_at (suc n) b 0 + 256 ^ suc n * le_at 1 b (0 + suc n) = le_parts (suc n) 1 b 0 in
    let width : suc n + 1 ≡ suc (suc n) = omega arith in
    let there : 0 + suc n ≡ suc n = omega arith in
    let last : le_at 1 b (suc n) ≡ get_or b (suc n) 0 = omega arith in
    let turned : 256 ^ suc n * get_or b (suc n) 0 ≡ get_or b (suc n) 0 * 256 ^ suc n = mul_comm (256 ^ suc n) (get_or b (suc n) 0) in
    rw (through n b) (sym (rw (width, there, last, turned) at parts))

-- so of a field's bytes it reads the field
pub whole_bytes : (n : ℕ) (s : List ℕ) (at : ℕ) (b : List ℕ) → at + suc n ≤ length s → b ≡ take (suc n) (drop at s) → sum_through (λ i. byte_worth i (get_or b i 0)) n ≡ field (suc n) s at
whole_bytes n s at b h e =
    let long : length (take (suc n) (drop at s)) ≡ suc n = omega (arith, length-take (suc n) (drop at s), length-drop at s) in
    let here : at + 0 ≡ at = omega arith in
    through n b ∙ rw e (sym (field_in (suc n) (take (suc n) (drop at s)) 0 (omega arith)))
    ∙ field_take (suc n) (suc n) (drop at s) 0 (omega arith) ∙ field_drop (suc n) at s 0 ∙ rw here

-- a field behind another table
pub field_second : (n : ℕ) (s t : List ℕ) (at : ℕ) → field n (s ++ t) (length s + at) ≡ field n t at
field_second n s t at = sym (field_drop n (length s) (s ++ t) at) ∙ ap (λ (l : List ℕ). field n l at) (drop-append_seam s t)

-- the bytes of a number in front are that number
le_cons : (n b : ℕ) (s : List ℕ) (at : ℕ) → le_at n (b ∷ s) (suc at) ≡ le_at n s at
le_cons zero b s at = refl
le_cons (suc n) b s at = rw (le_cons n b s (suc at))

le_front : (n v : ℕ) (s : List ℕ) → le_at n (bytes_of n v ++ s) 0 ≡ v % 256 ^ n
le_front zero v s = sym (mod-one v)
le_front (suc n) v s =
    let rest : le_at n (v % 256 ∷ (bytes_of n (v / 256) ++ s)) 1 ≡ v / 256 % 256 ^ n = le_cons n (v % 256) (bytes_of n (v / 256) ++ s) 0 ∙ le_front n (v / 256) s in
    rw (rest, pow-suc, mod-mul v {m = 256 ^ n} {c = 256} (positive n) (omega arith)) (omega arith)

pub field_front : (n v : ℕ) (s : List ℕ) → v < 256 ^ n → field n (bytes_of n v ++ s) 0 ≡ v
field_front n v s h =
    field_in n (bytes_of n v ++ s) 0 (omega (arith, length-append (bytes_of n v) s, length_bytes n v)) ∙ le_front n v s ∙ mod-eq_of_lt h

-- ---- tables whose elements are bytes

le_below : (n : ℕ) (s : List ℕ) (at : ℕ) → Bytes s → le_at n s at < 256 ^ n
le_below zero s at b = rw pow-zero (omega arith)
le_below (suc n) s at b = rw pow-suc (omega (arith, b at, le_below n s (suc at) b))

-- n bytes are a number below 256^n
pub field_below : (n : ℕ) (s : List ℕ) (at : ℕ) → Bytes s → field n s at < 256 ^ n
unfolding field
field_below n s at b = go (fits_at n s at)
  where
    go : (t : Bool) → cond t (le_at n s at) 0 < 256 ^ n
    go true = le_below n s at b
    go false = positive n

-- a field of two parts taken apart: an 8-byte record of two u32 is read by one u64
module _ (n m : ℕ) (s : List ℕ) (at : ℕ) (b : Bytes s) (h : at + (n + m) ≤ length s) where
  pub low_part : field (n + m) s at % 256 ^ n ≡ field n s at
  low_part = ap (λ (k : ℕ). k % 256 ^ n) (field_parts n m s at h) ∙ add-mul-mod_self_left (field n s at) (256 ^ n) (field m s (at + n)) ∙ mod-eq_of_lt (field_below n s at b)

  pub high_part : field (n + m) s at / 256 ^ n ≡ field m s (at + n)
  high_part =
      ap (λ (k : ℕ). k / 256 ^ n) (field_parts n m s at h) ∙ add-mul-div_left (field n s at) (field m s (at + n)) {y = 256 ^ n} (positive n)
      ∙ rw (div-eq_of_lt (field_below n s at b)) (omega arith)

-- reading undoes writing: the bytes of a field are the table's
le_bytes : (n : ℕ) (s : List ℕ) (at : ℕ) → Bytes s → at + n ≤ length s → bytes_of n (le_at n s at) ≡ take n (drop at s)
le_bytes zero s at b h = refl
le_bytes (suc n) s at b h =
    let byte : get_or s at 0 < 256 = b at in
    let first : (get_or s at 0 + 256 * le_at n s (suc at)) % 256 ≡ get_or s at 0 = omega arith in
    let rest : (get_or s at 0 + 256 * le_at n s (suc at)) / 256 ≡ le_at n s (suc at) = omega arith in
    rw (first, rest, drop-cons s at 0 (omega arith)) (ap (λ (l : List ℕ). get_or s at 0 ∷ l) (le_bytes n s (suc at) b (omega arith)))

pub bytes_field : (n : ℕ) (s : List ℕ) (at : ℕ) → Bytes s → at + n ≤ length s → bytes_of n (field n s at) ≡ take n (drop at s)
bytes_field n s at b h = ap (bytes_of n) (field_in n s at h) ∙ le_bytes n s at b h

-- ---- writing

-- the table with a field set: the bytes before it, its own, the bytes behind it
pub with_is : (n : ℕ) (s : List ℕ) (at v : ℕ) → at + n ≤ length s → with_field n s at v ≡ take at s ++ (bytes_of n v ++ drop (at + n) s)
with_is n s at v h =
    with_in n s at v h ∙ sets-eq (bytes_of n v) s at (omega (arith, length_bytes n v))
    ∙ ap (λ (k : ℕ). take at s ++ bytes_of n v ++ drop (at + k) s) (length_bytes n v) ∙ append_assoc (take at s) (bytes_of n v) (drop (at + n) s)

drop_sets : (k : ℕ) (vs s : List ℕ) (i : ℕ) → i + length vs ≤ k → drop k (sets s i vs) ≡ drop k s
drop_sets k [] s i h = refl
drop_sets k (v ∷ vs) s i h = drop_sets k vs (set s i v) (suc i) (omega arith) ∙ drop-set-lt k s i v (omega arith)

-- what lies behind a field stays
pub drop_with : (k n : ℕ) (s : List ℕ) (at v : ℕ) → at + n ≤ k → drop k (with_field n s at v) ≡ drop k s
unfolding with_field
drop_with k n s at v h = go (fits_at n s at)
  where
    go : (b : Bool) → drop k (cond b (sets s at (bytes_of n v)) s) ≡ drop k s
    go true = drop_sets k (bytes_of n v) s at (rw length_bytes h)
    go false = refl
