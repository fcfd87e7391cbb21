-- The bytes of a number as std has them, byte i by a division by 256^i, are those of `fields`, one division by 256 after the other.
use Rattle.std.specs.Prelude.{ℕ, zero, suc, ◌+◌, ◌≤◌, cond, length, ◌/◌, ◌%◌, ◌^◌, ◌≡◌, refl, List}
use Rattle.std.specs.Int.{byte_at, bytes_low_first}
use Rattle.std.proofs.Common.{arith, le-leb, take-append-drop, div-one, pow-suc, sym, ap, ◌∙◌}
use Rattle.std.proofs.Math.Nat.{pow-zero, div-div-eq-div-mul}
use borrow.Rule.Slice.PartMut.{put_mid}
use Rattle.std.proofs.lemmas.List.Edits.{sets, sets-eq}
use Rattle.std.proofs.lemmas.Slice.{take-put_mid, drop-put_mid}
use Rattle.fields.specs.Little.{bytes_of, fits_at}

byte_is : (i v : ℕ) → byte_at i v ≡ v / 256 ^ i % 256
byte_is zero v = rw (pow-zero 256, div-one v)
byte_is (suc i) v = refl

from_byte : (k i v : ℕ) → bytes_low_first i k v ≡ bytes_of k (v / 256 ^ i)
from_byte zero i v = refl
from_byte (suc k) i v =
    let next : v / 256 ^ suc i ≡ v / 256 ^ i / 256 = ap (λ (n : ℕ). v / n) (pow-suc 256 i) ∙ sym (div-div-eq-div-mul v (256 ^ i) 256) in
    rw (byte_is i v, from_byte k (suc i) v, next)

pub low_bytes : (k v : ℕ) → bytes_low_first 0 k v ≡ bytes_of k v
low_bytes k v = from_byte k 0 v ∙ rw (pow-zero 256, div-one v)

-- a part of a table written over is those bytes set
pub part_sets : (at n k : ℕ) (s ys vs : List ℕ) → at + n ≤ length s → k ≡ n → ys ≡ vs → length vs ≡ n → put_mid at k s ys ≡ cond (fits_at n s at) (sets s at vs) s
part_sets at n k s ys vs h e same long =
    let f = le-leb (at + n) (length s) h in
    let l : length ys ≡ n = ap length same ∙ long in
    rw f (
    sym (take-append-drop (at + n) (put_mid at k s ys))
    ∙ rw (take-put_mid at k s ys (at + n) (omega arith) (omega arith), drop-put_mid at k s ys (at + n) (omega arith) (omega arith) (omega arith), same, ← long) (sym (sets-eq vs s at (omega arith)))
    )
