-- A number that an f64 holds is rounded to itself, and it is a whole number of the smallest ones.
use Rattle.std.specs.Prelude.{ℕ, zero, suc, ◌+◌, ◌-◌, ◌*◌, ◌%◌, ◌^◌, ◌≤◌, ◌<◌, ◌≡◌, refl, Bool, true, false, ◌&&◌, T, ltb, leb, eqb, ℤ, pos, negsuc, Float}
use Rattle.std.proofs.Common.{mul_assoc, mul_right_comm, mul-one, mul-lt-mul_of_pos_right, lt_of_lt_of_le, lt_irrefl, arith, sym, ap, ◌∙◌, subst, ltb-true, ltb-false, ltb→lt, leb→le, eqb→eq, pow-add, pow_pos, pow_mono, shl_lt}
use Rattle.std.proofs.Math.Pow.{pow-lt}
use Rattle.std.specs.Float.{nan, inf, fin, binary64}
use Rattle.std.specs.Float.Ieee.{fits, low, emax, prec, up, down, round, to_bits}
use Rattle.std.specs.Float.Ieee.Exact.{HasValue, round_exact}
use Rattle.std.specs.Float.Ieee.Nearest.{div_same}
use Rattle.std.specs.Float.Ieee.Fits.{down_pos, round-fits, and_l, and_r}
use Rattle.floats.specs.Laws.{equal_bits}

-- two f64s of one sign and one value are one
pub same_value : (x : Float) (s : Bool) (m : ℕ) (e : ℤ) → T (fits binary64 x) → T (fits binary64 (fin s m e)) → HasValue x s (m * up e) (down e) → x ≡ fin s m e
unfolding to_bits
same_value nan s m e h k v = absurd v
same_value (inf t) s m e h k v = absurd v
same_value (fin t n d) s m e h k v =
    equal_bits (fin t n d) (fin s m e) h k (rw (v.0, div_same (n * up d * 2 ^ low binary64) (down d) (m * up e * 2 ^ low binary64) (down e) (down_pos d) (down_pos e) (cross (n * up d) (down d) (m * up e) (down e) v.1)))
  where
    cross : (a b c d : ℕ) → a * d ≡ c * b → a * 2 ^ low binary64 * d ≡ c * 2 ^ low binary64 * b
    cross a b c d e = mul_right_comm a (2 ^ low binary64) d ∙ ap (λ (x : ℕ). x * 2 ^ low binary64) e ∙ mul_right_comm c b (2 ^ low binary64)

-- the exponent of an f64 is no less than that of the smallest one
small : (k : ℕ) → 2 ^ suc k ≤ 2 ^ low binary64 → suc k ≤ low binary64
small k h = go (ltb (low binary64) (suc k)) refl
  where
    go : (b : Bool) → ltb (low binary64) (suc k) ≡ b → suc k ≤ low binary64
    go false e = ltb-false (low binary64) (suc k) e
    go true e = absurd (lt_irrefl (2 ^ low binary64) (lt_of_lt_of_le (pow-lt {i = low binary64} {j = suc k} (ltb-true (low binary64) (suc k) e)) h))

-- a zero has no exponent
pub unit_exponent : (e : ℤ) → T (eqb (up e * down e) 1) → e ≡ pos zero
unit_exponent (pos zero) h = refl
unit_exponent (pos (suc k)) h = absurd (let z = pow_pos k in omega (arith, eqb→eq (2 ^ suc k * 1) 1 h))
unit_exponent (negsuc k) h = absurd (let z = pow_pos k in omega (arith, eqb→eq (1 * 2 ^ suc k) 1 h))

-- what `fits` says of a number that is no zero
digits_and_range : (s : Bool) (m : ℕ) (e : ℤ) → T (fits binary64 (fin s (suc m) e)) →
    (suc m < 2 ^ prec binary64) × (down e ≤ 2 ^ low binary64) × (suc m * up e < 2 ^ suc (emax binary64) * down e)
unfolding fits
digits_and_range s m e h =
    let a = eqb (suc m % 2) 1 in
    let b = ltb (suc m) (2 ^ prec binary64) in
    let c = leb (down e) (2 ^ low binary64) in
    let d = ltb (suc m * up e) (2 ^ suc (emax binary64) * down e) in
    let abc = and_l (a && b && c) d h in (
      ltb→lt (suc m) (2 ^ prec binary64) (and_r a b (and_l (a && b) c abc)),
      leb→le (down e) (2 ^ low binary64) (and_r (a && b) c abc),
      ltb→lt (suc m * up e) (2 ^ suc (emax binary64) * down e) (and_r (a && b && c) d h),
    )

-- the size of an f64 is a whole number of the smallest ones
exact : (s : Bool) (m : ℕ) (e : ℤ) → T (fits binary64 (fin s (suc m) e)) → HasValue (round binary64 s (suc m * up e) (down e)) s (suc m * up e) (down e)
exact s m (pos k) h =
    let l = low binary64 in
    let parts = digits_and_range s m (pos k) h in
    let digits : suc m < 2 ^ prec binary64 = parts.0 in
    let below : suc m * 2 ^ k < 2 ^ suc (emax binary64) * 1 = parts.2 in
    let split : suc m * 2 ^ (k + l) ≡ suc m * 2 ^ k * 2 ^ l = ap (λ (x : ℕ). suc m * x) (pow-add 2 k l) ∙ sym (mul_assoc (suc m) (2 ^ k) (2 ^ l)) in
    let bound : suc m * 2 ^ k * 2 ^ l < 2 ^ (l + suc (emax binary64)) = mul-lt-mul_of_pos_right {m = suc m * 2 ^ k} {n = 2 ^ suc (emax binary64) * 1} {k = 2 ^ l} below (pow_pos l) in
    round_exact binary64 s (suc m * 2 ^ k) 1 (suc m) (k + l) (omega arith) digits (subst (λ (x : ℕ). x < 2 ^ (l + suc (emax binary64))) (sym split) bound) (sym split ∙ sym (mul-one (suc m * 2 ^ (k + l))))
exact s m (negsuc k) h =
    let l = low binary64 in
    let parts = digits_and_range s m (negsuc k) h in
    let digits : suc m < 2 ^ prec binary64 = parts.0 in
    let fine : suc k ≤ l = small k parts.1 in
    let whole : l - suc k + suc k ≡ l = omega arith in
    let split : 2 ^ l ≡ 2 ^ (l - suc k) * 2 ^ suc k = ap (λ (x : ℕ). 2 ^ x) (sym whole) ∙ pow-add 2 (l - suc k) (suc k) in
    round_exact binary64 s (suc m * 1) (2 ^ suc k) (suc m) (l - suc k) (pow_pos (suc k)) digits
    (lt_of_lt_of_le (shl_lt (prec binary64) (l - suc k) digits) (pow_mono {i = prec binary64 + (l - suc k)} {j = l + suc (emax binary64)} (omega arith)))
    (ap (λ (x : ℕ). x * 2 ^ l) (mul-one (suc m)) ∙ ap (λ (x : ℕ). suc m * x) split ∙ sym (mul_assoc (suc m) (2 ^ (l - suc k)) (2 ^ suc k)))

pub round_itself : (s : Bool) (m : ℕ) (e : ℤ) → T (fits binary64 (fin s (suc m) e)) → round binary64 s (suc m * up e) (down e) ≡ fin s (suc m) e
round_itself s m e h = same_value (round binary64 s (suc m * up e) (down e)) s (suc m) e (round-fits binary64 s (suc m * up e) (down e)) h (exact s m e h)

-- ---- so many of the smallest ones make up the unit of an f64's fraction

pub fine_unit : (s : Bool) (m : ℕ) (e : ℤ) → T (fits binary64 (fin s m e)) → (g : ℕ) × (g * down e ≡ 2 ^ low binary64)
unfolding fits
fine_unit s zero e h = let z = unit_exponent e h in (2 ^ low binary64, rw z (mul-one (2 ^ low binary64)))
fine_unit s (suc m) (pos k) h = (2 ^ low binary64, mul-one (2 ^ low binary64))
fine_unit s (suc m) (negsuc k) h =
    let l = low binary64 in
    let fine : suc k ≤ l = small k (digits_and_range s m (negsuc k) h).1 in
    let whole : l - suc k + suc k ≡ l = omega arith in
    (2 ^ (l - suc k), sym (pow-add 2 (l - suc k) (suc k)) ∙ ap (λ (x : ℕ). 2 ^ x) whole)
