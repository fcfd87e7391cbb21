-- What `nearest_root` goes by: the bounds of a pattern, the number made even, and that the pattern it makes is the root's. Assumes nothing.
use mathlib.Core.Path.{◌≡◌, refl, sym, ap, ◌∙◌, subst}
use mathlib.Core.Bool.{Bool, true, false, not}
use mathlib.Core.Logic.{◌⊎◌, inl, inr}
use Prim.Native.Nat.{ℕ, zero, suc, ◌-◌, ◌*◌, ◌/◌, ◌%◌, ◌^◌, ◌≤◌, ◌<◌}
use native.Mathlib.Nat.{lt_of_lt_of_le, zero-lt-suc, mod-lt, mod-eq_of_lt}
use native.Mathlib.Omega.{arith}
use lib.Dec.{T, lit≤}
use lib.Arith.{le→nltb}
use lib.Ieee.{Float, nan, inf, fin, binary64, size, fits, is_nan, of_bits, to_bits, nan_bits}
use lib.Ieee.Digits.{size-le}
use lib.Ieee.Fits.{kept-lt}
use lib.Ieee.Bits.{of_bits-to_bits, nan_bits_above}
use lib.Ieee.Positive.{positive}
use Rattle.root.specs.Root.{quanta}
use Rattle.root.specs.Method.{Whole, Scaled, widened, pattern, root_of}
use Rattle.root.specs.Quanta.{bits_by_size, size-lt}
use Rattle.root.specs.Near.{one_or_two}
use Rattle.root.specs.Laws.{only_root, right_at, root_of_right}

-- ---- the pattern of x

pub no_nan : (x : Float) → T (positive x) → T (not (is_nan x))
unfolding is_nan
no_nan nan p = absurd p
no_nan (inf s) p = tt
no_nan (fin s m e) p = tt

pub bits_lt : (x : Float) → T (fits binary64 x) → T (positive x) → to_bits binary64 x < 2047 * 2 ^ 52
bits_lt nan t p = absurd p
bits_lt (inf s) t p = absurd p
bits_lt (fin true m e) t p = absurd p
bits_lt (fin false m e) t p =
    let n = quanta (fin false m e) in
    let k = size n - 53 in
    let s : size n ≤ 2098 = size-le n 2098 (size-lt (fin false m e) t p) in
    let q : n / 2 ^ k < 2 ^ 53 = kept-lt 53 n in
    subst (λ (x : ℕ). x < 2047 * 2 ^ 52) (sym (bits_by_size m e)) (omega arith)

zero_not_positive : T (positive (of_bits binary64 0)) → ⊥
unfolding of_bits
zero_not_positive p = p

pub bits_pos : (x : Float) → T (fits binary64 x) → T (positive x) → 0 < to_bits binary64 x
bits_pos x t p = go (to_bits binary64 x) refl
  where
    go : (b : ℕ) → to_bits binary64 x ≡ b → 0 < b
    go zero e = absurd (zero_not_positive (subst (λ (y : Float). T (positive y)) (sym (of_bits-to_bits binary64 x t) ∙ ap (of_bits binary64) e) p))
    go (suc b) e = zero-lt-suc b

-- ---- the root's digits

pub evened : (m e : ℕ) → m < 2 ^ 53 → (m * 2 ^ (e % 2) % 2 ^ 64 ≡ m * 2 ^ (e % 2)) × (m * 2 ^ (e % 2) < 2 ^ 54)
evened m e h = let l = width (2 ^ (e % 2)) (one_or_two (e % 2) (mod-lt e (zero-lt-suc 1))) in (mod-eq_of_lt (lt_of_lt_of_le l (lit≤ tt)), l)
  where
    width : (p : ℕ) → (p ≡ 1) ⊎ (p ≡ 2) → m * p < 2 ^ 54
    width p (inl e) = let x : m * p ≡ m * 1 = ap (λ (y : ℕ). m * y) e in omega arith
    width p (inr e) = let x : m * p ≡ m * 2 = ap (λ (y : ℕ). m * y) e in omega arith

pub evened_whole : (m e r : ℕ) → m < 2 ^ 53 → Whole (m * 2 ^ (e % 2) % 2 ^ 64 * 2 ^ 54) r → Whole (widened m e) r
evened_whole m e r h w = subst (λ (x : ℕ). Whole (x * 2 ^ 54) r) (evened m e h).0 w

pub no_nan_bits : (b : ℕ) → b < 2047 * 2 ^ 52 → T (not (nan_bits binary64 b))
no_nan_bits b h = subst (λ (t : Bool). T (not t)) (sym (nan_bits_above binary64 b)) (le→nltb (2047 * 2 ^ 52) (b % 2 ^ 63) (omega arith))

pub right_root : (x : Float) (m e r : ℕ) → T (fits binary64 x) → T (positive x) → Scaled x m e → Whole (m * 2 ^ (e % 2) % 2 ^ 64 * 2 ^ 54) r → of_bits binary64 (pattern e r) ≡ root_of x
right_root x m e r t p s w = only_root x (of_bits binary64 (pattern e r)) (root_of x) (right_at x m e r s (evened_whole m e r s.small w)) (root_of_right x t p)
