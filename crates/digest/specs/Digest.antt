-- How a digest takes in one more number. Definitions only.
use Rattle.std.specs.Prelude.{ℕ, ◌+◌, ◌*◌, ◌/◌, ◌%◌, ◌^◌, bit_xor}

-- Marsaglia's xorshift of 64 bits
abbrev pub stirred : ℕ → ℕ
stirred w =
    let a = bit_xor w (w * 2 ^ 13 % 2 ^ 64) in
    let b = bit_xor a (a / 2 ^ 7) in
    bit_xor b (b * 2 ^ 17 % 2 ^ 64)

-- the digest d and one more number
abbrev pub with_number : ℕ → ℕ → ℕ
with_number d answer = stirred ((d + bit_xor answer 0x9e37_79b9_7f4a_7c15) % 2 ^ 64)
