-- Whether an index room is of a wrong size (02, No. 7: "Keep an index in a room of its own, u32 slots, a power of two and at least twice the budget";
-- "Refusals: 5 also for an index room of a wrong size."). Definitions only.
use Rattle.std.specs.Prelude.{ℕ, zero, suc, ◌*◌, ◌/◌, ◌%◌, ◌^◌, Bool, false, not, ◌&&◌, ◌||◌, ◌==◌, nat_le}

-- n is 2 ^ j for a j below k
abbrev pub power_below : ℕ → ℕ → Bool
power_below zero n = false
power_below (suc k) n = n == 2 ^ k || power_below k n

-- "a power of two": only a j below n can give n, because j is below 2 ^ j
unfoldable pub is_power : ℕ → Bool
is_power n = power_below n n

-- so many bytes, for a budget
unfoldable pub wrong_size : ℕ → ℕ → Bool
wrong_size bytes budget = not (bytes % 4 == 0 && is_power (bytes / 4) && nat_le (2 * budget) (bytes / 4))
