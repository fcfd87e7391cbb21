-- Numbers in digits, as lists of bytes (01, "Scenes and walkprint"): "Floats print as 16 hex digits of their bits"; counts are decimal.
use Rattle.std.specs.Prelude.{ℕ, zero, suc, ◌+◌, ◌/◌, ◌%◌, cond, List, [], ◌∷◌, ◌++◌, ltb}

-- a digit's byte: 0 to 9 from 48 on, a to f from 97 on
unfoldable pub digit : ℕ → ℕ
digit d = cond (ltb d 10) (48 + d) (87 + d)

-- the last n digits of v to a base, the highest first
abbrev pub digits : ℕ → ℕ → ℕ → List ℕ
digits base zero v = []
digits base (suc n) v = digits base n (v / base) ++ (digit (v % base) ∷ [])

-- how many decimal digits v has: one, and one more for each time that a tenth of it is left. It has no more digits than v + 1, so v tenths are enough.
abbrev pub places_by : ℕ → ℕ → ℕ
places_by zero v = 1
places_by (suc most) v = cond (ltb v 10) 1 (suc (places_by most (v / 10)))

unfoldable pub places : ℕ → ℕ
places v = places_by v v

-- "16 hex digits"
unfoldable pub hex : ℕ → List ℕ
hex v = digits 16 16 v

-- a count, in as many decimal digits as it has
unfoldable pub decimal : ℕ → List ℕ
decimal v = digits 10 (places v) v
