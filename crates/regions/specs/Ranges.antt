-- The cells from one to another along an axis, and what they hold, in order. Definitions only.
use Rattle.std.specs.Prelude.{ℕ, zero, suc, List, [], ◌++◌, ℤ, pos, ◌+ℤ◌, ◌-ℤ◌}
use Rattle.cells.specs.Parts.{over}
use Rattle.regions.specs.declared.Range.{Range}

-- how many cells there are from low to high
unfoldable pub count : ℤ → ℤ → ℕ
count low high = over (high -ℤ low +ℤ pos 1)

-- the cells from low to high
abbrev pub range : ℤ → ℤ → Range
range low high = record { first = low; last = high }

-- what the n numbers from k up hold, one after the other
unfoldable pub gather : {A : Type 0} → (ℕ → List A) → ℕ → ℕ → List A
gather f k zero = []
gather f k (suc n) = f k ++ gather f (suc k) n

-- what the cells from low to high hold
unfoldable pub along : {A : Type 0} → (ℤ → List A) → ℤ → ℤ → List A
along f low high = gather (λ k. f (low +ℤ pos k)) 0 (count low high)
