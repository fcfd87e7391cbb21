-- The words of a waypoint (01, "Tables", "Waypoint record"; 02, No. 5), and which waypoints 01 calls the same. Definitions only.
use Rattle.std.specs.Prelude.{ℕ, Bool, ◌&&◌, cond, eqb}
use Rattle.rooms.specs.declared.Feet.{Feet}
use Rattle.rooms.specs.declared.Label.{Label}

-- "Same point: equal bits, with -0.0 as 0."
unfoldable pub canonical_word : ℕ → ℕ
canonical_word n = cond (eqb n 0x8000_0000_0000_0000) 0 n

unfoldable pub same_word : ℕ → ℕ → Bool
same_word a b = eqb (canonical_word a) (canonical_word b)

unfoldable pub same_point : Feet → Feet → Bool
same_point p q = same_word p.x q.x && same_word p.y q.y && same_word p.z q.z

-- 01, Modules 5: "lifts compare as numbers": equal bits, with -0.0 as 0, for no edge's lift is a NaN (`lifts_as_numbers` of arrival); and 02, No. 5: "A route must
-- carry the right door too"
unfoldable pub alike : Label → Label → Bool
alike a b = eqb a.movement b.movement && (same_word a.lift b.lift && eqb a.door b.door)

-- the start's label: "the start first (Walk, lift 0)", and 02, No. 5: "the start has none", 4294967295
abbrev pub standing : Label
standing = record { lift = 0; movement = 0; door = 4294967295 }
