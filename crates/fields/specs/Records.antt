-- Records (01: "Tables, little-endian records"): fields one behind another. A record's layout ws is the list of its fields' widths, as 8, 8, 8, 8, 8
-- for a waypoint and 4, 4 for a cell. Its values are the list of its fields, as numbers.
use Rattle.std.specs.Prelude.{ℕ, zero, suc, ◌+◌, ◌*◌, ◌^◌, ◌<◌, cond, List, [], ◌∷◌, ◌++◌, length, replicate}
use Rattle.fields.specs.Little.{bytes_of, fits_at, field, with_field}

-- how many bytes a record has
abbrev pub record_size : List ℕ → ℕ
record_size [] = 0
record_size (n ∷ ns) = n + record_size ns

-- the fields of a layout from offset at + by on
abbrev pub fields_at : List ℕ → List ℕ → ℕ → ℕ → List ℕ
fields_at [] s at by = []
fields_at (n ∷ ns) s at by = field n s (at + by) ∷ fields_at ns s at (by + n)

-- the table with those fields set, the first one first
abbrev pub with_fields : List ℕ → List ℕ → ℕ → ℕ → List ℕ → List ℕ
with_fields [] s at by vs = s
with_fields (n ∷ ns) s at by [] = s
with_fields (n ∷ ns) s at by (v ∷ vs) = with_fields ns (with_field n s (at + by) v) at (by + n) vs

-- the record at an offset, and the table with that record set; where not all of it fits, nothing is
abbrev pub record_at : List ℕ → List ℕ → ℕ → List ℕ
record_at ws s at = fields_at ws s at 0

unfoldable pub with_record : List ℕ → List ℕ → ℕ → List ℕ → List ℕ
with_record ws s at vs = cond (fits_at (record_size ws) s at) (with_fields ws s at 0 vs) s

-- a table of records that are so many u64 each: record k set to these
abbrev pub with_words : List ℕ → ℕ → List ℕ → List ℕ
with_words s k vs = with_record (replicate (length vs) 8) s (8 * length vs * k) vs

-- a record in bytes, and records one behind another
abbrev pub record_bytes : List ℕ → List ℕ → List ℕ
record_bytes [] vs = []
record_bytes (n ∷ ns) [] = []
record_bytes (n ∷ ns) (v ∷ vs) = bytes_of n v ++ record_bytes ns vs

abbrev pub records_bytes : {A : Type 0} → (A → List ℕ) → List A → List ℕ
records_bytes bytes [] = []
records_bytes bytes (x ∷ xs) = bytes x ++ records_bytes bytes xs

-- a value for each field, none too large for it
abbrev pub Fill : List ℕ → List ℕ → Type 0
Fill [] [] = Unit {0}
Fill [] (v ∷ vs) = ⊥
Fill (n ∷ ns) [] = ⊥
Fill (n ∷ ns) (v ∷ vs) = (v < 256 ^ n) × Fill ns vs

-- the first n values of a function, as a list: record k of a table is a function of k
abbrev pub firsts : {A : Type 0} → ℕ → (ℕ → A) → List A
firsts zero g = []
firsts (suc n) g = firsts n g ++ (g n ∷ [])
