-- walkprint's lines (01, "Scenes and walkprint"), as lists of bytes, and how a line stands in a buffer.
use Rattle.std.specs.Prelude.{ℕ, ◌+◌, ◌*◌, ◌/◌, ◌&&◌, cond, List, [], ◌∷◌, ◌++◌, ltb, leb, eqb, length, get_or, drop, Float}
use Rattle.std.specs.Float.{binary64}
use Rattle.std.specs.Float.Ieee.{to_bits}
use Rattle.fields.specs.Little.{field}
use Rattle.digits.specs.Digits.{hex, decimal}
use Rattle.report.specs.declared.lines.Told.{Told}

-- ---- words

-- "found"
abbrev pub found : List ℕ
found = 102 ∷ 111 ∷ 117 ∷ 110 ∷ 100 ∷ []

-- "unreachable"
abbrev pub unreachable : List ℕ
unreachable = 117 ∷ 110 ∷ 114 ∷ 101 ∷ 97 ∷ 99 ∷ 104 ∷ 97 ∷ 98 ∷ 108 ∷ 101 ∷ []

-- "budgetexceeded"
abbrev pub budgetexceeded : List ℕ
budgetexceeded = 98 ∷ 117 ∷ 100 ∷ 103 ∷ 101 ∷ 116 ∷ 101 ∷ 120 ∷ 99 ∷ 101 ∷ 101 ∷ 100 ∷ 101 ∷ 100 ∷ []

-- "refused"
abbrev pub refused : List ℕ
refused = 114 ∷ 101 ∷ 102 ∷ 117 ∷ 115 ∷ 101 ∷ 100 ∷ []

-- "walk"
abbrev pub walk : List ℕ
walk = 119 ∷ 97 ∷ 108 ∷ 107 ∷ []

-- "step"
abbrev pub step : List ℕ
step = 115 ∷ 116 ∷ 101 ∷ 112 ∷ []

-- "jump"
abbrev pub jump : List ℕ
jump = 106 ∷ 117 ∷ 109 ∷ 112 ∷ []

-- "drop"
abbrev pub drops : List ℕ
drops = 100 ∷ 114 ∷ 111 ∷ 112 ∷ []

-- "outcome in lower case": 0 Found, 1 Unreachable, 2 BudgetExceeded
unfoldable pub outcome_word : ℕ → List ℕ
outcome_word n = get_or (found ∷ unreachable ∷ budgetexceeded ∷ []) n []

-- "0 Walk, 1 Step, 2 Jump, 3 Drop"
unfoldable pub movement_word : ℕ → List ℕ
movement_word n = get_or (walk ∷ step ∷ jump ∷ drops ∷ []) n []

-- ---- lines

-- a line of fields: a space between two, a newline behind the last one
abbrev pub line : List (List ℕ) → List ℕ
line [] = 10 ∷ []
line (f ∷ []) = f ++ (10 ∷ [])
line (f ∷ g ∷ fs) = f ++ (32 ∷ line (g ∷ fs))

-- "Line 1: outcome in lower case, waypoints, retained nodes, closed nodes (0 if no search began), length", the length by its bits
unfoldable pub line_one : ℕ → ℕ → ℕ → ℕ → ℕ → List ℕ
line_one number waypoints retained closed bits =
    line (outcome_word number ∷ decimal waypoints ∷ decimal retained ∷ decimal closed ∷ hex bits ∷ [])

-- "record (0 unless 7)"
unfoldable pub record_of : ℕ → ℕ → ℕ
record_of number bad = cond (eqb number 7) bad 0

-- "Refusals print `refused`, number, record"
unfoldable pub refused_line : ℕ → ℕ → List ℕ
refused_line number bad = line (refused ∷ decimal number ∷ decimal (record_of number bad) ∷ [])

-- the first line, by the number given back: 0 to 2 are outcomes, the others refusals
unfoldable pub first_line : ℕ → ℕ → ℕ → ℕ → ℕ → Float → List ℕ
first_line number bad waypoints retained closed total =
    cond (ltb number 3) (line_one number waypoints retained closed (to_bits binary64 total)) (refused_line number bad)

-- the first line of what is told
abbrev pub line_told : Told → List ℕ
line_told t = first_line t.number t.bad t.waypoints t.retained t.closed t.total

-- "a line a waypoint: place, movement, x, y, z, lift", the numbers by their bits; and 02, No. 5, of the door: "walkprint prints it last in decimal"
unfoldable pub waypoint_fields : ℕ → ℕ → ℕ → ℕ → ℕ → ℕ → ℕ → List ℕ
waypoint_fields place movement x y z lift door =
    line (decimal place ∷ movement_word movement ∷ hex x ∷ hex y ∷ hex z ∷ hex lift ∷ decimal door ∷ [])

-- the line of record `place` of a list of waypoint records, 48 bytes each: "feet x, y, z, lift, movement as u64", and the door; no byte where the list has no such
-- record, or the record no movement from 0 to 3
unfoldable pub waypoint_line : List ℕ → ℕ → List ℕ
waypoint_line list place =
    let at = 48 * place in
    let movement = field 8 list (at + 32) in
    cond (ltb place (length list / 48) && leb movement 3)
    (waypoint_fields place movement (field 8 list at) (field 8 list (at + 8)) (field 8 list (at + 16)) (field 8 list (at + 24)) (field 8 list (at + 40)))
    []

-- ---- in a buffer

-- a line stands at the start of a buffer of at least 128 bytes, and what is behind it stays; a shorter buffer stays as it is
unfoldable pub in_buffer : List ℕ → List ℕ → List ℕ
in_buffer l old = cond (ltb (length old) 128) old (l ++ drop (length l) old)

-- how many bytes were written
unfoldable pub count_in : List ℕ → List ℕ → ℕ
count_in l old = cond (ltb (length old) 128) 0 (length l)
