-- The words of each number that a call answers with, and how they stand in a slice that a caller lends. Of 0 and 1 they are a search's: 0 is also the walk-back's yes, a
-- jump's height and a root, and 1 an edge's invalid request.
use Rattle.std.specs.Prelude.{ℕ, cond, List, [], ◌∷◌, ◌++◌, leb, eqb, length, drop}
use Prim.Native.Char.{code}
use Prim.Native.String.{String, [] as []ᵗ, ◌∷◌ as ◌∷ᵗ◌}

abbrev pub answer_table : List (ℕ × String)
answer_table =
    -- 01, "Numbers given back": the names, in small letters
    (0, "found")
    ∷ (1, "unreachable")
    ∷ (2, "budget exceeded")
    ∷ (3, "bad world")
    ∷ (4, "too large")
    ∷ (5, "no room")
    ∷ (6, "endless jump")
    ∷ (7, "bad scene")
    ∷ (8, "bad table")
    ∷ (9, "bad number")
    -- 02, No. 10: of a search in slices
    ∷ (12, "bad progress")
    ∷ (100, "still searching")
    -- 02, No. 3: why there is no edge
    ∷ (101, "too high")
    ∷ (102, "too deep")
    ∷ (103, "target out of range")
    ∷ (104, "raised point out of range")
    ∷ (105, "target not standable")
    ∷ (106, "lift blocked")
    ∷ (107, "crossing blocked")
    ∷ (108, "settle blocked")
    ∷ (109, "segment unsupported")
    -- 02, No. 3: why a list is no route
    ∷ (111, "invalid request")
    ∷ (112, "bad list")
    ∷ (113, "goal out of range")
    ∷ (114, "start not standable")
    ∷ (115, "goal not standable")
    ∷ (116, "wrong start")
    ∷ (117, "not a graph step")
    ∷ (118, "wrong movement or lift")
    ∷ (119, "wrong end")
    -- 01, Tables: an edge, by its movement
    ∷ (130, "walk")
    ∷ (131, "step")
    ∷ (132, "jump")
    ∷ (133, "drop")
    ∷ []

-- the bytes of a text of ASCII
abbrev pub ascii : String → List ℕ
ascii []ᵗ = []
ascii (c ∷ᵗ s) = code c ∷ ascii s

-- the words in a number's row, as bytes; none where it has no row
abbrev pub words_in : List (ℕ × String) → ℕ → List ℕ
words_in [] n = []
words_in ((m, words) ∷ rows) n = cond (eqb n m) (ascii words) (words_in rows n)

unfoldable pub words_of : ℕ → List ℕ
words_of n = words_in answer_table n

-- a text stands in the first bytes of a slice, and those behind it stay; a slice that is shorter stays as it is
unfoldable pub at_start : List ℕ → List ℕ → List ℕ
at_start text old = cond (leb (length text) (length old)) (text ++ drop (length text) old) old
