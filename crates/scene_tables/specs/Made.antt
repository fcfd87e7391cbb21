-- What a scene's records of kinds 3 and 4 make of the lent tables (01, "Scenes and walkprint"). Each definition is a table after a record, of the table
-- before: the bytes that it does not name stay.
use Rattle.std.specs.Prelude.{ℕ, zero, suc, ◌+◌, ◌-◌, ◌*◌, List}
use Rattle.fields.specs.Little.{field, with_field}

-- f of each of the n numbers from k up, in order
unfoldable pub in_turn : (ℕ → List ℕ → List ℕ) → ℕ → ℕ → List ℕ → List ℕ
in_turn f k zero t = t
in_turn f k (suc n) t = in_turn f (suc k) n (f k t)

-- record i of 8 bytes set to two numbers: a cell's state and shape, or a shape's first box and count
unfoldable pub with_entry : ℕ → ℕ → ℕ → List ℕ → List ℕ
with_entry a b i t = with_field 4 (with_field 4 t (8 * i) a) (8 * i + 4) b

-- ---- kind 3

-- "unfilled cells have state 4294967295, shape 0": the first n
unfoldable pub unfilled : ℕ → List ℕ → List ℕ
unfilled n t = in_turn (with_entry 4294967295 0) 0 n t

-- ---- kind 4

-- "Unnamed lower shapes are empty": the shapes from one to that before end, each with so many boxes before it
unfoldable pub empty_shapes : ℕ → ℕ → ℕ → List ℕ → List ℕ
empty_shapes from end first t = in_turn (with_entry first 0) from (end - from) t

-- those from one to n, and then the count of shape n; the last shape has its record already, and only the count changes
unfoldable pub with_shape : ℕ → ℕ → ℕ → ℕ → List ℕ → List ℕ
with_shape from n first count t = with_field 4 (empty_shapes from (n + 1) first t) (8 * n + 4) count

-- "six box numbers": number j of box k is number j of the record's payload
unfoldable pub box_number : List ℕ → ℕ → ℕ → List ℕ → List ℕ
box_number s k j t = with_field 8 t (48 * k + 8 * j) (field 8 s (8 + 8 * j))

unfoldable pub with_box : List ℕ → ℕ → List ℕ → List ℕ
with_box s k t = in_turn (box_number s k) 0 6 t
