-- A room of records that are written over: the first bytes are the records', and those past them stay.
use Rattle.std.specs.Prelude.{ℕ, ◌+◌, ◌-◌, ◌*◌, ◌≤◌, ◌≡◌, refl, List, [], ◌∷◌, ◌++◌, length, drop}
use Rattle.std.proofs.Common.{mul-zero, mul-suc, mul-le-mul_left, arith, sym, ap, ◌∙◌, length-append, length-drop, drop-drop}
use Rattle.std.proofs.Math.Seq.{drop-append-add}
use Rattle.exploration.specs.Policy.{Node}
use Rattle.fields.specs.Records.{records_bytes}
use Rattle.fields.proofs.RecordLaws.{length_record_bytes}
use Rattle.rooms.specs.declared.Feet.{Feet}
use Rattle.rooms.specs.declared.Label.{Label}
use Rattle.rooms.specs.Records.{entry_layout, entry_words}
use Rattle.rooms.specs.Rooms.{Note, node_bytes, node_room, entry_bytes, front_room}
use Rattle.claims.specs.Laws.ReadBack.{node_long}

module _ {A : Type 0} (bytes : A → List ℕ) (size : ℕ) (long : (x : A) → length (bytes x) ≡ size) where
  length_records : (xs : List A) → length (records_bytes bytes xs) ≡ size * length xs
  length_records [] = sym (mul-zero size)
  length_records (x ∷ xs) = omega (arith, length-append (bytes x) (records_bytes bytes xs), long x, length_records xs, mul-suc size (length xs))

  -- the records, then what the room had
  abbrev over : List ℕ → List A → List ℕ
  over old xs = records_bytes bytes xs ++ drop (size * length xs) old

  over_length : (old : List ℕ) (xs : List A) → size * length xs ≤ length old → length (over old xs) ≡ length old
  over_length old xs h = omega (arith, length-append (records_bytes bytes xs) (drop (size * length xs) old), length_records xs, length-drop (size * length xs) old)

  -- past at least as many records the room is as it was
  over_past : (old : List ℕ) (xs : List A) (n : ℕ) → length xs ≤ n → drop (size * n) (over old xs) ≡ drop (size * n) old
  over_past old xs n h =
      let m = size * length xs in
      let l : m ≤ size * n = mul-le-mul_left size h in
      let z : size * n ≡ length (records_bytes bytes xs) + (size * n - m) = omega (arith, length_records xs) in
      let y : m + (size * n - m) ≡ size * n = omega arith in
      ap (λ (k : ℕ). drop k (over old xs)) z ∙ drop-append-add (records_bytes bytes xs) (drop m old) (size * n - m) ∙ drop-drop (size * n - m) m old ∙ ap (λ (k : ℕ). drop k old) y

  -- so at least as many records on top are as if they alone had been written
  over_again : (old : List ℕ) (xs ys : List A) → length xs ≤ length ys → over (over old xs) ys ≡ over old ys
  over_again old xs ys h = ap (λ (l : List ℕ). records_bytes bytes ys ++ l) (over_past old xs (length ys) h)

-- ---- the node room and the frontier room

entry_long : (n : Node Feet Label Note) → length (entry_bytes n) ≡ 24
entry_long n = length_record_bytes entry_layout (entry_words n.note.entry) refl

module _ (old : List ℕ) (ns : List (Node Feet Label Note)) where
  pub node_room_length : 64 * length ns ≤ length old → length (node_room old ns) ≡ length old
  node_room_length = over_length node_bytes 64 node_long old ns

  pub front_room_length : 24 * length ns ≤ length old → length (front_room old ns) ≡ length old
  front_room_length = over_length entry_bytes 24 entry_long old ns

  pub front_room_past : drop (24 * length ns) (front_room old ns) ≡ drop (24 * length ns) old
  front_room_past = over_past entry_bytes 24 entry_long old ns (length ns) (omega arith)

  pub node_room_again : (more : List (Node Feet Label Note)) → length ns ≤ length more → node_room (node_room old ns) more ≡ node_room old more
  node_room_again = over_again node_bytes 64 node_long old ns

  pub front_room_again : (more : List (Node Feet Label Note)) → length ns ≤ length more → front_room (front_room old ns) more ≡ front_room old more
  front_room_again = over_again entry_bytes 24 entry_long old ns
