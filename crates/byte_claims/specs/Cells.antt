-- A scene that is read into a cell table of bytes leaves a cell table of bytes: each of its records writes bytes there, or nothing.
use Rattle.std.specs.Prelude.{ℕ, zero, suc, ◌%◌, ◌/◌, ◌<◌, eqb, take, set}
use Rattle.std.proofs.Common.{arith}
use mathlib.Core.List.{List, [], ◌∷◌, foldl}
use Rattle.std.proofs.lemmas.List.Edits.{sets}
use Rattle.fields.specs.Little.{bytes_of, fits_at, field, with_field}
use Rattle.fields.specs.Bytes.{Bytes}
use Rattle.regions.specs.declared.Spot.{Spot}
use Rattle.regions.specs.Regions.{cells_of}
use Rattle.world.specs.declared.Window.{Window}
use Rattle.world.specs.Sizes.{size_above}
use Rattle.scene_records.specs.Layout.{kind_of, window_of, cell_count}
use Rattle.scene_tables.specs.Made.{in_turn, with_entry, unfilled}
use Rattle.scene_fills.specs.Fills.{region_of, with_cell, filled}
use Rattle.scene_state.specs.declared.state.Reading.{Reading}
use Rattle.scene_state.specs.Answers.{Answer, given, refused, begun}
use Rattle.scene_step.specs.Next.{next, good_in}
use Rattle.byte_claims.specs.Requests.{either}
use Rattle.scene.specs.Scene.{Tables, Read, cells_after, cells_read, tables_read, read_from, onward, read_all}

-- ---- lists

pub bytes_take : (n : ℕ) (s : List ℕ) → Bytes s → Bytes (take n s)
bytes_take zero s b i = omega arith
bytes_take (suc n) [] b i = omega arith
bytes_take (suc n) (x ∷ s) b zero = b 0
bytes_take (suc n) (x ∷ s) b (suc i) = bytes_take n s (λ j. b (suc j)) i

bytes_set : (s : List ℕ) (k v : ℕ) → v < 256 → Bytes s → Bytes (set s k v)
bytes_set [] k v h b i = b i
bytes_set (x ∷ s) zero v h b zero = h
bytes_set (x ∷ s) zero v h b (suc i) = b (suc i)
bytes_set (x ∷ s) (suc k) v h b zero = b 0
bytes_set (x ∷ s) (suc k) v h b (suc i) = bytes_set s k v h (λ j. b (suc j)) i

bytes_sets : (n v : ℕ) (s : List ℕ) (at : ℕ) → Bytes s → Bytes (sets s at (bytes_of n v))
bytes_sets zero v s at b = b
bytes_sets (suc n) v s at b = bytes_sets n (v / 256) (set s at (v % 256)) (suc at) (bytes_set s at (v % 256) (omega arith) b)

-- ---- what a scene writes into the cell table

bytes_field : (n v : ℕ) (s : List ℕ) (at : ℕ) → Bytes s → Bytes (with_field n s at v)
unfolding with_field
bytes_field n v s at b = either Bytes (fits_at n s at) _ _ (bytes_sets n v s at b) b

bytes_entry : (state shape i : ℕ) (s : List ℕ) → Bytes s → Bytes (with_entry state shape i s)
unfolding with_entry
bytes_entry state shape i s b = bytes_field 4 shape _ _ (bytes_field 4 state s _ b)

bytes_in_turn : (f : ℕ → List ℕ → List ℕ) → ((k : ℕ) (s : List ℕ) → Bytes s → Bytes (f k s)) → (k n : ℕ) (s : List ℕ) → Bytes s → Bytes (in_turn f k n s)
unfolding in_turn
bytes_in_turn f h k zero s b = b
bytes_in_turn f h k (suc n) s b = bytes_in_turn f h (suc k) n (f k s) (h k s b)

bytes_cells : (sx sz state shape : ℕ) (ps : List Spot) (s : List ℕ) → Bytes s → Bytes (foldl (with_cell sx sz state shape) s ps)
bytes_cells sx sz state shape [] s b = b
bytes_cells sx sz state shape (p ∷ ps) s b = bytes_cells sx sz state shape ps (with_cell sx sz state shape s p) (bytes_entry state shape _ s b)

bytes_filled : (w : Window) (s t : List ℕ) → Bytes t → Bytes (filled w s t)
unfolding filled
bytes_filled w s t b = either Bytes (size_above w) _ _ b (bytes_cells w.sx w.sz (field 4 s 32) (field 4 s 36) (cells_of (region_of w s)) t b)

bytes_unfilled : (n : ℕ) (t : List ℕ) → Bytes t → Bytes (unfilled n t)
unfolding unfilled
bytes_unfilled n t b = bytes_in_turn (with_entry 4294967295 0) (bytes_entry 4294967295 0) 0 n t b

bytes_read : (r : Reading) (s t : List ℕ) → Bytes t → Bytes (cells_read r s t)
unfolding cells_read cells_after
bytes_read r s t b =
    either Bytes (good_in r s) _ _
    (either Bytes (eqb (kind_of s) 3) _ _ (bytes_unfilled (cell_count (window_of s)) t b) (either Bytes (eqb (kind_of s) 6) _ _ (bytes_filled r.window s t b) b)) b

-- ---- all records, one after the other

bytes_from : (r : Reading) (t : Tables) (ss : List (List ℕ)) → Bytes t.cells → Bytes (read_from r t ss).tables.cells
unfolding read_from
bytes_from r t [] b = b
bytes_from r t (s ∷ ss) b =
    either (λ (x : Read). Bytes x.tables.cells) (good_in r s) _ _ (bytes_from (next (kind_of s) r s) (tables_read r s t) ss (bytes_read r s t.cells b)) b

pub cells_left : (t : Tables) (ss : List (List ℕ)) → Bytes t.cells → Bytes (read_all t ss).tables.cells
unfolding read_all onward
cells_left t ss b = go (begun t.cells t.perms t.shapes t.boxes)
  where
    go : (a : Answer Reading) → Bytes (onward a t ss).tables.cells
    go (given r) = bytes_from r t ss b
    go (refused n k) = b
