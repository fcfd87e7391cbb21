-- What a scene makes of the lent tables (01, "Scenes and walkprint"), record by record, and a whole scene. The writing of cells, shapes and boxes is
-- `scene_tables`' and `scene_fills`', the state behind a record `scene_step`'s.
use Rattle.std.specs.Prelude.{ℕ, cond, List, [], ◌∷◌, eqb, set}
use Rattle.world.specs.declared.Window.{Window}
use Rattle.scene_records.specs.Layout.{kind_of, number_of, window_of, cell_count, permission_of}
use Rattle.scene_rules.specs.declared.Counts.{Counts}
use Rattle.scene_tables.specs.Made.{unfilled, with_shape, with_box}
use Rattle.scene_fills.specs.Fills.{filled}
use Rattle.scene_state.specs.declared.state.Reading.{Reading}
use Rattle.scene_state.specs.declared.state.Scene.{Scene}
use Rattle.scene_state.specs.Answers.{Answer, given, refused, begun, ended}
use Rattle.scene_step.specs.Next.{count_after, next, good_in}

-- ---- the tables behind a good record of kind k

-- kind 3: all cells unfilled; kind 6: the fill
unfoldable pub cells_after : ℕ → Window → List ℕ → List ℕ → List ℕ
cells_after k w s t = cond (eqb k 3) (unfilled (cell_count (window_of s)) t) (cond (eqb k 6) (filled w s t) t)

-- kind 5: the permission of state n
unfoldable pub perms_after : ℕ → List ℕ → List ℕ → List ℕ
perms_after k s t = cond (eqb k 5) (set t (number_of s) (permission_of s)) t

-- kind 4: "Unnamed lower shapes are empty; a first box is the sum of the counts before it", which is how many boxes there were (`first_boxes_are_sums` of
-- scene_good)
unfoldable pub shapes_after : ℕ → Counts → List ℕ → List ℕ → List ℕ
shapes_after k c s t = cond (eqb k 4) (with_shape c.shapes (number_of s) c.boxes (count_after c (number_of s)) t) t

-- kind 4: its box behind those before
unfoldable pub boxes_after : ℕ → Counts → List ℕ → List ℕ → List ℕ
boxes_after k c s t = cond (eqb k 4) (with_box s c.boxes t) t

-- ---- one record, good or bad: "after 7 the scene's tables hold what the records before it made"

unfoldable pub cells_read : Reading → List ℕ → List ℕ → List ℕ
cells_read r s t = cond (good_in r s) (cells_after (kind_of s) r.window s t) t

unfoldable pub perms_read : Reading → List ℕ → List ℕ → List ℕ
perms_read r s t = cond (good_in r s) (perms_after (kind_of s) s t) t

unfoldable pub shapes_read : Reading → List ℕ → List ℕ → List ℕ
shapes_read r s t = cond (good_in r s) (shapes_after (kind_of s) r.counts s t) t

unfoldable pub boxes_read : Reading → List ℕ → List ℕ → List ℕ
boxes_read r s t = cond (good_in r s) (boxes_after (kind_of s) r.counts s t) t

-- ---- a whole scene, a list of records: the answer, and the tables that it leaves

pub record Tables : Type 0 where
  pub cells : List ℕ
  pub perms : List ℕ
  pub shapes : List ℕ
  pub boxes : List ℕ

abbrev pub tables_read : Reading → List ℕ → Tables → Tables
tables_read r s t = record {
  cells = cells_read r s t.cells;
  perms = perms_read r s t.perms;
  shapes = shapes_read r s t.shapes;
  boxes = boxes_read r s t.boxes;
}

pub record Read : Type 0 where
  pub answer : Answer Scene
  pub tables : Tables

unfoldable pub read_from : Reading → Tables → List (List ℕ) → Read
read_from r t [] = record { answer = ended r; tables = t }
read_from r t (s ∷ ss) =
    cond (good_in r s) (read_from (next (kind_of s) r s) (tables_read r s t) ss) (record { answer = refused 7 r.number; tables = t })

unfoldable pub onward : Answer Reading → Tables → List (List ℕ) → Read
onward (given r) t ss = read_from r t ss
onward (refused n k) t ss = record { answer = refused n k; tables = t }

unfoldable pub read_all : Tables → List (List ℕ) → Read
read_all t ss = onward (begun t.cells t.perms t.shapes t.boxes) t ss
