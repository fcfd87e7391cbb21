-- How far a scene has been read (01, "Scenes and walkprint"): one record more, and the end of the input. Definitions only.
use Rattle.std.specs.Prelude.{ℕ, List, [], ◌∷◌}
use Rattle.scene_state.specs.declared.state.Reading.{Reading}
use Rattle.scene_state.specs.Answers.{Answer, given, refused, scene_of}
use Rattle.scene_step.specs.Next.{step}
use Rattle.scene.specs.Scene.{Tables, Read, tables_read}

-- four tables
abbrev pub tables_of : List ℕ → List ℕ → List ℕ → List ℕ → Tables
tables_of cells perms shapes boxes = record { cells = cells; perms = perms; shapes = shapes; boxes = boxes }

-- one record more: "first bad record", so a refusal stands whatever follows
unfoldable pub further : Answer Reading → List ℕ → Answer Reading
further (given r) s = step r s
further (refused n k) s = refused n k

-- and the tables: "after 7 the scene's tables hold what the records before it made"
unfoldable pub tables_further : Answer Reading → List ℕ → Tables → Tables
tables_further (given r) s t = tables_read r s t
tables_further (refused n k) s t = t

-- `take_record` for each record, and the end of the input
unfoldable pub taken_in : Answer Reading → Tables → List (List ℕ) → Read
taken_in a t [] = record { answer = scene_of a; tables = t }
taken_in a t (s ∷ ss) = taken_in (further a s) (tables_further a s t) ss
