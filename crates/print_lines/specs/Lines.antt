-- The lines of what is told (01, "Scenes and walkprint"). Definitions only.
use Rattle.std.specs.Prelude.{ℕ, zero, suc, cond, List, [], ltb}
use Rattle.report.specs.Lines.{line_told, waypoint_line}
use Rattle.report.specs.declared.lines.Told.{Told}

-- "Line 1: .. Then a line a waypoint": line 0, and line k + 1 for waypoint k of the list; no byte past the last one
unfoldable pub line_of : Told → List ℕ → ℕ → List ℕ
line_of t list zero = line_told t
line_of t list (suc k) = cond (ltb k t.waypoints) (waypoint_line list k) []
