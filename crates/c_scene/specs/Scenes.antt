-- What reading a scene leaves in the record that a caller lends for it, 168 bytes: the request, the body, the window, and how many bytes of each table are in
-- use. The first three are laid out as the records that a search is handed.
use Rattle.std.specs.Prelude.{ℕ, cond, List, [], ◌∷◌, ◌++◌, eqb, Float, replicate}
use Rattle.std.specs.Float.{binary64}
use Rattle.std.specs.Float.Ieee.{to_bits}
use Rattle.std.specs.Int.{w32}
use Rattle.std.proofs.Common.{of_z}
use Rattle.fields.specs.Little.{with_field}
use Rattle.fields.specs.Records.{with_record}
use Rattle.world.specs.declared.Point.{Point}
use Rattle.world.specs.declared.Body.{Body}
use Rattle.world.specs.declared.Request.{Request}
use Rattle.world.specs.declared.Window.{Window}
use Rattle.scene_state.specs.declared.state.InUse.{InUse}
use Rattle.scene_state.specs.declared.state.Scene.{Scene}
use Rattle.scene_state.specs.Answers.{Answer, given, refused}

-- an f64 in its field
abbrev pub bits : Float → ℕ
bits x = to_bits binary64 x

abbrev pub point_fields : Point → List ℕ
point_fields p = bits p.x ∷ bits p.y ∷ bits p.z ∷ []

-- bytes 0 to 87
abbrev pub request_fields : Request → List ℕ
request_fields r =
    point_fields r.start
    ++ (point_fields r.goal
    ++ (bits r.max_range ∷ bits r.step_height ∷ bits r.jump_height ∷ bits r.max_drop ∷ r.node_budget ∷ []))

-- bytes 88 to 111
abbrev pub body_fields : Body → List ℕ
body_fields b = bits b.width ∷ bits b.height ∷ bits b.step_height ∷ []

-- bytes 112 to 135, six numbers of 32 bits
abbrev pub window_fields : Window → List ℕ
window_fields w = of_z w32 w.x ∷ of_z w32 w.y ∷ of_z w32 w.z ∷ w.sx ∷ w.sy ∷ w.sz ∷ []

-- bytes 136 to 167: cells, permissions, shapes and boxes
abbrev pub in_use_fields : InUse → List ℕ
in_use_fields u = u.cells ∷ u.perms ∷ u.shapes ∷ u.boxes ∷ []

abbrev pub scene_layout : List ℕ
scene_layout = replicate 14 8 ++ (replicate 6 4 ++ replicate 4 8)

abbrev pub scene_fields : Scene → List ℕ
scene_fields x = request_fields x.request ++ (body_fields x.body ++ (window_fields x.window ++ in_use_fields x.in_use))

-- the whole record; where it does not fit, nothing is written
unfoldable pub with_scene : Scene → List ℕ → List ℕ
with_scene x s = with_record scene_layout s 0 (scene_fields x)

-- 0 and the record; 7 BadScene and the bad record's number in the first 8 bytes; 5 NoRoom and nothing written
abbrev pub scene_number : Answer Scene → ℕ
scene_number (given x) = 0
scene_number (refused n k) = n

abbrev pub scene_written : Answer Scene → List ℕ → List ℕ
scene_written (given x) old = with_scene x old
scene_written (refused n k) old = cond (eqb n 7) (with_field 8 old 0 k) old
