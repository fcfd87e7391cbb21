-- Every door is below 2^64, where the cell table holds bytes: it is a state's number, which stands in four bytes of that table, or none.
use Rattle.std.specs.Prelude.{ℕ, ◌^◌, ◌+◌, ◌*◌, ◌<◌, ◌≡◌, Bool, not, ltb, eqb, ℤ, length, get_or, Float, Option, Some, None}
use native.Mathlib.Omega.{arith}
use Rattle.std.proofs.Math.Bool.{true, false, cond}
use mathlib.Core.List.{List, [], ◌∷◌}
use Rattle.fields.specs.Little.{field}
use Rattle.fields.proofs.Pieces.{Bytes, field_below}
use Rattle.regions.specs.declared.Spot.{Spot}
use Rattle.world.specs.declared.Point.{Point}
use Rattle.world.specs.declared.Aabb.{Aabb}
use Rattle.world.specs.declared.Body.{Body}
use Rattle.world.specs.declared.Request.{Request}
use Rattle.world.specs.declared.Window.{Window}
use Rattle.world.specs.declared.Cell.{Cell}
use Rattle.world.specs.Boxes.{corner, meets, voxel}
use Rattle.world.specs.Space.{Space, Place, At, Out, record_of, has_record, entry_at, no_door, door_of, collides, of_parts, known_by, known, cell_in, cell_at, block_of, space}
use Rattle.clear.specs.Corridors.{or_else, first_door, cell_door, crossed_cells, door_at, door_in}
use Rattle.moves.specs.declared.answer.Waypoint.{Waypoint}
use Rattle.edges.specs.Edges.{way_door, edge, near_goal, connector}
use Rattle.edges.specs.Answers.{nowhere_to, edge_has}

-- a word of a record
abbrev pub Word : ℕ → Type 0
Word n = n < 256 ^ 8

-- ---- the door of a cell

abbrev pub DooredSpace : Space → Type 0
DooredSpace sp = (x y z : ℤ) → Word (sp x y z).door

abbrev cell_word : Option Cell → ℕ
cell_word None = no_door
cell_word (Some c) = door_of c.through c.state

block_door : (boxes : List ℕ) (c : Option Cell) (p : Point) → Word (cell_word c) → Word (block_of boxes c p).door
unfolding block_of
block_door boxes None p h = h
block_door boxes (Some c) p h = h

module _ (w : Window) (cells perms shapes boxes : List ℕ) (bytes : Bytes cells) where
  known_door : (state shape : ℕ) → Word state → Word (cell_word (known perms shapes state shape))
  unfolding known of_parts
  known_door state shape h = go (ltb state (length perms)) (entry_at shapes shape)
    where
      part : (b : Bool) → Word (cond (not b) state no_door)
      part true = omega arith
      part false = h

      go : (t : Bool) (e : Option (ℕ × ℕ)) → Word (cell_word (cond t (known_by e (λ first count. Some (of_parts (get_or perms state 0) first count state))) None))
      go true (Some e) = part (collides (get_or perms state 0))
      go true None = omega arith
      go false e = omega arith

  cell_door_lem : (p : Place) → Word (cell_word (cell_in cells perms shapes p))
  unfolding cell_in entry_at
  cell_door_lem Out = omega arith
  cell_door_lem (At i) = go (has_record 8 cells i)
    where
      go : (t : Bool) → Word (cell_word (known_by (cond t (Some (field 4 cells (8 * i), field 4 cells (8 * i + 4))) None) (λ state shape. known perms shapes state shape)))
      go true = known_door (field 4 cells (8 * i)) (field 4 cells (8 * i + 4)) (omega (arith, field_below 4 cells (8 * i) bytes))
      go false = omega arith

  pub space_doors : DooredSpace (space w cells perms shapes boxes)
  unfolding space cell_at
  space_doors x y z = block_door boxes (cell_in cells perms shapes (record_of w x y z)) (corner x y z) (cell_door_lem (record_of w x y z))

-- ---- the door of an edge

or_word : (a b : ℕ) → Word a → Word b → Word (or_else a b)
unfolding or_else
or_word a b p q = go (eqb a no_door)
  where
    go : (t : Bool) → Word (cond t b a)
    go true = q
    go false = p

module _ (sp : Space) (doored : DooredSpace sp) where
  one_word : (area : Aabb) (p : Spot) → Word (door_at sp area p)
  unfolding cell_door
  one_word area p = go (meets (voxel (corner p.x p.y p.z)) area)
    where
      go : (t : Bool) → Word (cond t (sp p.x p.y p.z).door no_door)
      go true = doored p.x p.y p.z
      go false = omega arith

  first_word : (area : Aabb) (ps : List Spot) → Word (first_door (door_at sp area) ps)
  unfolding first_door
  first_word area [] = omega arith
  first_word area (p ∷ ps) = or_word _ _ (one_word area p) (first_word area ps)

  area_word : (area : Aabb) → Word (door_in sp area)
  unfolding door_in
  area_word area = first_word area (crossed_cells area)

  way_word : (body : Body) (from to : Point) (lift : Float) → Word (way_door sp body from to lift)
  unfolding way_door
  way_word body from to lift = or_word _ _ (area_word _) (or_word _ _ (area_word _) (area_word _))

  pub edge_door : (r : Request) (body : Body) (from to : Point) (w : Waypoint) → edge sp r body from to ≡ Some w → Word w.door
  edge_door r body from to w = edge_has sp r body from to w (λ v. Word v.door) (λ m l. way_word body from to l)

  pub connector_door : (r : Request) (body : Body) (from : Point) (w : Waypoint) → connector sp r body from ≡ Some w → Word w.door
  unfolding connector
  connector_door r body from w e = go (near_goal r from) e
    where
      go : (t : Bool) → cond t (edge sp r body from r.goal) None ≡ Some w → Word w.door
      go true e = edge_door r body from r.goal w e
      go false e = nowhere_to e
