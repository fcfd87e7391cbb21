-- Every number of a graph step is an f64.
use Prim.Native.Nat.{ℕ, zero, suc, ◌*◌}
use Rattle.std.specs.Prelude.{◌≡◌, refl, Bool, true, false, cond, List, [], ◌∷◌, ◌++◌, map, T, ℤ, drop, Float, Option, Some, None}
use Rattle.std.specs.Float.Ieee.{binary64, fits, lt, le, add, neg}
use Rattle.std.specs.Float.Ieee.Bits.{of_bits-fits}
use Rattle.std.specs.Float.Ieee.Fits.{add-fits, sub-fits, cond-fits}
use Rattle.exploration.proofs.Laws.Lists as lists
use Rattle.floats.specs.Floats.{E, nought, larger}
use Rattle.cells.specs.Cells.{floor_cell}
use Rattle.regions.specs.Ranges.{gather, along}
use Rattle.world.specs.declared.Point.{Point}
use Rattle.world.specs.declared.Aabb.{Aabb}
use Rattle.world.specs.declared.Body.{Body}
use Rattle.world.specs.declared.Request.{Request}
use Rattle.world.specs.declared.Window.{Window}
use Rattle.world.specs.declared.Cell.{Cell}
use Rattle.world.specs.Boxes.{plus, moved, corner, cube}
use Rattle.world.specs.Space.{Space, Block, run, cell_at, block_of, space}
use Rattle.heights.specs.declared.Band.{Band}
use Rattle.heights.specs.Heights.{reaches, tops_of, tops_in, tops, insert, sorted, within, thinned_after, thinned, heights}
use Rattle.moves.specs.declared.answer.Movement.{Movement}
use Rattle.moves.specs.declared.answer.Movement.TheVariants.{Walk, Step, Jump, Drop}
use Rattle.moves.specs.declared.answer.Waypoint.{Waypoint}
use Rattle.moves.specs.Moves.{step_height}
use Rattle.edges.specs.Edges.{passable, edge, near_goal, connector}
use Rattle.edges.specs.Answers.{nowhere_to}
use Rattle.steps.specs.declared.columns.Centre.{Centre}
use Rattle.sides.specs.Sides.{looked_by}
use Rattle.rooms.specs.declared.Feet.{Feet}
use Rattle.rooms.specs.declared.Label.{Label}
use Rattle.words.specs.Words.{feet_of, label_of, step_of}
use Rattle.steps.specs.Columns.{centre, centre_of, band_of, target, ahead, edges_at, column_steps, sides, column_if, steps_from}
use Rattle.claims.specs.Words.{InF64}
use Rattle.claims.specs.Laws.Edges.{by, rise, edge_is_lem}
use Rattle.claims.specs.Laws.Doors.{Word, DooredSpace, edge_door}

-- ---- a property of every element

pub data Each {A : Type 0} (P : A → Type 0) : List A → Type 0 where
  end : Each P []
  more : {x : A} {xs : List A} → P x → Each P xs → Each P (x ∷ xs)

module _ {A : Type 0} {P : A → Type 0} where
  each_append : {xs ys : List A} → Each P xs → Each P ys → Each P (xs ++ ys)
  each_append end q = q
  each_append (more p ps) q = more p (each_append ps q)

  each_gather : (f : ℕ → List A) → ((k : ℕ) → Each P (f k)) → (k n : ℕ) → Each P (gather f k n)
  unfolding gather
  each_gather f h k zero = end
  each_gather f h k (suc n) = each_append (h k) (each_gather f h (suc k) n)

  each_cond : (b : Bool) {xs ys : List A} → Each P xs → Each P ys → Each P (cond b xs ys)
  each_cond true p q = p
  each_cond false p q = q

-- ---- the heights

abbrev pub F64 : Float → Type 0
F64 x = T (fits binary64 x)

abbrev Topped : Aabb → Type 0
Topped b = F64 b.max.y

abbrev pub ToppedSpace : Space → Type 0
ToppedSpace sp = (x y z : ℤ) → Each Topped (sp x y z).boxes

moved_top : (b : Aabb) (p : Point) → Topped (moved b p)
unfolding moved plus
moved_top b p = add-fits binary64 b.max.y p.y

moved_tops : (p : Point) (bs : List Aabb) → Each Topped (map (λ (b : Aabb). moved b p) bs)
moved_tops p [] = end
moved_tops p (b ∷ bs) = more (moved_top b p) (moved_tops p bs)

block_tops : (boxes : List ℕ) (c : Option Cell) (p : Point) → Each Topped (block_of boxes c p).boxes
unfolding block_of
block_tops boxes None p = more (moved_top cube p) end
block_tops boxes (Some c) p = moved_tops p (run c.count (drop (48 * c.first) boxes) 0)

pub space_tops : (w : Window) (cells perms shapes boxes : List ℕ) → ToppedSpace (space w cells perms shapes boxes)
unfolding space
space_tops w cells perms shapes boxes x y z = block_tops boxes (cell_at w cells perms shapes x y z) (corner x y z)

tops_of_lem : (band : Band) (x z : Float) {bs : List Aabb} → Each Topped bs → Each F64 (tops_of band x z bs)
unfolding tops_of
tops_of_lem band x z end = end
tops_of_lem band x z (more {x = b} {xs = bs} p ps) = each_cond (reaches band x z b) (more p (tops_of_lem band x z ps)) (tops_of_lem band x z ps)

tops_in_lem : (band : Band) (x z : Float) (b : Block) → Each Topped b.boxes → Each F64 (tops_in band x z b)
unfolding tops_in
tops_in_lem band x z b p = each_cond b.support (tops_of_lem band x z p) end

insert_fits : (t : Float) {us : List Float} → F64 t → Each F64 us → Each F64 (insert t us)
unfolding insert
insert_fits t p end = more p end
insert_fits t p (more {x = u} {xs = us} q qs) = each_cond (le t u) (more p (more q qs)) (more q (insert_fits t p qs))

sorted_fits : {ts : List Float} → Each F64 ts → Each F64 (sorted ts)
unfolding sorted
sorted_fits end = end
sorted_fits (more {x = t} p ps) = insert_fits t p (sorted_fits ps)

after_fits : (kept : Float) {ts : List Float} → Each F64 ts → Each F64 (thinned_after kept ts)
unfolding thinned_after
after_fits kept end = end
after_fits kept (more {x = t} {xs = ts} p ps) = each_cond (within kept t) (after_fits kept ps) (more p (after_fits t ps))

thinned_fits : {ts : List Float} → Each F64 ts → Each F64 (thinned ts)
unfolding thinned
thinned_fits end = end
thinned_fits (more {x = t} p ps) = more p (after_fits t ps)

module _ (sp : Space) (topped : ToppedSpace sp) where
  tops_fit : (band : Band) (x z : Float) → Each F64 (tops sp band x z)
  unfolding tops along
  tops_fit band x z = each_gather _ (λ k. tops_in_lem band x z (sp (floor_cell x) _ (floor_cell z)) (topped (floor_cell x) _ (floor_cell z))) 0 _

  heights_fit : (band : Band) (x z : Float) → Each F64 (heights sp band x z)
  unfolding heights
  heights_fit band x z = thinned_fits (sorted_fits (tops_fit band x z))

-- ---- an edge

pub record Made (w : Waypoint) : Type 0 where
  pub x : F64 w.feet.x
  pub y : F64 w.feet.y
  pub z : F64 w.feet.z
  pub lift : F64 w.lift

pub data MadeIf : Option Waypoint → Type 0 where
  nowhere : MadeIf None
  made : {w : Waypoint} → Made w → MadeIf (Some w)

made_cond : (b : Bool) {e f : Option Waypoint} → MadeIf e → MadeIf f → MadeIf (cond b e f)
made_cond true p q = p
made_cond false p q = q

module _ (sp : Space) (r : Request) (body : Body) (jump : F64 r.jump_height) where
  module _ (from to : Point) (px : F64 to.x) (py : F64 to.y) (pz : F64 to.z) where
    by_made : (m : Movement) (lift : Float) → F64 lift → MadeIf (by sp r body from to m lift)
    by_made m lift p = made_cond (passable sp r body from to lift) (made (record { x = px; y = py; z = pz; lift = p })) nowhere

    nought_fits : F64 nought
    nought_fits = of_bits-fits binary64 0

    larger_fits : F64 (larger (rise sp r body from to) nought)
    unfolding larger
    larger_fits = cond-fits binary64 (lt nought (rise sp r body from to)) _ _ (sub-fits binary64 to.y from.y) nought_fits

    pub edge_made : MadeIf (edge sp r body from to)
    edge_made =
        rw (edge_is_lem sp r body from to)
        (made_cond (lt E (rise sp r body from to))
        (made_cond (le (rise sp r body from to) (add binary64 (step_height r body) E))
        (by_made Step (rise sp r body from to) (sub-fits binary64 to.y from.y))
        (made_cond (le (rise sp r body from to) (add binary64 r.jump_height E)) (by_made Jump r.jump_height jump) nowhere))
        (made_cond (lt (rise sp r body from to) (neg E))
        (made_cond (le (neg (rise sp r body from to)) (add binary64 r.max_drop E)) (by_made Drop nought nought_fits) nowhere)
        (by_made Walk (larger (rise sp r body from to) nought) larger_fits)))

-- ---- the steps from a point: what every edge to f64s has

module _ (sp : Space) (r : Request) (body : Body) (topped : ToppedSpace sp) (from : Point) (P : Waypoint → Type 0)
    (have : (to : Point) → F64 to.x → F64 to.y → F64 to.z → (w : Waypoint) → edge sp r body from to ≡ Some w → P w) where
  ahead_each : (a : Option Waypoint) {ws : List Waypoint} → ((w : Waypoint) → a ≡ Some w → P w) → Each P ws → Each P (ahead a ws)
  ahead_each None h q = q
  ahead_each (Some w) h q = more (h w refl) q

  edges_each : (c : Centre) → F64 c.x → F64 c.z → {ys : List Float} → Each F64 ys → Each P (edges_at sp r body from c ys)
  unfolding edges_at
  edges_each c px pz end = end
  edges_each c px pz (more {x = y} {xs = ys} p ps) = ahead_each (edge sp r body from (target c y)) (have (target c y) px p pz) (edges_each c px pz ps)

  column_each : (n : ℕ) → Each P (column_steps sp r body from n)
  unfolding column_steps centre_of centre
  column_each n =
      edges_each (centre_of from n) (add-fits binary64 _ _) (add-fits binary64 _ _)
      (heights_fit sp topped (band_of r body from) (centre_of from n).x (centre_of from n).z)

  looked_each : (n : ℕ) → Each P (column_if sp r body from n)
  unfolding column_if
  looked_each n = each_cond (looked_by (sides sp r body from) n) (column_each n) end

  pub steps_each : Each P (steps_from sp r body from)
  unfolding steps_from
  steps_each = each_gather (column_if sp r body from) looked_each 0 9

-- and so the words of the points that they lead to, and of how
pub worded : (Q : Feet × Label → Type 0) {ws : List Waypoint} → Each (λ w. Q (feet_of w.feet, label_of w)) ws → lists.Each Q (map step_of ws)
unfolding step_of
worded Q end = tt
worded Q (more p ps) = (p, worded Q ps)

made_of : {a : Option Waypoint} → MadeIf a → (w : Waypoint) → a ≡ Some w → Made w
made_of nowhere w e = nowhere_to e
made_of (made {w = v} p) w e = let s : v ≡ w = cc in rw (← s) p

-- and what they say of the way: their numbers are f64s, and the door a word
pub record MadeWhole (w : Waypoint) : Type 0 where
  pub made : Made w
  pub door : Word w.door

pub steps_whole : (sp : Space) (r : Request) (body : Body) → F64 r.jump_height → ToppedSpace sp → DooredSpace sp → (from : Point) → Each MadeWhole (steps_from sp r body from)
steps_whole sp r body jump topped doored from =
    steps_each sp r body topped from MadeWhole (λ to x y z w e. record { made = made_of (edge_made sp r body jump from to x y z) w e; door = edge_door sp doored r body from to w e })

-- ---- the connector

pub connector_made : (sp : Space) (r : Request) (body : Body) → InF64 r → (from : Point) → MadeIf (connector sp r body from)
unfolding connector
connector_made sp r body f from = made_cond (near_goal r from) (edge_made sp r body f.jump from r.goal f.goal_x f.goal_y f.goal_z) nowhere
