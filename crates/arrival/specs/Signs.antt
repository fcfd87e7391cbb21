-- The sign of a zero makes no difference to where a body can go: from points that differ at most in signs of zeros go the same edges, the same connector and the
-- same steps, and to such points lead the same edges, whatever the coordinates are, NaN and the infinities too. So a graph that reads a point with -0.0 as 0.0
-- (`point_of` of words) has the steps and the connector that the point's own bits have, and points that 01 calls the same have one edge's label.
use Rattle.std.specs.Prelude.{ℕ, zero, suc, ◌+◌, ◌≡◌, Bool, ◌&&◌, T, eqb, ◌+ℤ◌, ◌-ℤ◌, Float, Option, Some, None}
use Rattle.std.proofs.Math.Path.{refl, sym, ap}
use Rattle.std.proofs.Common.{◌∙◌, ⊎_elim, eqb-true}
use Rattle.std.proofs.Math.Bool.{true, false, cond}
use mathlib.Core.List.{List, [], ◌∷◌, map}
use Rattle.std.proofs.Math.IntN.{pos}
use Rattle.std.specs.Float.Ieee.{binary64, fits, lt, add, sub, neg, of_bits, to_bits}
use Rattle.floats.specs.Floats.{E, nought, larger, absolute, canonical}
use Rattle.floats.specs.Laws.{float_of_bits}
use Rattle.cells.specs.Cells.{floor_cell}
use Rattle.regions.specs.Ranges.{gather, along, count}
use Rattle.world.specs.declared.Point.{Point}
use Rattle.world.specs.declared.Aabb.{Aabb}
use Rattle.world.specs.declared.Body.{Body}
use Rattle.world.specs.declared.Request.{Request}
use Rattle.world.specs.Boxes.{minus}
use Rattle.world.specs.Space.{Space, Block}
use Rattle.world.specs.Laws.{both}
use Rattle.clear.specs.Clear.{clear}
use Rattle.clear.specs.Corridors.{door_in}
use Rattle.moves.specs.declared.answer.Movement.{Movement}
use Rattle.moves.specs.declared.answer.Movement.TheVariants.{Walk}
use Rattle.moves.specs.declared.answer.Waypoint.{Waypoint}
use Rattle.moves.specs.Moves.{step_height, moving}
use Rattle.places.specs.Places.{in_range, standable, near}
use Rattle.edges.specs.Edges.{raised, across, up, swept, way_clear, passable, way_door, edge_by, edge, connector}
use Rattle.heights.specs.declared.Band.{Band}
use Rattle.heights.specs.Heights.{reaches, tops_of, tops_in, tops, heights}
use Rattle.sides.specs.Sides.{level_to}
use Rattle.rooms.specs.declared.Feet.{Feet}
use Rattle.rooms.specs.Waypoints.{canonical_word, same_word, same_point}
use Rattle.words.specs.Words.{coordinate, point_of, feet_of, label_of, step_of, label_if}
use Rattle.steps.specs.declared.columns.Centre.{Centre}
use Rattle.steps.specs.Columns.{centre, centre_of, band_of, target, level, edges_at, column_steps, side, sides, column_if, steps_from}
use Rattle.steps.specs.Graph.{graph}
use Rattle.steps.specs.GraphLaws.{graph_laws}
use Rattle.arrival.specs.Alike.{Alike, Zero, zero_alike, zero_or_same, add_alike, sub_alike, lt_alike, le_alike, smaller_alike, larger_alike, absolute_alike, floor_alike}
use Rattle.arrival.specs.Areas.{AlikePoint, Held, itself, minus_alike, feet_alike, swept_alike, clear_alike, door_alike}
use Rattle.arrival.specs.Supports.{supported_alike}

-- ---- the movement: differences in height that are alike are zeros, which is a Walk with lift 0, or one number

module _ (dy : Float) (z : Zero dy) where
  not_above : lt E dy ≡ false
  not_above = lt_alike E dy E nought refl (zero_alike dy z) ∙ (unfold lt of_bits in refl)

  not_below : lt dy (neg E) ≡ false
  not_below = lt_alike dy (neg E) nought (neg E) (zero_alike dy z) refl ∙ (unfold lt neg of_bits in refl)

  no_rise : lt nought dy ≡ false
  no_rise = lt_alike nought dy nought nought refl (zero_alike dy z) ∙ (unfold lt of_bits in refl)

  pub level_walk : (r : Request) (body : Body) → moving r body dy ≡ Some (Walk, nought)
  unfolding moving larger
  level_walk r body = rw (not_above, not_below, no_rise)

moving_alike : (r : Request) (body : Body) (x y : Float) → Alike x y → moving r body x ≡ moving r body y
moving_alike r body x y e = ⊎_elim (λ z. level_walk x z.0 r body ∙ sym (level_walk y z.1 r body)) (λ q. ap (moving r body) q) (zero_or_same x y e)

-- ---- in range, near, and standable

near_alike : (most a b s : Float) → Alike a b → near most a s ≡ near most b s
near_alike most a b s e =
    le_alike (absolute (sub binary64 a s)) most (absolute (sub binary64 b s)) most (absolute_alike (sub binary64 a s) (sub binary64 b s) (sub_alike a s b s e refl)) refl

pub range_alike : (r : Request) (p q : Point) → AlikePoint p q → in_range r p ≡ in_range r q
unfolding in_range
range_alike r p q h =
    let most = add binary64 r.max_range E in
    cc (near_alike most p.x q.x r.start.x h.x, near_alike most p.y q.y r.start.y h.y, near_alike most p.z q.z r.start.z h.z)

standable_alike : (sp : Space) (body : Body) (p q : Point) → AlikePoint p q → standable sp body p ≡ standable sp body q
unfolding standable
standable_alike sp body p q h =
    cc (clear_alike _ _ (feet_alike body.width body.height p q h) sp, supported_alike p q p q h h sp body.width)

-- ---- edges and the connector

-- the same answer with another target
abbrev pub towards : Point → Option Waypoint → Option Waypoint
towards to None = None
towards to (Some w) = Some (record { feet = to; lift = w.lift; movement = w.movement; door = w.door })

module _ (sp : Space) (r : Request) (body : Body) (p q a b : Point) (h : AlikePoint p q) (k : AlikePoint a b) where
  raised_alike : (lift : Float) → AlikePoint (raised p lift) (raised q lift)
  raised_alike lift = record { x = h.x; y = add_alike p.y lift q.y lift h.y refl; z = h.z }

  across_alike : (lift : Float) → AlikePoint (across p lift a) (across q lift b)
  across_alike lift = record { x = k.x; y = add_alike p.y lift q.y lift h.y refl; z = k.z }

  area_alike : (c d e f : Point) → AlikePoint c d → AlikePoint e f → clear sp (swept body c e) ≡ clear sp (swept body d f)
  unfolding swept
  area_alike c d e f l m = clear_alike _ _ (swept_alike body.width body.height c d e f l m) sp

  passable_same : (lift : Float) → passable sp r body p a lift ≡ passable sp r body q b lift
  unfolding passable way_clear
  passable_same lift =
      let up_there = raised_alike lift in
      let over_there = across_alike lift in
      rw (
        range_alike r a b k,
        range_alike r (raised p lift) (raised q lift) up_there,
        standable_alike sp body a b k,
        area_alike p q (up lift) (up lift) h (itself (up lift)),
        area_alike (raised p lift) (raised q lift) (minus (across p lift a) (raised p lift)) (minus (across q lift b) (raised q lift)) up_there (minus_alike (across p lift a) (raised p lift) (across q lift b) (raised q lift) over_there up_there),
        area_alike (across p lift a) (across q lift b) (minus a (across p lift a)) (minus b (across q lift b)) over_there (minus_alike a (across p lift a) b (across q lift b) k over_there),
        supported_alike p q a b h k sp body.width,
      )

  door_by_area : (c d e f : Point) → AlikePoint c d → AlikePoint e f → door_in sp (swept body c e) ≡ door_in sp (swept body d f)
  unfolding swept
  door_by_area c d e f l m = door_alike _ _ (swept_alike body.width body.height c d e f l m) sp

  door_same : (lift : Float) → way_door sp body p a lift ≡ way_door sp body q b lift
  unfolding way_door
  door_same lift =
      let up_there = raised_alike lift in
      let over_there = across_alike lift in
      rw (
        door_by_area p q (up lift) (up lift) h (itself (up lift)),
        door_by_area (raised p lift) (raised q lift) (minus (across p lift a) (raised p lift)) (minus (across q lift b) (raised q lift)) up_there (minus_alike (across p lift a) (raised p lift) (across q lift b) (raised q lift) over_there up_there),
        door_by_area (across p lift a) (across q lift b) (minus a (across p lift a)) (minus b (across q lift b)) over_there (minus_alike a (across p lift a) b (across q lift b) k over_there),
      )

  -- no edge of both, or two of the same movement, the same lift and the same door
  pub edge_towards : edge sp r body p a ≡ towards a (edge sp r body q b)
  unfolding edge
  edge_towards = rw (moving_alike r body (sub binary64 a.y p.y) (sub binary64 b.y q.y) (sub_alike a.y p.y b.y q.y k.y h.y)) (by (moving r body (sub binary64 b.y q.y)))
    where
      pick : (m : Movement) (lift : Float) (door : ℕ) (c : Bool) →
          cond c (Some (record { feet = a; lift = lift; movement = m; door = door })) None ≡ towards a (cond c (Some (record { feet = b; lift = lift; movement = m; door = door })) None)
      pick m lift door true = refl
      pick m lift door false = refl

      by : (m : Option (Movement × Float)) → edge_by sp r body p a m ≡ towards a (edge_by sp r body q b m)
      by None = refl
      by (Some (m, lift)) = rw (passable_same lift, door_same lift) (pick m lift (way_door sp body q b lift) (passable sp r body q b lift))

module _ (sp : Space) (r : Request) (body : Body) (p q : Point) (h : AlikePoint p q) where
  pub edge_same : (to : Point) → edge sp r body p to ≡ edge sp r body q to
  edge_same to = edge_towards sp r body p q to to h (itself to) ∙ sym (edge_towards sp r body q q to to (itself q) (itself to))

  -- whatever the points are: no coordinate need be a number
  pub connector_same : connector sp r body p ≡ connector sp r body q
  unfolding connector
  connector_same = rw (near_alike _ p.x q.x r.goal.x h.x, near_alike _ p.z q.z r.goal.z h.z, edge_same r.goal)

-- ---- the heights of a column, for bands that are alike

gather_same : {A : Type 0} (f g : ℕ → List A) → ((k : ℕ) → f k ≡ g k) → (k n : ℕ) → gather f k n ≡ gather g k n
unfolding gather
gather_same f g e k zero = refl
gather_same f g e k (suc n) = rw (e k, gather_same f g e (suc k) n)

record AlikeBand (a b : Band) : Type 0 where
  low : Alike a.low b.low
  high : Alike a.high b.high

module _ (a b : Band) (h : AlikeBand a b) (x z : Float) where
  reaches_alike : (c : Aabb) → reaches a x z c ≡ reaches b x z c
  unfolding reaches
  reaches_alike c = cc (
    le_alike (sub binary64 a.low E) c.max.y (sub binary64 b.low E) c.max.y (sub_alike a.low E b.low E h.low refl) refl,
    le_alike c.max.y (add binary64 a.high E) c.max.y (add binary64 b.high E) refl (add_alike a.high E b.high E h.high refl),
  )

  tops_of_alike : (cs : List Aabb) → tops_of a x z cs ≡ tops_of b x z cs
  unfolding tops_of
  tops_of_alike [] = refl
  tops_of_alike (c ∷ cs) = rw (reaches_alike c, tops_of_alike cs)

  tops_in_alike : (c : Block) → tops_in a x z c ≡ tops_in b x z c
  unfolding tops_in
  tops_in_alike c = rw (tops_of_alike c.boxes)

  heights_alike : (sp : Space) → heights sp a x z ≡ heights sp b x z
  unfolding heights tops along
  heights_alike sp =
      rw (floor_alike a.low b.low h.low, floor_alike a.high b.high h.high, gather_same _ _ (λ k. tops_in_alike (sp (floor_cell x) (floor_cell b.low -ℤ pos 2 +ℤ pos k) (floor_cell z))) 0 (count (floor_cell b.low -ℤ pos 2) (floor_cell b.high)))

-- ---- graph steps

module _ (sp : Space) (r : Request) (body : Body) (p q : Point) (h : AlikePoint p q) where
  centre_same : (n : ℕ) → centre_of p n ≡ centre_of q n
  unfolding centre_of centre
  centre_same n = rw (floor_alike p.x q.x h.x, floor_alike p.z q.z h.z)

  band_alike : AlikeBand (band_of r body p) (band_of r body q)
  unfolding band_of
  band_alike = record {
    low = larger_alike (sub binary64 p.y r.max_drop) _ (sub binary64 q.y r.max_drop) _ (sub_alike p.y r.max_drop q.y r.max_drop h.y refl) refl;
    high =
        let most = larger (step_height r body) r.jump_height in
        smaller_alike (add binary64 p.y most) _ (add binary64 q.y most) _ (add_alike p.y most q.y most h.y refl) refl;
  }

  edges_same : (c : Centre) (ys : List Float) → edges_at sp r body p c ys ≡ edges_at sp r body q c ys
  unfolding edges_at
  edges_same c [] = refl
  edges_same c (y ∷ ys) = rw (edge_same sp r body p q h (target c y), edges_same c ys)

  column_same : (n : ℕ) → column_steps sp r body p n ≡ column_steps sp r body q n
  unfolding column_steps
  column_same n =
      let c = centre_of q n in
      rw (centre_same n, heights_alike (band_of r body p) (band_of r body q) band_alike c.x c.z sp, edges_same c (heights sp (band_of r body q) c.x c.z))

  level_same : (ws : List Waypoint) → level p ws ≡ level q ws
  unfolding level level_to
  level_same [] = refl
  level_same (w ∷ ws) = rw (le_alike w.feet.y (add binary64 p.y E) w.feet.y (add binary64 q.y E) refl (add_alike p.y E q.y E h.y refl), level_same ws)

  side_same : (k : ℕ) → side sp r body p k ≡ side sp r body q k
  side_same k = rw (column_same (k + 1), level_same (column_steps sp r body q (k + 1)))

  sides_same : sides sp r body p ≡ sides sp r body q
  unfolding sides
  sides_same = rw (side_same 0, side_same 1, side_same 2, side_same 3)

  column_if_same : (n : ℕ) → column_if sp r body p n ≡ column_if sp r body q n
  unfolding column_if
  column_if_same n = rw (sides_same, column_same n)

  pub steps_same : steps_from sp r body p ≡ steps_from sp r body q
  unfolding steps_from
  steps_same = gather_same (column_if sp r body p) (column_if sp r body q) column_if_same 0 9

-- ---- over words: of a point's own bits

pub word_alike : (n : ℕ) → Alike (of_bits binary64 (canonical_word n)) (of_bits binary64 n)
unfolding canonical_word
word_alike n = go (eqb n 0x8000_0000_0000_0000) refl
  where
    go : (b : Bool) → eqb n 0x8000_0000_0000_0000 ≡ b → Alike (of_bits binary64 (cond b 0 n)) (of_bits binary64 n)
    go true e = rw (eqb-true n 0x8000_0000_0000_0000 e) (unfold of_bits canonical in refl)
    go false e = refl

-- a point as its bits say, with -0.0 as it is
abbrev pub bits_of : Feet → Point
bits_of p = record { x = of_bits binary64 p.x; y = of_bits binary64 p.y; z = of_bits binary64 p.z }

module _ (sp : Space) (r : Request) (body : Body) (p : Feet) where
  canonical_alike : AlikePoint (point_of p) (bits_of p)
  unfolding point_of coordinate
  canonical_alike = record { x = word_alike p.x; y = word_alike p.y; z = word_alike p.z }

  pub steps_by_bits : (graph sp r body).steps p ≡ map step_of (steps_from sp r body (bits_of p))
  unfolding graph
  steps_by_bits = ap (map step_of) (steps_same sp r body (point_of p) (bits_of p) canonical_alike)

  pub connector_by_bits : (graph sp r body).connector p ≡ label_if (connector sp r body (bits_of p))
  unfolding graph
  connector_by_bits = ap label_if (connector_same sp r body (point_of p) (bits_of p) canonical_alike)

-- ---- over words: of points that are the same by 01, "equal bits, with -0.0 as 0"

-- a word that is the same as an f64's
word_same : (n : ℕ) (x : Float) → T (fits binary64 x) → same_word n (to_bits binary64 x) ≡ true → Alike (coordinate n) x
unfolding same_word coordinate
word_same n x f e =
    ap (λ (v : ℕ). canonical (of_bits binary64 v)) (eqb-true (canonical_word n) (canonical_word (to_bits binary64 x)) e) ∙ word_alike (to_bits binary64 x) ∙ ap canonical (float_of_bits x f)

pub point_same : (q : Feet) (to : Point) → Held to → same_point q (feet_of to) ≡ true → AlikePoint (point_of q) to
unfolding same_point feet_of point_of
point_same q to l e =
    let xy_z = both (same_word q.x (to_bits binary64 to.x) && same_word q.y (to_bits binary64 to.y)) (same_word q.z (to_bits binary64 to.z)) e in
    let x_y = both (same_word q.x (to_bits binary64 to.x)) (same_word q.y (to_bits binary64 to.y)) xy_z.0 in
    record { x = word_same q.x to.x l.x x_y.0; y = word_same q.y to.y l.y x_y.1; z = word_same q.z to.z l.z xy_z.1 }

module _ (sp : Space) (r : Request) (body : Body) (from : Point) where
  -- two points of f64s: one edge, but for the target
  pub same_edge : (a b : Point) → Held a → Held b → same_point (feet_of a) (feet_of b) ≡ true → edge sp r body from a ≡ towards a (edge sp r body from b)
  unfolding graph
  same_edge a b h k e =
      let own = point_same (feet_of a) a h ((graph_laws sp r body).same_refl (feet_of a)) in
      let other = point_same (feet_of a) b k e in
      edge_towards sp r body from from a b (itself from) (record { x = sym own.x ∙ other.x; y = sym own.y ∙ other.y; z = sym own.z ∙ other.z })

  -- feet as the graph reads them, and a point of f64s: one label, to the bit
  pub same_label : (q : Feet) (to : Point) → Held to → same_point q (feet_of to) ≡ true → label_if (edge sp r body from (point_of q)) ≡ label_if (edge sp r body from to)
  same_label q to h e = ap label_if (edge_towards sp r body from from (point_of q) to (itself from) (point_same q to h e)) ∙ again (edge sp r body from to)
    where
      again : (a : Option Waypoint) → label_if (towards (point_of q) a) ≡ label_if a
      again None = refl
      again (Some w) = unfold label_of in refl
