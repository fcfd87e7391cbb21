-- Where a point is the same as the goal, the goal is in range and a body may stand there, the connector passes: it is a Walk with lift 0, and its door is the one
-- that the body stands in. So a search that is at such a point may end its list there.
use Rattle.std.specs.Prelude.{◌≡◌, ℕ, Bool, eqb, Float, Some}
use Rattle.std.proofs.Math.Path.{refl}
use Rattle.std.proofs.Common.{sym, ◌∙◌}
use Rattle.std.proofs.Math.Bool.{true, false, cond}
use Rattle.std.proofs.Math.Option.{some}
use Rattle.std.specs.Float.Ieee.{binary64, lt, le, eq, add, sub, of_bits, to_bits}
use Rattle.std.specs.Float.Ieee.Fits.{add-fits}
use Rattle.std.specs.Float.Ieee.Scale.{finite}
use Rattle.floats.specs.Floats.{nought, absolute}
use Rattle.world.specs.declared.Point.{Point}
use Rattle.world.specs.declared.Aabb.{Aabb}
use Rattle.world.specs.declared.Body.{Body}
use Rattle.world.specs.declared.Request.{Request}
use Rattle.world.specs.Boxes.{from_feet, minus}
use Rattle.world.specs.Space.{Space, no_door}
use Rattle.world.specs.Laws.{both}
use Rattle.request.specs.Laws.{FinitePoint}
use Rattle.clear.specs.Clear.{clear}
use Rattle.clear.specs.Corridors.{or_else, door_in}
use Rattle.support.specs.Support.{supported}
use Rattle.moves.specs.declared.answer.Movement.TheVariants.{Walk}
use Rattle.moves.specs.declared.answer.Waypoint.{Waypoint}
use Rattle.places.specs.Places.{in_range, standable, near}
use Rattle.edges.specs.Edges.{raised, across, up, swept, way_clear, passable, way_door, edge, connector}
use Rattle.rooms.specs.declared.Feet.{Feet}
use Rattle.rooms.specs.Waypoints.{same_point}
use Rattle.words.specs.Words.{point_of, feet_of, label_of}
use Rattle.steps.specs.Graph.{graph}
use Rattle.arrival.specs.Alike.{Alike, zero_alike, nought_zero, finite_alike, no_difference, with_zero, le_alike, absolute_alike}
use Rattle.arrival.specs.Areas.{AlikePoint, ZeroPoint, Held, itself, swept_nowhere, clear_alike, door_alike}
use Rattle.arrival.specs.Signs.{level_walk, range_alike, edge_same, point_same}

-- ---- near

-- 1.5
abbrev most : Float
most = of_bits binary64 0x3ff8_0000_0000_0000

near_itself : (a b : Float) → Alike a b → finite b ≡ true → near most a b ≡ true
near_itself a b e f =
    le_alike (absolute (sub binary64 a b)) most (absolute nought) most
    (absolute_alike (sub binary64 a b) nought (zero_alike (sub binary64 a b) (no_difference a b e (finite_alike a b e ∙ f)))) refl
    ∙ (unfold absolute le lt eq of_bits in refl)

-- ---- the edge from a point to itself

-- the door that a body stands in, and the waypoint that such an edge leads to
abbrev pub own_door : Space → Body → Point → ℕ
own_door sp body to = door_in sp (from_feet to body.width body.height)

abbrev pub arrived : Space → Body → Point → Waypoint
arrived sp body to = record { feet = to; lift = nought; movement = Walk; door = own_door sp body to }

module _ (sp : Space) (r : Request) (body : Body) (to : Point) (n : FinitePoint to) (l : Held to) where
  abbrev level : Float
  level = add binary64 to.y nought

  level_alike : Alike level to.y
  level_alike = with_zero to.y nought l.y nought_zero

  -- up by no lift it stays alike, and so it does across, for that is the same point
  raised_alike : AlikePoint (raised to nought) to
  raised_alike = record { x = refl; y = level_alike; z = refl }

  raised_held : Held (raised to nought)
  raised_held = record { x = l.x; y = add-fits binary64 to.y nought; z = l.z }

  -- the three areas are the box of a body at the point
  abbrev there : Bool
  there = clear sp (from_feet to body.width body.height)

  area : (p d : Point) → AlikePoint p to → Held p → ZeroPoint d → (clear sp (swept body p d) ≡ there) × (door_in sp (swept body p d) ≡ own_door sp body to)
  unfolding swept
  area p d a b z =
      let s = swept_nowhere body.width body.height p to d a b z in
      (clear_alike _ _ s sp, door_alike _ _ s sp)

  abbrev Own : Aabb → Type 0
  Own b = (clear sp b ≡ there) × (door_in sp b ≡ own_door sp body to)

  lifted : Own (swept body to (up nought))
  lifted = area to (up nought) (itself to) l (record { x = nought_zero; y = nought_zero; z = nought_zero })

  crossed : Own (swept body (raised to nought) (minus (across to nought to) (raised to nought)))
  crossed = area (raised to nought) (minus (across to nought to) (raised to nought)) raised_alike raised_held (apart)
    where
      apart : ZeroPoint (minus (across to nought to) (raised to nought))
      apart = unfold minus in record {
        x = no_difference to.x to.x refl n.x;
        y = no_difference level level refl (finite_alike level to.y level_alike ∙ n.y);
        z = no_difference to.z to.z refl n.z;
      }

  settled : Own (swept body (across to nought to) (minus to (across to nought to)))
  settled = area (across to nought to) (minus to (across to nought to)) raised_alike raised_held (apart)
    where
      apart : ZeroPoint (minus to (across to nought to))
      apart = unfold minus in record {
        x = no_difference to.x to.x refl n.x;
        y = no_difference to.y level (sym level_alike) n.y;
        z = no_difference to.z to.z refl n.z;
      }

  passes : in_range r to ≡ true → standable sp body to ≡ true → passable sp r body to to nought ≡ true
  unfolding passable way_clear standable
  passes i s =
      let c = both there (supported sp body.width to to) s in
      rw (i, range_alike r (raised to nought) to raised_alike ∙ i, lifted.0, crossed.0, settled.0, c.0, c.1)

  door_there : way_door sp body to to nought ≡ own_door sp body to
  unfolding way_door or_else
  door_there = rw (lifted.1, crossed.1, settled.1) (same (eqb (own_door sp body to) no_door))
    where
      same : (b : Bool) → cond b (cond b (own_door sp body to) (own_door sp body to)) (own_door sp body to) ≡ own_door sp body to
      same true = refl
      same false = refl

  stays : in_range r to ≡ true → standable sp body to ≡ true → edge sp r body to to ≡ Some (arrived sp body to)
  unfolding edge
  stays i s = rw (level_walk (sub binary64 to.y to.y) (no_difference to.y to.y refl n.y) r body, passes i s, door_there)

  -- and so from a point alike
  pub edge_alike : (from : Point) → AlikePoint from to → in_range r to ≡ true → standable sp body to ≡ true → edge sp r body from to ≡ Some (arrived sp body to)
  edge_alike from h i s = edge_same sp r body from to h to ∙ stays i s

-- ---- the connector from the goal to itself

module _ (sp : Space) (r : Request) (body : Body) (n : FinitePoint r.goal) (l : Held r.goal) (i : in_range r r.goal ≡ true) (s : standable sp body r.goal ≡ true) where
  pub connector_alike : (from : Point) → AlikePoint from r.goal → connector sp r body from ≡ Some (arrived sp body r.goal)
  unfolding connector
  connector_alike from h =
      rw (near_itself from.x r.goal.x h.x n.x, near_itself from.z r.goal.z h.z n.z) (edge_alike sp r body r.goal n l from h i s)

  -- over words: of feet that are the same as the goal's
  pub connected_at_goal : (p : Feet) → same_point p (feet_of r.goal) ≡ true → (graph sp r body).connector p ≡ some (record { lift = 0; movement = 0; door = own_door sp body r.goal })
  unfolding graph
  connected_at_goal p e = rw (connector_alike (point_of p) (point_same p r.goal l e)) (unfold label_of to_bits of_bits in refl)
