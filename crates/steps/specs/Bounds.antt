-- No expansion has more than 9 * 256 * 16 = 36,864 steps in a world that is not bad (01, "Graph step", "Tables"): nine columns of at most 256 cells with
-- at most 16 boxes each, and at most one step to a top. So the counts of a search cannot wrap.
use Rattle.std.specs.Prelude.{Option, Some, None, ℕ, suc, ◌≤◌, ◌≡◌, refl, Bool, true, false, cond, List, [], ◌∷◌, length, Float}
use Rattle.std.proofs.Common.{arith}
use Rattle.std.proofs.lemmas.List.{length-map}
use Rattle.std.specs.Float.Ieee.{le}
use Rattle.world.specs.declared.Point.{Point}
use Rattle.world.specs.declared.Window.{Window}
use Rattle.world.specs.declared.Body.{Body}
use Rattle.world.specs.declared.Request.{Request}
use Rattle.world.specs.Space.{Space, space}
use Rattle.tables.specs.BadWorld.{bad_world}
use Rattle.tables.specs.Good.{GoodWorld, not_bad_is_good}
use Rattle.heights.specs.declared.Band.{Band}
use Rattle.heights.specs.Heights.{tops, insert, sorted, within, thinned_after, thinned, heights}
use Rattle.moves.specs.declared.answer.Waypoint.{Waypoint}
use Rattle.edges.specs.Edges.{edge}
use Rattle.rooms.specs.declared.Feet.{Feet}
use Rattle.words.specs.Words.{point_of, step_of}
use Rattle.steps.specs.declared.columns.Centre.{Centre}
use Rattle.sides.specs.Sides.{looked_by}
use Rattle.steps.specs.Columns.{centre_of, band_of, target, ahead, edges_at, column_steps, sides, column_if, steps_from}
use Rattle.steps.specs.Gathers.{gather_each}
use Rattle.steps.specs.Graph.{graph}
use Rattle.steps.specs.Layers.{column_tops}

-- ---- the heights are no more than the tops

insert_length : (t : Float) (us : List Float) → length (insert t us) ≡ suc (length us)
unfolding insert
insert_length t [] = refl
insert_length t (u ∷ us) = go (le t u) (insert_length t us)
  where
    go : (b : Bool) → length (insert t us) ≡ suc (length us) → length (cond b (t ∷ (u ∷ us)) (u ∷ insert t us)) ≡ suc (suc (length us))
    go true h = refl
    go false h = omega arith

sorted_length : (ts : List Float) → length (sorted ts) ≡ length ts
unfolding sorted
sorted_length [] = refl
sorted_length (t ∷ ts) = omega (arith, insert_length t (sorted ts), sorted_length ts)

thinned_after_short : (kept : Float) (ts : List Float) → length (thinned_after kept ts) ≤ length ts
unfolding thinned_after
thinned_after_short kept [] = omega arith
thinned_after_short kept (t ∷ ts) = go (within kept t) (thinned_after_short kept ts) (thinned_after_short t ts)
  where
    go : (b : Bool) → length (thinned_after kept ts) ≤ length ts → length (thinned_after t ts) ≤ length ts →
        length (cond b (thinned_after kept ts) (t ∷ thinned_after t ts)) ≤ suc (length ts)
    go true h k = omega arith
    go false h k = omega arith

thinned_short : (ts : List Float) → length (thinned ts) ≤ length ts
unfolding thinned
thinned_short [] = omega arith
thinned_short (t ∷ ts) = omega (arith, thinned_after_short t ts)

heights_short : (sp : Space) (band : Band) (x z : Float) → length (heights sp band x z) ≤ length (tops sp band x z)
unfolding heights
heights_short sp band x z = omega (arith, thinned_short (sorted (tops sp band x z)), sorted_length (tops sp band x z))

-- ---- the steps of a column are no more than its heights

edges_short : (sp : Space) (r : Request) (body : Body) (from : Point) (c : Centre) (ys : List Float) → length (edges_at sp r body from c ys) ≤ length ys
unfolding edges_at
edges_short sp r body from c [] = omega arith
edges_short sp r body from c (y ∷ ys) = go (edge sp r body from (target c y)) (edges_short sp r body from c ys)
  where
    go : (a : Option Waypoint) → length (edges_at sp r body from c ys) ≤ length ys → length (ahead a (edges_at sp r body from c ys)) ≤ suc (length ys)
    go None h = omega arith
    go (Some s) h = omega arith

-- ---- nine columns: none has more than 256 * 16 steps

module _ (w : Window) (cells perms shapes boxes : List ℕ) (r : Request) (body : Body) where
  abbrev sp : Space
  sp = space w cells perms shapes boxes

  column_short : GoodWorld w cells shapes boxes → (p : Point) (n : ℕ) → length (column_if sp r body p n) ≤ 4096
  unfolding column_if column_steps
  column_short good p n = go (looked_by (sides sp r body p) n)
    where
      c : Centre
      c = centre_of p n

      ys : List Float
      ys = heights sp (band_of r body p) c.x c.z

      go : (b : Bool) → length (cond b (edges_at sp r body p c ys) []) ≤ 4096
      go true =
          omega (
            arith,
            edges_short sp r body p c ys,
            heights_short sp (band_of r body p) c.x c.z,
            column_tops w cells perms shapes boxes good (band_of r body p) c.x c.z,
          )
      go false = omega arith

pub steps_bounded : (w : Window) (cells perms shapes boxes : List ℕ) (r : Request) (body : Body) → bad_world w cells shapes boxes ≡ false →
    (p : Point) → length (steps_from (space w cells perms shapes boxes) r body p) ≤ 36864
unfolding steps_from
steps_bounded w cells perms shapes boxes r body e p =
    let good = not_bad_is_good w cells shapes boxes e in
    gather_each (column_if (space w cells perms shapes boxes) r body p) 4096 (column_short w cells perms shapes boxes r body good p) 0 9

-- and so of 01's graph
pub graph_bounded : (w : Window) (cells perms shapes boxes : List ℕ) (r : Request) (body : Body) → bad_world w cells shapes boxes ≡ false →
    (p : Feet) → length ((graph (space w cells perms shapes boxes) r body).steps p) ≤ 36864
unfolding graph
graph_bounded w cells perms shapes boxes r body e p =
    let ws = steps_from (space w cells perms shapes boxes) r body (point_of p) in omega (arith, length-map ws step_of, steps_bounded w cells perms shapes boxes r body e (point_of p))
