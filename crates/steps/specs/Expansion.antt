-- What an expansion goes by: column after column, with the side answers of the columns before, and height after height, each step of the list is met in order.
use Prim.Native.Nat.{ℕ, zero, suc, ◌+◌, ◌-◌, ◌≤◌, ◌<◌}
use native.Mathlib.Omega.{arith}
use Rattle.std.proofs.Math.Numerals.{add-one}
use Rattle.std.specs.Prelude.{Option, Some, None, ◌≡◌, Bool, true, false, ◌||◌, List, [], ◌∷◌, ◌++◌, ltb, Float}
use Rattle.std.proofs.Math.Path.{refl, ap}
use Rattle.std.proofs.Common.{sym, ◌∙◌, ltb-true, ltb-false}
use Rattle.std.proofs.Math.ListN.{length}
use Rattle.regions.specs.Ranges.{gather}
use Rattle.world.specs.declared.Point.{Point}
use Rattle.world.specs.declared.Body.{Body}
use Rattle.world.specs.declared.Request.{Request}
use Rattle.world.specs.Space.{Space}
use Rattle.heights.specs.declared.Band.{Band}
use Rattle.heights.specs.Heights.{tops, sorted, heights, kept_after, next_after}
use Rattle.heights.proofs.Next.{kept_next, kept_end}
use Rattle.heights.proofs.Laws.{numbers}
use Rattle.moves.specs.declared.answer.Waypoint.{Waypoint}
use Rattle.edges.specs.Edges.{edge}
use Rattle.sides.specs.declared.Sides.{Sides}
use Rattle.sides.specs.Sides.{level_to, looked_by, no_sides, answered_by}
use Rattle.sides.specs.Laws.{always, a_diagonal}
use Rattle.steps.specs.declared.columns.Centre.{Centre}
use Rattle.steps.specs.Columns.{centre_of, band_of, target, ahead, level, edges_at, column_steps, sides, column_if, steps_from}

module _ (sp : Space) (r : Request) (body : Body) (from : Point) where
  -- ---- columns

  -- the steps of the columns from n on
  abbrev pub columns_from : ℕ → List Waypoint
  columns_from n = gather (column_if sp r body from) n (9 - n)

  pub columns_begin : steps_from sp r body from ≡ columns_from 0
  unfolding steps_from
  columns_begin = refl

  pub columns_on : (n : ℕ) → n < 9 → columns_from n ≡ column_if sp r body from n ++ columns_from (n + 1)
  unfolding gather
  columns_on n h = let e : 9 - n ≡ suc (9 - (n + 1)) = omega arith in rw (e, add-one)

  pub columns_end : (n : ℕ) → 9 ≤ n → columns_from n ≡ []
  unfolding gather
  columns_end n h = let e : 9 - n ≡ 0 = omega arith in rw e

  -- ---- sides

  -- the side answers once the columns before n have answered
  unfoldable pub sides_before : ℕ → Sides
  sides_before zero = no_sides
  sides_before (suc n) = answered_by (sides_before n) n (level from (column_if sp r body from n))

  pub sides_begin : sides_before 0 ≡ no_sides
  unfolding sides_before
  sides_begin = refl

  pub sides_on : (n : ℕ) → sides_before (n + 1) ≡ answered_by (sides_before n) n (level from (column_if sp r body from n))
  unfolding sides_before
  sides_on n = rw add-one

  -- after the four sides they are the point's
  all_answered : (m : ℕ) → sides_before (suc (suc (suc (suc (suc m))))) ≡ sides sp r body from
  unfolding sides_before no_sides answered_by sides column_if looked_by
  all_answered zero = refl
  all_answered (suc m) = a_diagonal (sides_before (suc (suc (suc (suc (suc m)))))) (suc (suc (suc (suc (suc m))))) _ (omega arith) ∙ all_answered m

  -- what is looked at goes by the sides before
  pub looked_before : (n : ℕ) → looked_by (sides_before n) n ≡ looked_by (sides sp r body from) n
  unfolding looked_by
  looked_before zero = refl
  looked_before (suc zero) = refl
  looked_before (suc (suc zero)) = refl
  looked_before (suc (suc (suc zero))) = refl
  looked_before (suc (suc (suc (suc zero)))) = refl
  looked_before (suc (suc (suc (suc (suc m))))) = ap (λ (s : Sides). looked_by s (suc (suc (suc (suc (suc m)))))) (all_answered m)

  module _ (n : ℕ) where
    -- ---- a column that is not looked at

    pub skipped : looked_by (sides_before n) n ≡ false → column_if sp r body from n ≡ []
    unfolding column_if
    skipped e = rw (sym (looked_before n) ∙ e)

    pub sides_skipped : looked_by (sides_before n) n ≡ false → sides_before (n + 1) ≡ sides_before n
    sides_skipped e = sides_on n ∙ a_diagonal (sides_before n) n _ (go (ltb n 5) refl)
      where
        go : (b : Bool) → ltb n 5 ≡ b → 5 ≤ n
        go true f = absurd (let z : false ≡ true = sym e ∙ always (sides_before n) n (ltb-true n 5 f) in let y : ◌≡◌ {A = ℕ} 0 1 = cc in omega arith)
        go false f = ltb-false n 5 f

    -- ---- the heights of a column that is

    -- the steps of column n behind a height
    unfoldable pub steps_after : Option Float → List Waypoint
    steps_after after = edges_at sp r body from (centre_of from n) (kept_after after (sorted (tops sp (band_of r body from) (centre_of from n).x (centre_of from n).z)))

    pub column_begins : looked_by (sides_before n) n ≡ true → column_if sp r body from n ≡ steps_after None
    unfolding column_if column_steps heights kept_after steps_after
    column_begins e = rw (sym (looked_before n) ∙ e)

    module _ (after : Option Float) where
      pub column_ends : next_after sp (band_of r body from) (centre_of from n).x (centre_of from n).z after ≡ None → steps_after after ≡ []
      unfolding next_after steps_after edges_at
      column_ends e = ap (edges_at sp r body from (centre_of from n)) (kept_end _ (numbers (band_of r body from) (centre_of from n).x (centre_of from n).z sp) after e)

      pub column_on : (y : Float) → next_after sp (band_of r body from) (centre_of from n).x (centre_of from n).z after ≡ Some y →
          steps_after after ≡ ahead (edge sp r body from (target (centre_of from n) y)) (steps_after (Some y))
      unfolding next_after steps_after edges_at
      column_on y e = ap (edges_at sp r body from (centre_of from n)) (kept_next _ (numbers (band_of r body from) (centre_of from n).x (centre_of from n).z sp) after y e)

    -- how many heights are left behind one
    unfoldable pub heights_left : Option Float → ℕ
    heights_left after = length (kept_after after (sorted (tops sp (band_of r body from) (centre_of from n).x (centre_of from n).z)))

    -- what the code asked for and what it was told: the next height after one
    module _ {band : Band} {centre : Centre} {next : Option Float} (after : Option Float) (b : band ≡ band_of r body from) (m : centre ≡ centre_of from n) (e : next ≡ next_after sp band centre.x centre.z after) where
      told : (h : Option Float) → next ≡ h → next_after sp (band_of r body from) (centre_of from n).x (centre_of from n).z after ≡ h
      told h i = rw (← b, ← m) (sym e ∙ i)

      pub none_left : next ≡ None → steps_after after ≡ []
      none_left i = column_ends after (told None i)

      pub next_ahead : (y : Float) → next ≡ Some y → steps_after after ≡ ahead (edge sp r body from (target centre y)) (steps_after (Some y))
      next_ahead y i = rw m (column_on after y (told (Some y) i))

      pub fewer : (y : Float) → next ≡ Some y → heights_left (Some y) < heights_left after
      unfolding heights_left next_after
      fewer y i = omega (arith, ap length (kept_next _ (numbers (band_of r body from) (centre_of from n).x (centre_of from n).z sp) after y (told (Some y) i)))

-- ---- whether a column is level, noted edge by edge

pub noted_none : (from : Point) (noted : Bool) → (noted || level from []) ≡ noted
unfolding level
noted_none from true = refl
noted_none from false = refl

pub noted_on : (from : Point) (noted : Bool) (w : Waypoint) (ws : List Waypoint) → (noted || level from (w ∷ ws)) ≡ ((noted || level_to from w.feet) || level from ws)
unfolding level
noted_on from true w ws = refl
noted_on from false w ws = refl
