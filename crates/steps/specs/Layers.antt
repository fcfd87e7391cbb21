-- The tops of one column: a cell has at most as many as its shape has boxes, one outside the window has none, and a column of the window has at most
-- 256 cells. So they are at most 256 * 16, however many layers are looked at.
use Rattle.std.specs.Prelude.{Option, Some, None, ℕ, zero, suc, ◌+◌, ◌-◌, ◌*◌, ◌≤◌, ◌≡◌, Bool, ◌&&◌, List, [], ◌∷◌, map, ltb, leb, negsuc, ◌+ℤ◌, ◌-ℤ◌, length, get_or, drop, Float}
use native.Mathlib.Omega.{arith}
use Rattle.std.proofs.Math.Path.{refl}
use Rattle.std.proofs.Math.Bool.{true, false, cond}
use Rattle.std.proofs.Common.{ltb-true}
use Rattle.std.proofs.Math.IntN.{ℤ, pos}
use Rattle.std.proofs.lemmas.List.{length-map}
use Rattle.cells.specs.Cells.{floor_cell}
use Rattle.cells.specs.Parts.{over, under, sum, difference}
use Rattle.regions.specs.Ranges.{count, along}
use Rattle.world.specs.declared.Point.{Point}
use Rattle.world.specs.declared.Aabb.{Aabb}
use Rattle.world.specs.declared.Window.{Window}
use Rattle.world.specs.declared.Cell.{Cell}
use Rattle.world.specs.Boxes.{moved, corner}
use Rattle.world.specs.Space.{Space, Place, At, Out, place, onward, record_of, entry_at, collides, of_parts, known_by, known, cell_in, cell_at, ahead, box_here, run, block_of, space}
use Rattle.world.specs.Laws.{entry_is}
use Rattle.tables.specs.Good.{GoodWorld}
use Rattle.heights.specs.declared.Band.{Band}
use Rattle.heights.specs.Heights.{reaches, tops_of, tops_in, tops}
use Rattle.steps.specs.Gathers.{gather_within}

-- ---- the tops of a cell: at most as many as it has boxes

run_short : (n : ℕ) (s : List ℕ) (at : ℕ) → length (run n s at) ≤ n
unfolding run
run_short zero s at = omega arith
run_short (suc n) s at = go (box_here s at) (run_short n s (at + 48))
  where
    go : (b : Option Aabb) → length (run n s (at + 48)) ≤ n → length (ahead b (run n s (at + 48))) ≤ suc n
    go (Some b) h = omega arith
    go None h = omega arith

tops_short : (band : Band) (x z : Float) (bs : List Aabb) → length (tops_of band x z bs) ≤ length bs
unfolding tops_of
tops_short band x z [] = omega arith
tops_short band x z (b ∷ bs) = go (reaches band x z b) (tops_short band x z bs)
  where
    go : (t : Bool) → length (tops_of band x z bs) ≤ length bs →
        length (cond t (b.max.y ∷ tops_of band x z bs) (tops_of band x z bs)) ≤ suc (length bs)
    go true h = omega arith
    go false h = omega arith

-- how many tops a cell has at most: an unknown one is no support
abbrev most : Option Cell → ℕ
most None = 0
most (Some c) = c.count

cell_tops : (band : Band) (x z : Float) (boxes : List ℕ) (c : Option Cell) (p : Point) → length (tops_in band x z (block_of boxes c p)) ≤ most c
unfolding tops_in block_of
cell_tops band x z boxes None p = omega arith
cell_tops band x z boxes (Some c) p = go c.support
  where
    read : List Aabb
    read = run c.count (drop (48 * c.first) boxes) 0

    own : List Aabb
    own = map (λ (b : Aabb). moved b p) read

    go : (t : Bool) → length (cond t (tops_of band x z own) []) ≤ c.count
    go true = omega (arith, tops_short band x z own, length-map read (λ (b : Aabb). moved b p), run_short c.count (drop (48 * c.first) boxes) 0)
    go false = omega arith

-- ---- a cell of a world that is not bad: at most 16, and none outside the window

module _ (w : Window) (cells perms shapes boxes : List ℕ) (good : GoodWorld w cells shapes boxes) where
  shape_most : (p shape state : ℕ) (e : Option (ℕ × ℕ)) → entry_at shapes shape ≡ e → most (known_by e (λ first count. Some (of_parts p first count state))) ≤ 16
  unfolding of_parts
  shape_most p shape state None q = omega arith
  shape_most p shape state (Some e) q = let h = entry_is shapes shape e.0 e.1 q in go (collides p) (omega (arith, h.2, good.counts shape h.0))
    where
      go : (t : Bool) → e.1 ≤ 16 → cond t e.1 0 ≤ 16
      go true h = h
      go false h = omega arith

  known_most : (state shape : ℕ) → most (known perms shapes state shape) ≤ 16
  unfolding known
  known_most state shape = go (ltb state (length perms))
    where
      go : (t : Bool) → most (cond t (known_by (entry_at shapes shape) (λ first count. Some (of_parts (get_or perms state 0) first count state))) None) ≤ 16
      go true = shape_most (get_or perms state 0) shape state (entry_at shapes shape) refl
      go false = omega arith

  cell_most : (p : Place) → most (cell_in cells perms shapes p) ≤ 16
  unfolding cell_in
  cell_most Out = omega arith
  cell_most (At i) = go (entry_at cells i)
    where
      go : (e : Option (ℕ × ℕ)) → most (known_by e (λ state shape. known perms shapes state shape)) ≤ 16
      go (Some e) = known_most e.0 e.1
      go None = omega arith

  outside : (x y z : ℤ) → place (y -ℤ w.y) w.sy ≡ Out → record_of w x y z ≡ Out
  unfolding record_of
  outside x y z e = rw e (go (place (x -ℤ w.x) w.sx))
    where
      go : (p : Place) → onward p (λ i. Out) ≡ Out
      go (At i) = refl
      go Out = refl

-- ---- the layers of a column

-- how many cells of a column of n lie at the place z or above it
abbrev left : ℕ → ℤ → ℕ
left n z = n - over z

-- u is the place above z, and the cell at z has m tops: at most 16, and none where z is outside. Then they fit in what z has more left than u.
inside_less : (z u : ℤ) (n : ℕ) → over u + under z ≡ suc (over z) + under u →
    (m : ℕ) → m ≤ 16 → (place z n ≡ Out → m ≡ 0) → m + 16 * left n u ≤ 16 * left n z
unfolding place
inside_less (pos d) (pos e) n h m s out = go (ltb d n) refl (leb n 256) out
  where
    go : (a : Bool) → ltb d n ≡ a → (b : Bool) → (cond (a && b) (At d) Out ≡ Out → m ≡ 0) → m + 16 * (n - e) ≤ 16 * (n - d)
    go true p b out = omega (arith, ltb-true d n p)
    go false p b out = omega (arith, out refl)
inside_less (pos d) (negsuc e) n h m s out = absurd (omega arith)
inside_less (negsuc d) u n h m s out = omega (arith, out refl)

module _ (w : Window) (cells perms shapes boxes : List ℕ) (good : GoodWorld w cells shapes boxes) (band : Band) (x z : Float) where
  abbrev sp : Space
  sp = space w cells perms shapes boxes

  cell_small : (cx y cz : ℤ) → length (tops_in band x z (sp cx y cz)) ≤ 16
  unfolding space cell_at
  cell_small cx y cz =
      let c = cell_at w cells perms shapes cx y cz in
      omega (arith, cell_tops band x z boxes c (corner cx y cz), cell_most w cells perms shapes boxes good (record_of w cx y cz))

  cell_none : (cx y cz : ℤ) → place (y -ℤ w.y) w.sy ≡ Out → length (tops_in band x z (sp cx y cz)) ≡ 0
  unfolding space cell_at cell_in
  cell_none cx y cz e = rw (outside w cells perms shapes boxes good cx y cz e) (omega (arith, cell_tops band x z boxes None (corner cx y cz)))

  pub column_tops : length (tops sp band x z) ≤ 4096
  unfolding tops along
  column_tops = omega (arith, gather_within layer room step 0 (count low (floor_cell band.high)), good.sizes.sy)
    where
      low : ℤ
      low = floor_cell band.low -ℤ pos 2

      layer : ℕ → List Float
      layer k = tops_in band x z (sp (floor_cell x) (low +ℤ pos k) (floor_cell z))

      -- the window's cells of this column at layer k or above it, 16 tops each
      room : ℕ → ℕ
      room k = 16 * left w.sy (low +ℤ pos k -ℤ w.y)

      step : (k : ℕ) → length (layer k) + room (suc k) ≤ room k
      step k =
          inside_less (low +ℤ pos k -ℤ w.y) (low +ℤ pos (suc k) -ℤ w.y) w.sy
          (omega (arith, sum low (pos k), sum low (pos (suc k)), difference (low +ℤ pos k) w.y, difference (low +ℤ pos (suc k)) w.y))
          (length (layer k)) (cell_small (floor_cell x) (low +ℤ pos k) (floor_cell z)) (cell_none (floor_cell x) (low +ℤ pos k) (floor_cell z))
