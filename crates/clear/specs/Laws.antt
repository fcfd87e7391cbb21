-- Laws that the code goes by: a run of boxes, a cell by the tests on it, and the cells of a region one after the other, with x and z exchanged.
use Rattle.std.specs.Prelude.{ℕ, ◌+◌, ◌-◌, ◌*◌, ◌<◌, ◌≡◌, Bool, not, ◌&&◌, ◌||◌, List, [], ◌∷◌, map, ltb, drop, Option, Some, None, option_map, is_some}
use Rattle.std.specs.List.{list_any}
use Rattle.std.specs.Bool.{then_some}
use Rattle.std.proofs.Math.Path.{refl, sym, ap}
use Rattle.std.proofs.Common.{arith, ◌∙◌, true≢false}
use Rattle.std.proofs.Math.Bool.{true, false, cond}
use borrow.Author.Tests.{eqb-true, not-true}
use Rattle.std.proofs.Math.Dec.{eqb}
use Rattle.regions.specs.declared.Region.{Region}
use Rattle.regions.specs.declared.Spot.{Spot}
use Rattle.regions.specs.Regions.{to_come}
use Rattle.world.specs.declared.Point.{Point}
use Rattle.world.specs.declared.Aabb.{Aabb}
use Rattle.world.specs.declared.Cell.{Cell}
use Rattle.world.specs.Boxes.{meets, moved, cube, corner, voxel}
use Rattle.world.specs.Laws.{both, run_none as boxes_none, run_end as boxes_end, run_more as boxes_more, turns_end}
use Rattle.world.specs.Space.{Space, Block, run, box_here, no_door, door_of, block_of}
use Rattle.clear.specs.Clear.{hits, free, all_free, clear}
use Rattle.clear.specs.Corridors.{or_else, first_door, cell_door, door_at, door_in, corridor}

-- ---- a run of boxes

-- what a run of boxes, moved by a point, says of an area
abbrev pub run_hits : Aabb → Point → List ℕ → ℕ → ℕ → Bool
run_hits area by s left at = hits area (map (λ (b : Aabb). moved b by) (run left s at))

pub hits_any : (area : Aabb) (by : Point) (bs : List Aabb) → list_any (λ (b : Aabb). meets (moved b by) area) bs ≡ hits area (map (λ (b : Aabb). moved b by) bs)
unfolding hits
hits_any area by [] = refl
hits_any area by (b ∷ bs) = rw (hits_any area by bs)

module _ (area : Aabb) (by : Point) (s : List ℕ) (at left : ℕ) where
  -- the table ends here
  pub run_end : box_here s at ≡ None → run_hits area by s left at ≡ false
  unfolding hits
  run_end e = rw (boxes_end s at left e)

  -- a box is hit, or the rest says
  pub run_on : (b : Aabb) (hit : Bool) → 0 < left → box_here s at ≡ Some b → meets (moved b by) area ≡ hit →
      run_hits area by s left at ≡ hit || run_hits area by s (left - 1) (at + 48)
  unfolding hits
  run_on b hit h e t = rw (boxes_more s at left b h e, t)

  -- no box is left, or one is hit
  pub run_stops : (hit : Bool) → (ltb 0 left && not hit) ≡ false → hit || run_hits area by s left at ≡ hit
  unfolding hits
  run_stops hit t = turns_end 0 left hit t (λ h. let z : left ≡ 0 = omega arith in rw (z, boxes_none s at) (same hit)) (λ e. rw e)
    where
      same : (b : Bool) → (b || false) ≡ b
      same true = refl
      same false = refl

-- ---- a cell, by the tests on it

-- what a cell is to an area
abbrev pub cell_corridor : Aabb → Point → Block → Option ℕ
cell_corridor area p b = then_some (free area p b) (cell_door area p b)

neither : (a b : Bool) → (not a && not (b || false)) ≡ not (a || b)
neither true b = refl
neither false true = refl
neither false false = refl

barred : (may met rest : Bool) → (met && not may) ≡ true → ((may || not met) && rest) ≡ false
barred false true rest e = refl
barred false false rest e = cc
barred true true rest e = cc
barred true false rest e = cc

passed : (may met rest : Bool) → (met && not may) ≡ false → ((may || not met) && rest) ≡ rest
passed true met rest e = refl
passed false false rest e = refl
passed false true rest e = cc

-- a cell has no door, whether its voxel meets the area or not; or it has one, where it does
no_door_lem : (met : Bool) → no_door ≡ cond met no_door no_door
no_door_lem true = refl
no_door_lem false = refl

door_met : (met through : Bool) (state : ℕ) → cond (met && through) state no_door ≡ cond met (door_of through state) no_door
door_met true through state = refl
door_met false through state = refl

module _ (area : Aabb) (p : Point) (boxes : List ℕ) (c : Cell) where
  -- where a body may be in the cell, and it has no box and no door
  pub air : ((c.occupied && eqb c.count 0) && not c.through) ≡ true → Some no_door ≡ cell_corridor area p (block_of boxes (Some c) p)
  unfolding free block_of hits cell_door
  air t =
      let may : c.occupied ≡ true = (both _ _ (both _ _ t).0).0 in
      let none : c.count ≡ 0 = eqb-true c.count 0 (both _ _ (both _ _ t).0).1 in
      let shut : c.through ≡ false = not-true c.through (both (c.occupied && eqb c.count 0) _ t).1 in
      rw (may, none, shut, boxes_none (drop (48 * c.first) boxes) 0) (ap Some (no_door_lem (meets (voxel p) area)))

module _ (area : Aabb) (p : Point) (boxes : List ℕ) {met : Bool} (e : meets (voxel p) area ≡ met) where
  pub unknown : {hit : Bool} → meets (moved cube p) area ≡ hit → then_some (not (met || hit)) no_door ≡ cell_corridor area p (block_of boxes None p)
  unfolding free block_of hits cell_door
  unknown {hit} f = rw (e, f, neither met hit) (ap (λ (d : ℕ). then_some (not (met || hit)) d) (no_door_lem met))

  module _ (c : Cell) where
    -- where the voxel meets the area and a body may not be in the cell
    pub may_not : (met && not c.occupied) ≡ true → None ≡ cell_corridor area p (block_of boxes (Some c) p)
    unfolding free block_of
    may_not t = rw (e, barred c.occupied met _ t)

    -- else its boxes decide
    pub may_be : {hit : Bool} → (met && not c.occupied) ≡ false → hit ≡ run_hits area p (drop (48 * c.first) boxes) c.count 0 →
        then_some (not hit) (cond (met && c.through) c.state no_door) ≡ cell_corridor area p (block_of boxes (Some c) p)
    unfolding free block_of cell_door
    may_be t h = rw (door_met met c.through c.state, e, passed c.occupied met _ t, h)

-- ---- what a corridor area tells

module _ (sp : Space) (area : Aabb) {a : Option ℕ} (e : a ≡ corridor sp area) where
  pub is_clear : {b : Bool} → is_some a ≡ b → clear sp area ≡ b
  unfolding corridor
  is_clear t = sym (go (clear sp area)) ∙ ap is_some (sym e) ∙ t
    where
      go : (b : Bool) → is_some (then_some b (door_in sp area)) ≡ b
      go true = refl
      go false = refl

  pub its_door : {door : ℕ} → a ≡ Some door → door ≡ door_in sp area
  unfolding corridor
  its_door {door} t = go (clear sp area) (sym e ∙ t)
    where
      go : (b : Bool) → then_some b (door_in sp area) ≡ Some door → door ≡ door_in sp area
      go true q = cc
      go false q = cc

-- ---- the first of two doors

pub or_none : (door : ℕ) → or_else door no_door ≡ door
unfolding or_else
or_none door = go (eqb door no_door) refl
  where
    go : (b : Bool) → eqb door no_door ≡ b → cond b no_door door ≡ door
    go true e = sym (eqb-true door no_door e)
    go false e = refl

or_assoc : (a b c : ℕ) → or_else a (or_else b c) ≡ or_else (or_else a b) c
unfolding or_else
or_assoc a b c = go (eqb a no_door) refl
  where
    go : (t : Bool) → eqb a no_door ≡ t → cond t (cond (eqb b no_door) c b) a ≡ cond (eqb (cond t b a) no_door) c (cond t b a)
    go true e = refl
    go false e = rw e

-- ---- the loop over the cells of a region with x and z exchanged: a turn with all free so far, and the end

abbrev pub exchanged : Spot → Spot
exchanged p = record { x = p.z; y = p.y; z = p.x }

module _ (sp : Space) (area : Aabb) where
  -- what a turn asks
  abbrev pub free_at : Spot → Bool
  free_at p = free area (corner p.x p.y p.z) (sp p.x p.y p.z)

  -- what the cells of such a region are together
  abbrev pub free_along : List Spot → Bool
  free_along ps = all_free sp area (map exchanged ps)

  abbrev pub door_along : List Spot → ℕ
  door_along ps = first_door (door_at sp area) (map exchanged ps)

  abbrev pub corridor_along : List Spot → Option ℕ
  corridor_along ps = then_some (free_along ps) (door_along ps)

  -- turn by turn, the two questions apart
  pub turn : (more free : Bool) → (more && free) ≡ true → (more ≡ true) × (free ≡ true)
  turn true true t = (refl, refl)
  turn true false t = (refl, t)
  turn false free t = (t, absurd (let z : ◌≡◌ {A = ℕ} 0 1 = cc in omega arith))

  pub free_on : (ps qs : List Spot) (p : Spot) (free next : Bool) → free ≡ true → ps ≡ p ∷ qs → free_at (exchanged p) ≡ next → free && free_along ps ≡ next && free_along qs
  unfolding all_free
  free_on ps qs p free next t e f = rw (t, e, f)

  pub doors_on : (ps qs : List Spot) (p : Spot) (door next : ℕ) → ps ≡ p ∷ qs → door_at sp area (exchanged p) ≡ next → or_else door (door_along ps) ≡ or_else (or_else door next) (door_along qs)
  unfolding first_door
  doors_on ps qs p door next e f = rw (e, f) (or_assoc door next (door_along qs))

  pub turns_over : (r : Region) (c : Option Spot) (free : Bool) (door : ℕ) (ps : List Spot) → (is_some c && free) ≡ false → free_along ps ≡ free && free_along (to_come r c) →
      door_along ps ≡ or_else door (door_along (to_come r c)) → then_some free door ≡ corridor_along ps
  unfolding all_free first_door
  turns_over r None true door ps t f d = rw (f, d) (ap Some (sym (or_none door)))
  turns_over r (Some p) true door ps t f d = absurd (true≢false t)
  turns_over r c false door ps t f d = rw f

  -- the same behind a door that was met before
  abbrev pub corridor_behind : ℕ → List Spot → Option ℕ
  corridor_behind door ps = option_map (λ (next : ℕ). or_else door next) (corridor_along ps)

  -- no door was met yet
  pub begins : (ps : List Spot) → corridor_along ps ≡ corridor_behind no_door ps
  unfolding or_else
  begins ps = go (corridor_along ps)
    where
      go : (o : Option ℕ) → o ≡ option_map (λ (next : ℕ). or_else no_door next) o
      go (Some d) = refl
      go None = refl

  -- no cell is left
  pub ends : (door : ℕ) → corridor_behind door [] ≡ Some door
  unfolding all_free first_door
  ends door = ap Some (or_none door)

  -- a cell is not free
  pub stops : (door : ℕ) (p : Spot) (ps : List Spot) → cell_corridor area (corner p.z p.y p.x) (sp p.z p.y p.x) ≡ None → corridor_behind door (p ∷ ps) ≡ None
  unfolding all_free
  stops door p ps e = go (free_at (exchanged p)) e
    where
      go : (b : Bool) → then_some b (cell_door area (corner p.z p.y p.x) (sp p.z p.y p.x)) ≡ None →
          option_map (λ (next : ℕ). or_else door next) (then_some (b && free_along ps) (door_along (p ∷ ps))) ≡ None
      go true q = cc
      go false q = refl

  -- a cell is free, and the others go on behind its door
  pub goes_on : (door next : ℕ) (p : Spot) (ps : List Spot) → cell_corridor area (corner p.z p.y p.x) (sp p.z p.y p.x) ≡ Some next →
      corridor_behind door (p ∷ ps) ≡ corridor_behind (or_else door next) ps
  unfolding all_free first_door
  goes_on door next p ps e = go (free_at (exchanged p)) e
    where
      behind : (d : ℕ) → d ≡ next → (b : Bool) → option_map (λ (n : ℕ). or_else door n) (then_some b (or_else d (door_along ps))) ≡ option_map (λ (n : ℕ). or_else (or_else door next) n) (then_some b (door_along ps))
      behind d f true = rw f (ap Some (or_assoc door next (door_along ps)))
      behind d f false = refl

      go : (b : Bool) → then_some b (cell_door area (corner p.z p.y p.x) (sp p.z p.y p.x)) ≡ Some next →
          option_map (λ (n : ℕ). or_else door n) (then_some (b && free_along ps) (or_else (cell_door area (corner p.z p.y p.x) (sp p.z p.y p.x)) (door_along ps)))
          ≡ option_map (λ (n : ℕ). or_else (or_else door next) n) (then_some (free_along ps) (door_along ps))
      go true q = behind _ (let z : cell_door area (corner p.z p.y p.x) (sp p.z p.y p.x) ≡ next = cc in z) (free_along ps)
      go false q = absurd (let z : ◌≡◌ {A = ℕ} 0 1 = cc in omega arith)
