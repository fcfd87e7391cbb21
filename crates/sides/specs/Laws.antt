-- Laws that the code goes by in the table of sides.
use Prim.Native.Nat.{ℕ, zero, suc, ◌-◌, ◌≤◌, ◌<◌}
use Rattle.std.proofs.Common.{arith, sym, ap, ◌∙◌, ltb-true, lt-ltb, le-ltb}
use Rattle.std.specs.Prelude.{◌≡◌, refl, Bool, true, false, ◌&&◌, ltb, get_or, set}
use mathlib.Core.List.{List, [], ◌∷◌}
use Rattle.std.proofs.Math.ListN.{get_or-eq_default}
use Rattle.sides.specs.declared.Sides.{Sides}
use Rattle.sides.specs.Sides.{side_pairs, pair_at, looked_by, side_at, answered_by}

-- past the table's end
pub pair_past : (d : ℕ) → 4 ≤ d → pair_at d ≡ (0, 0)
unfolding pair_at
pair_past d h = get_or-eq_default side_pairs (0, 0) h

and_left : (a b : Bool) → (a && b) ≡ true → a ≡ true
and_left true b e = refl
and_left false b e = e

and_right : (a b : Bool) → (a && b) ≡ true → b ≡ true
and_right true b e = e
and_right false true e = refl
and_right false false e = e

-- what passes a test at every entry of a table, and at what stands past its end, passes it everywhere
module _ {A : Type 0} (p : A → Bool) (d : A) (past : p d ≡ true) where
  all : List A → Bool
  all [] = true
  all (x ∷ xs) = p x && all xs

  at : (xs : List A) → all xs ≡ true → (n : ℕ) → p (get_or xs n d) ≡ true
  unfolding all
  at [] e n = past
  at (x ∷ xs) e zero = and_left (p x) (all xs) e
  at (x ∷ xs) e (suc n) = at xs (and_right (p x) (all xs) e) n

-- a pair names two of the four sides
pub pair_sides : (d : ℕ) → ((pair_at d).0 < 4) × ((pair_at d).1 < 4)
unfolding pair_at all
pair_sides d = (ltb-true _ _ (at (λ q. ltb q.0 4) (0, 0) refl side_pairs refl d), ltb-true _ _ (at (λ q. ltb q.1 4) (0, 0) refl side_pairs refl d))

-- the four sides are the columns 1 to 4
pub side_range : (n : ℕ) → side_at n ≡ true → (0 < n) × (n < 5)
side_range n e = (ltb-true 0 n (and_left (ltb 0 n) (ltb n 5) e), ltb-true n 5 (and_right (ltb 0 n) (ltb n 5) e))

-- ---- the ways through `looked`, and through `answered`

module _ (s : Sides) (n : ℕ) where
  pub always : n < 5 → looked_by s n ≡ true
  unfolding looked_by
  always h = rw (lt-ltb n 5 h)

  pub between : 5 ≤ n → looked_by s n ≡ (get_or s.level (pair_at (n - 5)).0 false && get_or s.level (pair_at (n - 5)).1 false)
  unfolding looked_by
  between h = rw (le-ltb n 5 h)

  module _ (b : Bool) where
    pub a_side : side_at n ≡ true → answered_by s n b ≡ record { level = set s.level (n - 1) b }
    unfolding answered_by
    a_side h = rw h

    pub no_answer : side_at n ≡ false → answered_by s n b ≡ s
    unfolding answered_by
    no_answer h = rw h

    pub a_diagonal : 5 ≤ n → answered_by s n b ≡ s
    a_diagonal h = no_answer (let z : 0 < n = omega arith in rw (lt-ltb 0 n z, le-ltb n 5 h) refl)

  -- answers that differ only where the column is no side leave the same
  pub same_answer : {b d : Bool} → (side_at n ≡ true → b ≡ d) → answered_by s n b ≡ answered_by s n d
  same_answer {b} {d} h = go (side_at n) refl
    where
      go : (side : Bool) → side_at n ≡ side → answered_by s n b ≡ answered_by s n d
      go true e = ap (answered_by s n) (h e)
      go false e = no_answer b e ∙ sym (no_answer d e)
