-- Laws of ranges of cells: how a loop goes over one, and what bounds it.
use Prim.Native.Nat.{ℕ, zero, suc, ◌+◌, ◌^◌, ◌≤◌, ◌<◌}
use Rattle.std.proofs.Common.{arith, ◌∙◌, SFits, to_z, of_z, to_z-of_z}
use Rattle.std.specs.Prelude.{◌≡◌, true, false, ℤ, negsuc, ◌+ℤ◌, ◌-ℤ◌}
use Rattle.std.proofs.Math.Path.{refl, ap}
use mathlib.Core.List.{List, [], ◌∷◌, ◌++◌, foldl, foldl-append}
use Rattle.std.proofs.Math.IntN.{pos}
use Rattle.std.specs.Int.Signed.{mag, le_z}
use Rattle.std.specs.Int.{w64}
use Rattle.std.proofs.Math.Facts.{to_z_pos}
use Rattle.cells.specs.Parts.{over, under, sum, difference, le_yes, le_no, within, lower, over_mag, under_mag, equal}
use Rattle.regions.specs.Ranges.{count, gather, along}

-- ---- the first cell of a range, then the rest

no_over : (z : ℤ) → over z ≤ under z → over z ≡ 0
no_over (pos n) h = omega arith
no_over (negsuc n) h = refl

no_under : (z : ℤ) → under z ≤ over z → under z ≡ 0
no_under (pos n) h = refl
no_under (negsuc n) h = absurd (omega arith)

module _ (low high : ℤ) where
  count_more : le_z low high ≡ true → count low high ≡ suc (count (low +ℤ pos 1) high)
  unfolding count
  count_more e =
      let here : over (high -ℤ low +ℤ pos 1) + (under high + over low) ≡ suc (over high + under low) + under (high -ℤ low +ℤ pos 1) = omega (arith, difference high low, sum (high -ℤ low) (pos 1)) in
      let rest : over (high -ℤ (low +ℤ pos 1) +ℤ pos 1) + (under high + over low) ≡ over high + under low + under (high -ℤ (low +ℤ pos 1) +ℤ pos 1) = omega (arith, sum low (pos 1), difference high (low +ℤ pos 1), sum (high -ℤ (low +ℤ pos 1)) (pos 1)) in
      let order : over low + under high ≤ over high + under low = le_yes low high e in
      omega (arith, no_under (high -ℤ low +ℤ pos 1) (omega arith), no_under (high -ℤ (low +ℤ pos 1) +ℤ pos 1) (omega arith))

  pub count_falls : le_z low high ≡ true → count (low +ℤ pos 1) high < count low high
  count_falls e = omega (arith, count_more e)

  count_none : le_z low high ≡ false → count low high ≡ 0
  unfolding count
  count_none e = no_over (high -ℤ low +ℤ pos 1) (omega (arith, difference high low, sum (high -ℤ low) (pos 1), le_no low high e))

pub plus_none : (z : ℤ) → z +ℤ pos 0 ≡ z
plus_none z = equal (z +ℤ pos 0) z (omega (arith, sum z (pos 0)))

plus_more : (z : ℤ) (k : ℕ) → z +ℤ pos (suc k) ≡ z +ℤ pos 1 +ℤ pos k
plus_more z k = equal (z +ℤ pos (suc k)) (z +ℤ pos 1 +ℤ pos k) (omega (arith, sum z (pos (suc k)), sum z (pos 1), sum (z +ℤ pos 1) (pos k)))

module _ {A : Type 0} where
  gather_later : (f : ℕ → List A) (k n : ℕ) → gather f (suc k) n ≡ gather (λ j. f (suc j)) k n
  unfolding gather
  gather_later f k zero = refl
  gather_later f k (suc n) = rw (gather_later f (suc k) n)

  gather_empty : (f : ℕ → List A) → ((k : ℕ) → f k ≡ []) → (k n : ℕ) → gather f k n ≡ []
  unfolding gather
  gather_empty f h k zero = refl
  gather_empty f h k (suc n) = rw (h k, gather_empty f h (suc k) n)

  module _ (f : ℤ → List A) (low high : ℤ) where
    pub along_more : le_z low high ≡ true → along f low high ≡ f low ++ along f (low +ℤ pos 1) high
    unfolding along gather
    along_more e =
        let n = count (low +ℤ pos 1) high in
        rw (count_more low high e, plus_none low)
        (ap (λ (l : List A). f low ++ l) (gather_later (λ k. f (low +ℤ pos k)) 0 n ∙ ap (λ (g : ℕ → List A). gather g 0 n) (λ i k. f (plus_more low k i))))

    pub along_none : le_z low high ≡ false → along f low high ≡ []
    unfolding along gather
    along_none e = rw (count_none low high e)

    -- where no cell holds anything
    pub along_empty : ((k : ℤ) → f k ≡ []) → along f low high ≡ []
    unfolding along
    along_empty h = gather_empty _ (λ k. h (low +ℤ pos k)) 0 (count low high)

-- ---- a loop that goes through what the cells hold, one after the other, with what it has found so far

pub fold_on : {A S : Type 0} (step : S → A → S) (f : ℤ → List A) (s : S) (low high : ℤ) → le_z low high ≡ true →
    foldl step s (along f low high) ≡ foldl step (foldl step s (f low)) (along f (low +ℤ pos 1) high)
fold_on step f s low high e = rw (along_more f low high e) (foldl-append step s (f low) (along f (low +ℤ pos 1) high))

pub fold_ends : {A S : Type 0} (step : S → A → S) (f : ℤ → List A) (s : S) (low high : ℤ) → le_z low high ≡ false → foldl step s (along f low high) ≡ s
fold_ends step f s low high e = rw (along_none f low high e)

-- what no step changes stays
pub fold_stays : {A S : Type 0} (step : S → A → S) (s : S) → ((a : A) → step s a ≡ s) → (l : List A) → foldl step s l ≡ s
fold_stays step s h [] = refl
fold_stays step s h (a ∷ l) = rw (h a) (fold_stays step s h l)

-- ---- bounds

-- a number that is at most one of the range of an i32 has one after it
pub next_fits : (k last : ℤ) → SFits w64 k → le_z k last ≡ true → mag last < 2 ^ 31 → SFits w64 (k +ℤ pos 1)
next_fits k last f e h =
    within w64 (k +ℤ pos 1)
    (omega (arith, sum k (pos 1), le_yes k last e, over_mag last, under_mag last))
    (omega (arith, sum k (pos 1), lower w64 k f))

-- a number of the range of an i32, and one less a few, as the machine works them out from their bits
pub small_is : (z : ℤ) → mag z < 2 ^ 31 → to_z w64 (of_z w64 z) ≡ z
small_is z h = to_z-of_z {w = w64} (record { sfits = omega arith })

module _ (z : ℤ) (k : ℕ) (h : mag z < 2 ^ 31) (l : k < 2 ^ 31) where
  read : to_z w64 (of_z w64 z) -ℤ to_z w64 k ≡ z -ℤ pos k
  read = rw (small_is z h, to_z_pos w64 {n = k} (omega arith))

  fits : SFits w64 (z -ℤ pos k)
  fits = within w64 (z -ℤ pos k) (omega (arith, difference z (pos k), over_mag z, under_mag z)) (omega (arith, difference z (pos k), over_mag z, under_mag z))

  pub less_fits : SFits w64 (to_z w64 (of_z w64 z) -ℤ to_z w64 k)
  less_fits = rw read fits

  pub less_is : to_z w64 (of_z w64 (to_z w64 (of_z w64 z) -ℤ to_z w64 k)) ≡ z -ℤ pos k
  less_is = rw read (to_z-of_z {w = w64} fits)

pub less_none : (z : ℤ) → z -ℤ pos 0 ≡ z
less_none z = equal (z -ℤ pos 0) z (omega (arith, difference z (pos 0)))
