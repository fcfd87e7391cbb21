-- Laws of the sum of the counts of shapes.
use Rattle.std.specs.Prelude.{ℕ, zero, suc, ◌+◌, ◌≤◌, ◌<◌, ◌≡◌, refl, Bool, true, false, List, eqb}
use Rattle.std.proofs.Common.{arith, add-zero, add-one, ap, ◌∙◌, eqb-true}
use Rattle.std.proofs.lemmas.Bool.{eqb-false}
use Rattle.world.specs.Space.{count_of}
use Rattle.scene_good.specs.Sums.{counts_before}

pub none_before : (t : List ℕ) → counts_before t 0 ≡ 0
unfolding counts_before
none_before t = refl

pub one_more : (t : List ℕ) (i : ℕ) → counts_before t (i + 1) ≡ counts_before t i + count_of t i
unfolding counts_before
one_more t i = rw (add-one i) (omega arith)

-- equal counts have equal sums
pub same_sum : (t u : List ℕ) (i : ℕ) → ((j : ℕ) → j < i → count_of t j ≡ count_of u j) → counts_before t i ≡ counts_before u i
unfolding counts_before
same_sum t u zero e = refl
same_sum t u (suc i) e = rw (same_sum t u i (λ j h. e j (omega arith)), e i (omega arith))

-- empty shapes add nothing
pub empty_sum : (t : List ℕ) (i n : ℕ) → ((j : ℕ) → i ≤ j → j < i + n → count_of t j ≡ 0) → counts_before t (i + n) ≡ counts_before t i
unfolding counts_before
empty_sum t i zero e = ap (counts_before t) (add-zero i)
empty_sum t i (suc n) e =
    let next : i + suc n ≡ i + n + 1 = omega arith in
    ap (counts_before t) next ∙ omega (arith, one_more t (i + n), e (i + n) (omega arith) (omega arith), empty_sum t i n (λ j h l. e j h (omega arith)))

-- each run is within the sum of all
pub run_within : (t : List ℕ) (i n : ℕ) → i < n → counts_before t i + count_of t i ≤ counts_before t n
run_within t i zero h = absurd (omega arith)
run_within t i (suc n) h = rw (← add-one n) (go (eqb i n) refl (run_within t i n))
  where
    go : (b : Bool) → eqb i n ≡ b → (i < n → counts_before t i + count_of t i ≤ counts_before t n) → counts_before t i + count_of t i ≤ counts_before t (n + 1)
    go true e below = let q : i ≡ n = eqb-true i n e in rw q (omega (arith, one_more t n))
    go false e below = omega (arith, one_more t n, below (omega (arith, eqb-false i n e)))
