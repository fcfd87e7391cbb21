-- What a right size is, in 02's words: 4 bytes a slot, a power of two of slots, and at least twice the budget of them. And powers of two found by doubling.
use Rattle.std.specs.Prelude.{◌≡◌, ℕ, zero, suc, ◌*◌, ◌/◌, ◌%◌, ◌^◌, ◌<◌, ◌≤◌, Bool, true, false, ◌&&◌, ◌==◌, nat_eq, nat_le, refl, count_ones, ◌+◌, ◌⊎◌}
use Rattle.std.proofs.Common.{sym, ap, subst, ◌∙◌, ⊎_elim, inl, inr, arith, eq-eqb, ne_eqb, eqb-true, le-leb, leb-true, leb-false}
use Rattle.std.proofs.Math.Nat.{pow-succ', pow-le-pow_right}
use Rattle.std.proofs.lemmas.Nat.{ones_cat, zero_from_ones, ones_le_self}
use Rattle.std.specs.Int.Count.{ones_step}
use Rattle.std.proofs.lemmas.Bool.{lt-leb, not-false}
use Rattle.exploration.proofs.Laws.Lists.{true_false, and_first, and_second, or_cases, or_left, or_right}
use Rattle.rooms.proofs.Laws.Lists.{in_or_out}
use Rattle.index.specs.Size.{power_below, is_power, wrong_size}

-- ---- powers of two

below_power : (j : ℕ) → j < 2 ^ j
below_power zero = omega arith
below_power (suc j) = omega (arith, below_power j)

below_finds : (j k : ℕ) → j < k → power_below k (2 ^ j) ≡ true
below_finds j zero h = absurd (omega arith)
below_finds j (suc k) h =
    ⊎_elim (λ l. or_right (2 ^ j == 2 ^ k) _ (below_finds j k l))
    (λ l. let i : j ≡ k = omega arith in or_left _ _ (eq-eqb (2 ^ j) (2 ^ k) (ap (λ (n : ℕ). 2 ^ n) i))) (in_or_out j k)

below_is : (k n : ℕ) → power_below k n ≡ true → (j : ℕ) × (n ≡ 2 ^ j)
below_is zero n h = absurd (true_false h refl)
below_is (suc k) n h = ⊎_elim (λ e. (k, eqb-true n (2 ^ k) e)) (λ e. below_is k n e) (or_cases (n == 2 ^ k) _ h)

pub power_is : (n : ℕ) → is_power n ≡ true → (j : ℕ) × (n ≡ 2 ^ j)
unfolding is_power
power_is n h = below_is n n h

pub is_power_lem : (j : ℕ) → is_power (2 ^ j) ≡ true
unfolding is_power
is_power_lem j = below_finds j (2 ^ j) (below_power j)

-- the first power of two that is not below n is n itself exactly where n is one
pub doubled : (n p k : ℕ) → p ≡ 2 ^ k → ((j : ℕ) → j < k → 2 ^ j < n) → n ≤ p → (p == n) ≡ is_power n
doubled n p k e h l = go (is_power n) refl
  where
    at_least : (j : ℕ) → n ≡ 2 ^ j → p ≤ n
    at_least j i = ⊎_elim (λ t. absurd (omega (arith, h j t, i))) (λ t. let x = pow-le-pow_right {n = 2} (omega arith) t in omega (arith, x, i, e)) (in_or_out j k)

    go : (b : Bool) → is_power n ≡ b → (p == n) ≡ b
    go true i = let w = power_is n i in eq-eqb p n (omega (arith, at_least w.0 w.1))
    go false i = ne_eqb p n (λ x. true_false (subst (λ (m : ℕ). is_power m ≡ true) (sym e ∙ x) (is_power_lem k)) i)

-- a power of two has one set digit, and no other number has
ones_power : (k n : ℕ) → n < 2 ^ k → count_ones n ≡ 1 → (j : ℕ) × (n ≡ 2 ^ j)
ones_power zero n h e = absurd (omega (arith, ones_le_self n))
ones_power (suc k) n h e = ⊎_elim
    (λ z. let r = ones_power k (n / 2) (omega (arith, pow-succ' 2 k)) (omega (arith, ones_step n, z)) in (suc r.0, omega (arith, r.1, z, pow-succ' 2 r.0)))
    (λ z. let o : n / 2 ≡ 0 = zero_from_ones (n / 2) (omega (arith, ones_step n, z)) in (0, omega (arith, o, z)))
    (even_or_odd n)
  where
    even_or_odd : (n : ℕ) → (n % 2 ≡ 0) ⊎ (n % 2 ≡ 1)
    even_or_odd n = ⊎_elim (λ l. inl (omega arith)) (λ l. inr (omega arith)) (in_or_out (n % 2) 1)

one_set : (j : ℕ) → count_ones (2 ^ j) ≡ 1
one_set j = let e : 1 * 2 ^ j + 0 ≡ 2 ^ j = omega arith in ap count_ones (sym e) ∙ omega (arith, ones_cat j 1 0 (omega (arith, below_power j)), ones_step 1, ones_le_self 0)

pub one_digit : (n : ℕ) → (count_ones n == 1) ≡ is_power n
one_digit n = go (is_power n) refl
  where
    go : (b : Bool) → is_power n ≡ b → (count_ones n == 1) ≡ b
    go true i = let w = power_is n i in rw w.1 (eq-eqb (count_ones (2 ^ w.0)) 1 (one_set w.0))
    go false i = ne_eqb (count_ones n) 1 (λ x. let w = ones_power n n (below_power n) x in true_false (rw w.1 (is_power_lem w.0)) i)

-- ---- twice the budget

pub halved : (budget n : ℕ) → nat_le budget (n / 2) ≡ nat_le (2 * budget) n
halved budget n = go (nat_le (2 * budget) n) refl
  where
    go : (b : Bool) → nat_le (2 * budget) n ≡ b → nat_le budget (n / 2) ≡ b
    go true e = let h = leb-true (2 * budget) n e in le-leb budget (n / 2) (omega arith)
    go false e = let h = leb-false (2 * budget) n e in lt-leb budget (n / 2) (omega arith)

-- ---- both ways

pub right_size : (bytes budget : ℕ) → wrong_size bytes budget ≡ false → (k : ℕ) × (bytes ≡ 4 * 2 ^ k) × (2 * budget ≤ 2 ^ k)
unfolding wrong_size
right_size bytes budget e =
    let w = nat_eq (bytes % 4) 0 in
    let t = not-false (w && is_power (bytes / 4) && nat_le (2 * budget) (bytes / 4)) e in
    let p = power_is (bytes / 4) (and_second w _ (and_first _ _ t)) in
    let z = eqb-true (bytes % 4) 0 (and_first w _ (and_first _ _ t)) in
    let l = leb-true (2 * budget) (bytes / 4) (and_second (w && is_power (bytes / 4)) _ t) in
    (p.0, omega (arith, p.1, z), omega (arith, p.1, l))

pub size_right : (bytes budget k : ℕ) → bytes ≡ 4 * 2 ^ k → 2 * budget ≤ 2 ^ k → wrong_size bytes budget ≡ false
unfolding wrong_size
size_right bytes budget k e h =
    let z : bytes % 4 ≡ 0 = omega (arith, e) in
    let d : bytes / 4 ≡ 2 ^ k = omega (arith, e) in
    let l : 2 * budget ≤ bytes / 4 = omega (arith, d, h) in
    let p : is_power (bytes / 4) ≡ true = rw d (is_power_lem k) in
    rw (eq-eqb (bytes % 4) 0 z, p, le-leb (2 * budget) (bytes / 4) l) refl

-- a room for a budget serves every smaller one
pub right_for_less : (bytes budget b : ℕ) → b ≤ budget → wrong_size bytes budget ≡ false → wrong_size bytes b ≡ false
right_for_less bytes budget b h e = let w = right_size bytes budget e in size_right bytes b w.0 w.1 (omega (arith, w.2))
