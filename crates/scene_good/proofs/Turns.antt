-- What is written in turn is read back, slot by slot, and what lies apart stays: entries of 8 bytes, and the numbers of a box.
use Prim.Native.Nat.{ℕ, zero, suc, ◌+◌, ◌*◌, ◌^◌, ◌≤◌, ◌<◌}
use Rattle.std.proofs.Common.{arith, ◌∙◌}
use Rattle.std.specs.Prelude.{◌≡◌, Bool, List, ◌⊎◌, ltb, length}
use Rattle.std.proofs.Math.Path.{refl}
use Rattle.std.proofs.Math.Bool.{true, false}
use Rattle.std.proofs.Math.Logic.{inl, inr, ⊎_elim}
use borrow.Author.Tests.{ltb-true, ltb-false, eqb-true, eqb-false}
use Rattle.std.proofs.Math.Dec.{eqb}
use Rattle.fields.specs.Little.{field, with_field}
use Rattle.fields.proofs.Laws.{length_with, read_back, read_other}
use Rattle.fields.proofs.Pieces.{Bytes, field_below}
use Rattle.scene_tables.specs.Made.{in_turn, with_entry, box_number, with_box}

apart : (i j : ℕ) → (i ≡ j → ⊥) → (i < j) ⊎ (j < i)
apart i j h = go (ltb i j) refl
  where
    go : (x : Bool) → ltb i j ≡ x → (i < j) ⊎ (j < i)
    go true p = inl (ltb-true i j p)
    go false p = inr (omega (arith, ltb-false i j p, h))

-- ---- in turn

module _ (f : ℕ → List ℕ → List ℕ) (keeps : (j : ℕ) (t : List ℕ) → length (f j t) ≡ length t) where
  pub turn_length : (n k : ℕ) (t : List ℕ) → length (in_turn f k n t) ≡ length t
  unfolding in_turn
  turn_length zero k t = refl
  turn_length (suc n) k t = turn_length n (suc k) (f k t) ∙ keeps k t

-- what no turn changes
pub turn_keeps : (f : ℕ → List ℕ → List ℕ) (h : List ℕ → ℕ) (n k : ℕ) (t : List ℕ) →
    ((j : ℕ) (u : List ℕ) → k ≤ j → j < k + n → h (f j u) ≡ h u) → h (in_turn f k n t) ≡ h t
unfolding in_turn
turn_keeps f h zero k t e = refl
turn_keeps f h (suc n) k t e = turn_keeps f h n (suc k) (f k t) (λ j u a b. e j u (omega arith) (omega arith)) ∙ e k t (omega arith) (omega arith)

-- turn j sets slot j to a value, and no other slot
module _ (f : ℕ → List ℕ → List ℕ) (g : ℕ → List ℕ → ℕ) (v : ℕ → ℕ) (bound long : ℕ)
    (keeps : (j : ℕ) (t : List ℕ) → length (f j t) ≡ length t)
    (same : (j : ℕ) (t : List ℕ) → j < bound → long ≤ length t → g j (f j t) ≡ v j)
    (other : (i j : ℕ) (t : List ℕ) → (i ≡ j → ⊥) → g i (f j t) ≡ g i t) where
  pub turn_in : (n k i : ℕ) (t : List ℕ) → k ≤ i → i < k + n → k + n ≤ bound → long ≤ length t → g i (in_turn f k n t) ≡ v i
  unfolding in_turn
  turn_in zero k i t a b c l = absurd (omega arith)
  turn_in (suc n) k i t a b c l =
      pick (eqb i k) refl (λ h. turn_in n (suc k) i (f k t) h (omega arith) (omega arith) (rw keeps l))
    where
      pick : (x : Bool) → eqb i k ≡ x → (suc k ≤ i → g i (in_turn f (suc k) n (f k t)) ≡ v i) → g i (in_turn f (suc k) n (f k t)) ≡ v i
      pick true p rest =
          let e : i ≡ k = eqb-true i k p in
          turn_keeps f (g i) n (suc k) (f k t) (λ j u y z. other i j u (λ q. omega arith)) ∙ rw e (same k t (omega arith) l)
      pick false p rest = rest (omega (arith, eqb-false i k p))

-- ---- entries of 8 bytes

module _ (a b : ℕ) where
  pub entry_length : (j : ℕ) (t : List ℕ) → length (with_entry a b j t) ≡ length t
  unfolding with_entry
  entry_length j t = length_with 4 (with_field 4 t (8 * j) a) (8 * j + 4) b ∙ length_with 4 t (8 * j) a

  first_same : (long j : ℕ) (t : List ℕ) → a < 256 ^ 4 → 8 * j + 8 ≤ long → long ≤ length t → field 4 (with_entry a b j t) (8 * j) ≡ a
  unfolding with_entry
  first_same long j t h m l =
      read_other 4 4 (with_field 4 t (8 * j) a) (8 * j + 4) (8 * j) b (inl (omega arith)) ∙ read_back 4 t (8 * j) a (omega arith) h

  first_other : (i j : ℕ) (t : List ℕ) → (i ≡ j → ⊥) → field 4 (with_entry a b j t) (8 * i) ≡ field 4 t (8 * i)
  unfolding with_entry
  first_other i j t ne = ⊎_elim before behind (apart i j ne)
    where
      before : i < j → field 4 (with_entry a b j t) (8 * i) ≡ field 4 t (8 * i)
      before h = read_other 4 4 (with_field 4 t (8 * j) a) (8 * j + 4) (8 * i) b (inl (omega arith)) ∙ read_other 4 4 t (8 * j) (8 * i) a (inl (omega arith))

      behind : j < i → field 4 (with_entry a b j t) (8 * i) ≡ field 4 t (8 * i)
      behind h = read_other 4 4 (with_field 4 t (8 * j) a) (8 * j + 4) (8 * i) b (inr (omega arith)) ∙ read_other 4 4 t (8 * j) (8 * i) a (inr (omega arith))

  second_same : (long j : ℕ) (t : List ℕ) → b < 256 ^ 4 → 8 * j + 8 ≤ long → long ≤ length t → field 4 (with_entry a b j t) (8 * j + 4) ≡ b
  unfolding with_entry
  second_same long j t h m l = read_back 4 (with_field 4 t (8 * j) a) (8 * j + 4) b (rw length_with (omega arith)) h

  second_other : (i j : ℕ) (t : List ℕ) → (i ≡ j → ⊥) → field 4 (with_entry a b j t) (8 * i + 4) ≡ field 4 t (8 * i + 4)
  unfolding with_entry
  second_other i j t ne = ⊎_elim before behind (apart i j ne)
    where
      before : i < j → field 4 (with_entry a b j t) (8 * i + 4) ≡ field 4 t (8 * i + 4)
      before h =
          read_other 4 4 (with_field 4 t (8 * j) a) (8 * j + 4) (8 * i + 4) b (inl (omega arith))
          ∙ read_other 4 4 t (8 * j) (8 * i + 4) a (inl (omega arith))

      behind : j < i → field 4 (with_entry a b j t) (8 * i + 4) ≡ field 4 t (8 * i + 4)
      behind h =
          read_other 4 4 (with_field 4 t (8 * j) a) (8 * j + 4) (8 * i + 4) b (inr (omega arith))
          ∙ read_other 4 4 t (8 * j) (8 * i + 4) a (inr (omega arith))

  -- a run of equal entries: each of them, and each one apart
  module _ (n k i : ℕ) (t : List ℕ) where
    pub run_first : a < 256 ^ 4 → k ≤ i → i < k + n → 8 * (k + n) ≤ length t → field 4 (in_turn (with_entry a b) k n t) (8 * i) ≡ a
    run_first h x y l =
        turn_in (with_entry a b) (λ j u. field 4 u (8 * j)) (λ j. a) (k + n) (8 * (k + n)) entry_length
        (λ j u m q. first_same (8 * (k + n)) j u h (omega arith) q) first_other n k i t x y (omega arith) l

    pub run_second : b < 256 ^ 4 → k ≤ i → i < k + n → 8 * (k + n) ≤ length t → field 4 (in_turn (with_entry a b) k n t) (8 * i + 4) ≡ b
    run_second h x y l =
        turn_in (with_entry a b) (λ j u. field 4 u (8 * j + 4)) (λ j. b) (k + n) (8 * (k + n)) entry_length
        (λ j u m q. second_same (8 * (k + n)) j u h (omega arith) q) second_other n k i t x y (omega arith) l

    pub out_first : i < k → field 4 (in_turn (with_entry a b) k n t) (8 * i) ≡ field 4 t (8 * i)
    out_first h = turn_keeps (with_entry a b) (λ u. field 4 u (8 * i)) n k t (λ j u x y. first_other i j u (λ e. omega arith))

    pub out_second : i < k → field 4 (in_turn (with_entry a b) k n t) (8 * i + 4) ≡ field 4 t (8 * i + 4)
    out_second h = turn_keeps (with_entry a b) (λ u. field 4 u (8 * i + 4)) n k t (λ j u x y. second_other i j u (λ e. omega arith))

-- ---- the numbers of a box

module _ (s : List ℕ) (k : ℕ) where
  number_length : (j : ℕ) (t : List ℕ) → length (box_number s k j t) ≡ length t
  unfolding box_number
  number_length j t = length_with 8 t (48 * k + 8 * j) (field 8 s (8 + 8 * j))

  number_same : Bytes s → (j : ℕ) (t : List ℕ) → j < 6 → 48 * k + 48 ≤ length t → field 8 (box_number s k j t) (48 * k + 8 * j) ≡ field 8 s (8 + 8 * j)
  unfolding box_number
  number_same b j t h l = read_back 8 t (48 * k + 8 * j) (field 8 s (8 + 8 * j)) (omega arith) (field_below 8 s (8 + 8 * j) b)

  number_other : (i j : ℕ) (t : List ℕ) → (i ≡ j → ⊥) → field 8 (box_number s k j t) (48 * k + 8 * i) ≡ field 8 t (48 * k + 8 * i)
  unfolding box_number
  number_other i j t ne =
      read_other 8 8 t (48 * k + 8 * j) (48 * k + 8 * i) (field 8 s (8 + 8 * j)) (⊎_elim (λ h. inl (omega arith)) (λ h. inr (omega arith)) (apart i j ne))

  number_away : (at j : ℕ) (t : List ℕ) → (at + 8 ≤ 48 * k) ⊎ (48 * k + 48 ≤ at) → j < 6 → field 8 (box_number s k j t) at ≡ field 8 t at
  unfolding box_number
  number_away at j t away h =
      read_other 8 8 t (48 * k + 8 * j) at (field 8 s (8 + 8 * j)) (⊎_elim (λ x. inl (omega arith)) (λ x. inr (omega arith)) away)

  pub box_length : (t : List ℕ) → length (with_box s k t) ≡ length t
  unfolding with_box
  box_length t = turn_length (box_number s k) number_length 6 0 t

  pub box_number_lem : Bytes s → (j : ℕ) (t : List ℕ) → j < 6 → 48 * k + 48 ≤ length t → field 8 (with_box s k t) (48 * k + 8 * j) ≡ field 8 s (8 + 8 * j)
  unfolding with_box
  box_number_lem b j t h l =
      turn_in (box_number s k) (λ i u. field 8 u (48 * k + 8 * i)) (λ i. field 8 s (8 + 8 * i)) 6 (48 * k + 48) number_length
      (λ i u m q. number_same b i u m q) number_other 6 0 j t (omega arith) (omega arith) (omega arith) l

  pub box_away : (at : ℕ) (t : List ℕ) → (at + 8 ≤ 48 * k) ⊎ (48 * k + 48 ≤ at) → field 8 (with_box s k t) at ≡ field 8 t at
  unfolding with_box
  box_away at t away = turn_keeps (box_number s k) (λ u. field 8 u at) 6 0 t (λ j u x y. number_away at j u away (omega arith))
