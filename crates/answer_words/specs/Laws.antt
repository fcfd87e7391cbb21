-- Laws of the table, and of words at the start of a slice.
use Prim.Native.Nat.{ℕ, ◌≤◌, ◌<◌}
use Prim.Native.String.{String}
use native.Mathlib.Omega.{arith}
use Rattle.std.specs.Prelude.{◌≡◌, refl, Bool, true, false, cond, ◌&&◌, ◌||◌, List, [], ◌∷◌, ◌++◌, ◌⊎◌, T, leb, eqb, length, take, drop}
use Rattle.std.proofs.Common.{inl, inr, ⊎_elim, eqb-true, le-leb, leb→le}
use Rattle.std.proofs.lemmas.Bool.{lt-leb}
use Rattle.std.proofs.Math.Dec.{when}
use Rattle.std.proofs.Math.Seq.{take-length}
use Rattle.answer_words.specs.Table.{answer_table, ascii, words_in, words_of, at_start}

-- ---- the table

module _ (test : ℕ → List ℕ → Bool) where
  -- each row passes a test of its number and its words
  abbrev Rows : List (ℕ × String) → Type 0
  Rows [] = Unit {0}
  Rows ((m, words) ∷ rows) = when (test m (ascii words)) (Rows rows)

  -- so a number has no words, or it passes with those that it has
  row_passes : (rows : List (ℕ × String)) (n : ℕ) → Rows rows → (words_in rows n ≡ []) ⊎ T (test n (words_in rows n))
  row_passes [] n passed = inl refl
  row_passes ((m, words) ∷ rows) n passed = go (test m (ascii words)) refl passed (eqb n m) refl (λ r. row_passes rows n r)
    where
      go : (t : Bool) → test m (ascii words) ≡ t → when t (Rows rows) → (same : Bool) → eqb n m ≡ same →
          (Rows rows → (words_in rows n ≡ []) ⊎ T (test n (words_in rows n))) →
          (cond same (ascii words) (words_in rows n) ≡ []) ⊎ T (test n (cond same (ascii words) (words_in rows n)))
      go true p r true e rest = inr (rw (eqb-true n m e, p) tt)
      go true p r false e rest = rest r
      go false p r same e rest = absurd r

pub no_word_longer : (n : ℕ) → length (words_of n) ≤ 32
unfolding words_of
no_word_longer n = ⊎_elim (λ e. rw e (omega arith)) (λ t. leb→le _ 32 t) (row_passes (λ m w. leb (length w) 32) answer_table n tt)

-- small letters and spaces
abbrev small_letters : List ℕ → Bool
small_letters [] = true
small_letters (b ∷ bs) = (eqb b 32 || leb 97 b && leb b 122) && small_letters bs

pub only_small_letters : (n : ℕ) → T (small_letters (words_of n))
unfolding words_of
only_small_letters n = ⊎_elim (λ e. rw e tt) (λ t. t) (row_passes (λ m w. small_letters w) answer_table n tt)

no_words_beyond : (n : ℕ) → 133 < n → words_of n ≡ []
unfolding words_of
no_words_beyond n h = ⊎_elim (λ e. e) (λ t. absurd (rw (lt-leb n 133 h) at t)) (row_passes (λ m w. leb m 133) answer_table n tt)

-- ---- words in a slice

module _ (words old : List ℕ) where
  pub words_fit : length words ≤ length old → take (length words) words ++ drop (length words) old ≡ at_start words old
  unfolding at_start
  words_fit h = rw (le-leb (length words) (length old) h, take-length words)

  pub words_too_long : length old < length words → old ≡ at_start words old
  unfolding at_start
  words_too_long h = rw (lt-leb (length words) (length old) h)

pub words_of_none : (n : ℕ) (old : List ℕ) → 133 < n → (0 ≡ length (words_of n)) × (old ≡ at_start (words_of n) old)
unfolding at_start
words_of_none n old h = rw (no_words_beyond n h, le-leb 0 (length old) (omega arith)) (refl, refl)
