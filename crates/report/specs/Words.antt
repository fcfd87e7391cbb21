-- A word in a line, with the byte that ends it: what the code of `words` promises.
use Rattle.std.specs.Prelude.{ℕ, zero, suc, ◌+◌, ◌≤◌, ◌≡◌, refl, List, [], ◌∷◌, ◌++◌, length, set, take, drop}
use Rattle.std.proofs.Common.{ap, ◌∙◌, sym, arith, append_assoc, length-append}
use Rattle.std.proofs.lemmas.List.Edits.{sets-eq}
use Rattle.digits.specs.Writing.{Field, sets_append, field_is}
use Rattle.report.specs.Lines.{movement_word}

-- the word, copied to its place, and then the byte
pub word_field : (s w : List ℕ) (at end : ℕ) → at + length w ≤ length s → length w ≤ 20 →
    Field s (set (take at s ++ (w ++ drop (at + length w) s)) (at + length w) end) at (at + length w + 1) w end
word_field s w at end h short =
    field_is s (set (take at s ++ (w ++ drop (at + length w) s)) (at + length w) end) w at (at + length w + 1) end
    (ap (λ (l : List ℕ). set l (at + length w) end) (sym (sets-eq w s at h ∙ append_assoc (take at s) w (drop (at + length w) s))) ∙ sym (sets_append w (end ∷ []) s at))
    (omega arith) short

-- ---- a movement's word has four letters, so five bytes of a line are used up behind it

four_letters : (m : ℕ) → m ≤ 3 → length (movement_word m) ≡ 4
unfolding movement_word
four_letters zero h = refl
four_letters (suc zero) h = refl
four_letters (suc (suc zero)) h = refl
four_letters (suc (suc (suc zero))) h = refl
four_letters (suc (suc (suc (suc m)))) h = absurd (omega arith)

pub behind_movement : {s t : List ℕ} {at r end : ℕ} (m n : ℕ) → m ≤ 3 → Field s t at r (movement_word m) end → at + (5 + n) ≤ length s → r + n ≤ length t
behind_movement {end = end} m n h w room = omega (arith, four_letters m h, length-append (movement_word m) (end ∷ []), w.wrote.next, w.size)
