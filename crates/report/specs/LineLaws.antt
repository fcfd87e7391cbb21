-- Laws of writing: a line is its fields, written one behind another.
use Rattle.std.specs.Prelude.{ℕ, ◌+◌, ◌*◌, ◌/◌, ◌<◌, ◌≤◌, ◌≡◌, refl, Bool, true, false, cond, List, [], ◌∷◌, ◌++◌, ltb, length, drop, Float}
use Rattle.std.proofs.Common.{arith, zero-add, sym, ap, ◌∙◌, append_assoc, length-append}
use borrow.Author.Tests.{lt-ltb, le-ltb, le-leb, lt-leb, eq-eqb, ne_eqb}
use Rattle.std.proofs.lemmas.List.Edits.{sets, sets-eq}
use Rattle.std.proofs.Math.Seq.{length-sets}
use Rattle.std.specs.Float.{binary64}
use Rattle.std.specs.Float.Ieee.{to_bits}
use Rattle.fields.specs.Little.{field}
use Rattle.report.specs.Lines.{record_of, line_one, refused_line, first_line, waypoint_fields, waypoint_line, in_buffer, count_in}
use Rattle.digits.specs.Writing.{Wrote, sets_append}

-- a whole line was written at the start
pub record Whole (old new : List ℕ) (r : ℕ) (line : List ℕ) : Type 0 where
  pub is : new ≡ line ++ drop (length line) old
  pub count : r ≡ length line

-- a field and what is written behind it
pub then : {s t u g : List ℕ} {at m r : ℕ} (f : List ℕ) (b : ℕ) → Wrote s t at m (f ++ (b ∷ [])) → Wrote t u m r g → Wrote s u at r (f ++ (b ∷ g))
then {s} {t} {u} {g} {at} {m} {r} f b first rest =
    let both : (f ++ (b ∷ [])) ++ g ≡ f ++ (b ∷ g) = append_assoc f (b ∷ []) g in
    let is : u ≡ sets s at ((f ++ (b ∷ [])) ++ g) =
    rest.is ∙ ap (λ (l : List ℕ). sets l m g) first.is
    ∙ ap (λ (k : ℕ). sets (sets s at (f ++ (b ∷ []))) k g) first.next
    ∙ sym (sets_append (f ++ (b ∷ [])) g s at) in
    record {
      is = is ∙ ap (sets s at) both;
      next = omega (arith, rest.next, first.next, length-append (f ++ (b ∷ [])) g, ap length both);
    }

-- a line from the buffer's start
pub whole : {s t l : List ℕ} {r : ℕ} → Wrote s t 0 r l → r + 0 ≤ length t → Whole s t r l
whole {s} {t} {l} {r} w h =
    let n : r ≡ length l = w.next ∙ zero-add (length l) in
    let size : length t ≡ length s = ap length w.is ∙ length-sets s 0 l in
    record {
      is = w.is ∙ sets-eq l s 0 (omega arith) ∙ ap (λ (k : ℕ). l ++ drop k s) (zero-add (length l));
      count = n;
    }

-- a line's first three fields, and what stands behind them
abbrev pub head : List ℕ → List ℕ → List ℕ → List ℕ
head w a b = w ++ (32 ∷ (a ++ (32 ∷ b)))

pub head_then : (w a b rest : List ℕ) → head w a b ++ rest ≡ w ++ (32 ∷ (a ++ (32 ∷ (b ++ rest))))
head_then w a b rest = simp append_assoc

-- they were written at the start, with the byte that ends them, and two fields more have room
pub record Headed (old new : List ℕ) (r : ℕ) (fields : List ℕ) (end : ℕ) : Type 0 where
  pub wrote : Wrote old new 0 r (fields ++ (end ∷ []))
  pub room : r + 42 ≤ length new

pub headed : {old new : List ℕ} {r : ℕ} (w a b : List ℕ) (end : ℕ) → Wrote old new 0 r (w ++ (32 ∷ (a ++ (32 ∷ (b ++ (end ∷ [])))))) → r + 42 ≤ length new →
    Headed old new r (head w a b) end
headed w a b end wrote room = record { wrote = rw (head_then w a b (end ∷ [])) wrote; room = room }

-- ---- in a buffer

-- a whole line that was written, under whatever name the definitions have for it
pub shown : {old new l m : List ℕ} {r : ℕ} → 128 ≤ length old → Whole old new r m → l ≡ m → (r ≡ count_in l old) × (new ≡ in_buffer l old)
unfolding in_buffer count_in
shown {old} h w e = rw (e, le-ltb (length old) 128 h) (w.count, w.is)

-- a buffer that is too short, and an empty line: nothing was written
pub too_short : (l old : List ℕ) → length old < 128 → (0 ≡ count_in l old) × (old ≡ in_buffer l old)
unfolding in_buffer count_in
too_short l old h = rw (lt-ltb (length old) 128 h) (refl, refl)

pub nothing_shown : (l old : List ℕ) → l ≡ [] → (0 ≡ count_in l old) × (old ≡ in_buffer l old)
unfolding in_buffer count_in
nothing_shown l old e = rw e (go (ltb (length old) 128))
  where
    go : (t : Bool) → (◌≡◌ {A = ℕ} 0 (cond t 0 0)) × (old ≡ cond t old old)
    go true = (refl, refl)
    go false = (refl, refl)

-- ---- the lines by the code's tests

pub names_record : (number bad : ℕ) → number ≡ 7 → bad ≡ record_of number bad
unfolding record_of
names_record number bad e = rw (eq-eqb number 7 e)

pub names_none : (number bad : ℕ) → (number ≡ 7 → ⊥) → 0 ≡ record_of number bad
unfolding record_of
names_none number bad d = rw (ne_eqb number 7 d)

module _ (number bad waypoints retained closed : ℕ) (total : Float) where
  pub outcome_first : (bits : ℕ) → number < 3 → bits ≡ to_bits binary64 total →
      first_line number bad waypoints retained closed total ≡ line_one number waypoints retained closed bits
  unfolding first_line
  outcome_first bits h e = rw (lt-ltb number 3 h, e)

  pub refusal_first : 3 ≤ number → first_line number bad waypoints retained closed total ≡ refused_line number bad
  unfolding first_line
  refusal_first h = rw (le-ltb number 3 h)

module _ (list : List ℕ) (place : ℕ) where
  pub no_record : length list / 48 ≤ place → waypoint_line list place ≡ []
  unfolding waypoint_line
  no_record h = rw (le-ltb place (length list / 48) h)

  pub no_movement : (m : ℕ) → m ≡ field 8 list (48 * place + 32) → 3 < m → place < length list / 48 → waypoint_line list place ≡ []
  unfolding waypoint_line
  no_movement m e h p = rw (lt-ltb place (length list / 48) p, ← e, lt-leb m 3 h)

  pub a_record : (m x y z lift door : ℕ) → place < length list / 48 → m ≤ 3 → m ≡ field 8 list (48 * place + 32) →
      x ≡ field 8 list (48 * place) → y ≡ field 8 list (48 * place + 8) → z ≡ field 8 list (48 * place + 16) → lift ≡ field 8 list (48 * place + 24) →
      door ≡ field 8 list (48 * place + 40) → waypoint_line list place ≡ waypoint_fields place m x y z lift door
  unfolding waypoint_line
  a_record m x y z lift door p h em ex ey ez el ed = rw (lt-ltb place (length list / 48) p, ← em, le-leb m 3 h, ← ex, ← ey, ← ez, ← el, ← ed)
