-- Laws of the layout and the rules that the code goes by.
use Rattle.std.specs.Prelude.{ℕ, zero, suc, ◌+◌, ◌*◌, ◌<◌, ◌≤◌, ◌≡◌, refl, Bool, true, false, not, ◌&&◌, ◌||◌, cond, List, ltb, leb, eqb, length, get_or, drop}
use Rattle.std.proofs.Common.{arith, add-one, eq-eqb, ne_eqb, drop_of_length-le, drop-cons}
use Rattle.fields.specs.Little.{field}
use Rattle.fields.proofs.Laws.{four}
use Rattle.tables.specs.BadWorld.{box_rule}
use Rattle.scene_records.specs.Layout.{three_zeros, number_of, by_kind, zeros, box_of}
use Rattle.scene_rules.specs.declared.Counts.{Counts}
use Rattle.scene_rules.specs.Rules.{shape_rule}

-- ---- zeros, byte by byte

-- the bytes before i are zero or not, and then those from i on
pub zeros_end : (all : Bool) (s : List ℕ) (i : ℕ) → length s ≤ i → (all && zeros (drop i s)) ≡ all
unfolding zeros
zeros_end true s i h = rw (drop_of_length-le s h)
zeros_end false s i h = refl

pub zeros_on : (all : Bool) (s : List ℕ) (i : ℕ) → i < length s → (all && zeros (drop i s)) ≡ ((all && eqb (get_or s i 0) 0) && zeros (drop (i + 1) s))
unfolding zeros
zeros_on true s i h = rw (drop-cons s i 0 h, add-one)
zeros_on false s i h = refl

-- a number of four bytes is its lowest one where the three above are zero
lowest : (a b c d : ℕ) → eqb (a + 256 * (b + 256 * (c + 256 * d))) a ≡ (eqb b 0 && eqb c 0 && eqb d 0)
lowest a zero zero zero = eq-eqb (a + 256 * (0 + 256 * (0 + 256 * 0))) a (omega arith)
lowest a zero zero (suc d) = rw (ne_eqb (suc d) 0 (λ e. omega arith)) (ne_eqb (a + 256 * (0 + 256 * (0 + 256 * suc d))) a (λ e. omega arith))
lowest a zero (suc c) d = rw (ne_eqb (suc c) 0 (λ e. omega arith)) (ne_eqb (a + 256 * (0 + 256 * (suc c + 256 * d))) a (λ e. omega arith))
lowest a (suc b) c d = rw (ne_eqb (suc b) 0 (λ e. omega arith)) (ne_eqb (a + 256 * (suc b + 256 * (c + 256 * d))) a (λ e. omega arith))

pub head_is : (s : List ℕ) → length s ≡ 64 → eqb (field 4 s 0) (get_or s 0 0) ≡ three_zeros s
unfolding three_zeros
head_is s h = rw (← four s 0 (omega arith)) (lowest (get_or s 0 0) (get_or s 1 0) (get_or s 2 0) (get_or s 3 0))

-- ---- a shape's rule

room_is : (b l : Bool) → (not b || l) ≡ cond b l true
room_is true l = refl
room_is false l = refl

pub shape_is : (c : Counts) (s : List ℕ) {n : ℕ} {good : Bool} → n ≡ number_of s → good ≡ box_rule (box_of s) →
    (leb n 255 && leb c.shapes (n + 1) && (not (eqb (n + 1) c.shapes) || ltb c.last 16) && ltb c.boxes 256 && good) ≡ shape_rule c s
unfolding shape_rule
shape_is c s {n} e g = rw (room_is (eqb (n + 1) c.shapes) (ltb c.last 16), e, g)

-- ---- by a kind's number

-- none of the first five
pub kind_6 : {A : Type 0} (k : ℕ) (a b c d e f : A) → (k ≡ 1 → ⊥) → (k ≡ 2 → ⊥) → (k ≡ 3 → ⊥) → (k ≡ 4 → ⊥) → (k ≡ 5 → ⊥) → by_kind k a b c d e f ≡ f
unfolding by_kind
kind_6 k a b c d e f h₁ h₂ h₃ h₄ h₅ = rw (ne_eqb k 1 h₁, ne_eqb k 2 h₂, ne_eqb k 3 h₃, ne_eqb k 4 h₄, ne_eqb k 5 h₅)

-- the kinds that have no rule but n, and those behind 6
pub kind_rest : {A : Type 0} (k : ℕ) (a b c d e : A) → (k ≡ 1 → ⊥) → (k ≡ 3 → ⊥) → (k ≡ 4 → ⊥) → (k ≡ 5 → ⊥) → by_kind k a b c d e b ≡ b
unfolding by_kind
kind_rest k a b c d e h₁ h₃ h₄ h₅ = rw (ne_eqb k 1 h₁, ne_eqb k 3 h₃, ne_eqb k 4 h₄, ne_eqb k 5 h₅) (go (eqb k 2))
  where
    go : (t : Bool) → cond t b b ≡ b
    go true = refl
    go false = refl
