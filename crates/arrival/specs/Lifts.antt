-- The words of two numbers are the same exactly where the numbers are equal (01, Modules 5: "lifts compare as numbers"): so a lift of a list is compared with
-- an edge's, which is no NaN (`lift_number` of edges), as 01 says.
use Rattle.std.specs.Prelude.{ℕ, zero, suc, ◌*◌, ◌^◌, ◌<◌, ◌≡◌, refl, Bool, true, false, not, ◌&&◌, ◌||◌, T, eqb, ℤ, pos, Float, Some}
use Rattle.std.proofs.Common.{zero-mul, mul-pos, arith, sym, ap, ◌∙◌, eqb-true, eq-eqb}
use Rattle.std.specs.Bool.{beq}
use Rattle.std.proofs.lemmas.Bool.{eqb-false}
use Rattle.std.specs.Float.{nan, inf, fin, binary64}
use Rattle.std.specs.Float.Ieee.{fits, is_nan, size, span, climb, up, down, level, eq, of_bits, to_bits}
use Rattle.std.specs.Float.Ieee.Bits.{of_bits-fits, to_bits-of_bits}
use Rattle.std.specs.Float.Ieee.Fits.{up_pos, down_pos}
use Rattle.floats.specs.Floats.{canonical}
use Rattle.floats.specs.Laws.{float_of_bits}
use Rattle.floats.specs.Zeros.{canonical_eq}
use Rattle.world.specs.declared.Point.{Point}
use Rattle.world.specs.declared.Body.{Body}
use Rattle.world.specs.declared.Request.{Request}
use Rattle.world.specs.Space.{Space}
use Rattle.moves.specs.declared.answer.Waypoint.{Waypoint}
use Rattle.moves.specs.Moves.{movement_number}
use Rattle.edges.specs.Edges.{edge}
use Rattle.edges.specs.Answers.{lift_number}
use Rattle.rooms.specs.declared.Label.{Label}
use Rattle.rooms.specs.Waypoints.{canonical_word, same_word, alike}
use Rattle.words.specs.Words.{label_of}
use Rattle.arrival.specs.Exact.{same_value, unit_exponent}
use Rattle.arrival.specs.Alike.{Alike}
use Rattle.arrival.specs.Signs.{word_alike}

no : {A : Type 0} → false ≡ true → A
no e = absurd (let z : ◌≡◌ {A = ℕ} 0 1 = cc in omega arith)

-- ---- equal numbers differ at most in the sign of a zero

-- two sizes that are level are one size, and above 0 they have one sign
level_size : (s t : Bool) (a b : ℕ) → level s a t b ≡ true → a ≡ b
level_size s t a b e = go (eqb a b) refl e
  where
    go : (q : Bool) → eqb a b ≡ q → (q && (beq s t || eqb a 0)) ≡ true → a ≡ b
    go true p h = eqb-true a b p
    go false p h = no h

unlike : {A : Type 0} (a b : ℕ) → 0 < a → (eqb a b && (false || eqb a 0)) ≡ true → A
unlike {A} a b h e = go (eqb a b) (eqb a 0) refl e
  where
    go : (q r : Bool) → eqb a 0 ≡ r → (q && (false || r)) ≡ true → A
    go q true p x = absurd (let z = eqb-true a 0 p in omega arith)
    go true false p x = no x
    go false false p x = no x

level_sign : (s t : Bool) (a b : ℕ) → 0 < a → level s a t b ≡ true → s ≡ t
level_sign true true a b h e = refl
level_sign false false a b h e = refl
level_sign true false a b h e = unlike a b h e
level_sign false true a b h e = unlike a b h e

above : (m : ℕ) (c d : ℤ) → 0 < suc m * up c * down d
above m c d = mul-pos {m = suc m * up c} {n = down d} (mul-pos {m = suc m} {n = up c} (omega arith) (up_pos c)) (down_pos d)

beq_same : (s t : Bool) → beq s t ≡ true → s ≡ t
beq_same true true e = refl
beq_same false false e = refl
beq_same true false e = no e
beq_same false true e = no e

pub same_number : (x y : Float) → T (fits binary64 x) → T (fits binary64 y) → eq x y ≡ true → Alike x y
unfolding eq canonical
same_number nan y f g e = no e
same_number (inf s) nan f g e = no e
same_number (inf s) (inf t) f g e = ap inf (beq_same s t e)
same_number (inf s) (fin t n d) f g e = no e
same_number (fin s m c) nan f g e = no e
same_number (fin s m c) (inf t) f g e = no e
same_number (fin s zero c) (fin t zero d) f g e = refl
same_number (fin s zero c) (fin t (suc n) d) f g e =
    absurd (let z : 0 * up c * down d ≡ 0 = simp zero-mul in omega (arith, level_size s t (0 * up c * down d) (suc n * up d * down c) e, above n d c))
same_number (fin s (suc m) c) (fin t zero d) f g e =
    absurd (let z : 0 * up d * down c ≡ 0 = simp zero-mul in omega (arith, level_size s t (suc m * up c * down d) (0 * up d * down c) e, above m c d))
same_number (fin s (suc m) c) (fin t (suc n) d) f g e =
    same_value (fin s (suc m) c) t (suc n) d f g (level_sign s t _ _ (above m c d) e, level_size s t _ _ e)

itself : (x : Float) → is_nan x ≡ false → eq x x ≡ true
unfolding eq is_nan
itself nan n = no (sym n)
itself (inf true) n = refl
itself (inf false) n = refl
itself (fin s m e) n = rw (eq-eqb (m * up e * down e) (m * up e * down e) refl) (signs s)
  where
    signs : (s : Bool) → (beq s s || eqb (m * up e * down e) 0) ≡ true
    signs true = refl
    signs false = refl

-- ---- the word of a number, with -0.0 as 0

zero_word : (s : Bool) → canonical_word (to_bits binary64 (fin s zero (pos zero))) ≡ 0
unfolding canonical_word to_bits size span climb
zero_word true = refl
zero_word false = refl

abbrev word : Float → ℕ
word x = canonical_word (to_bits binary64 x)

word_of : (x : Float) → T (fits binary64 x) → word x ≡ word (canonical x)
unfolding canonical fits
word_of nan f = refl
word_of (inf s) f = refl
word_of (fin s zero e) f = rw (unit_exponent e f) (zero_word s ∙ sym (zero_word false))
word_of (fin s (suc m) e) f = refl

-- ---- the theorem

not_nan : (x y : Float) → eq x y ≡ true → T (not (is_nan y))
unfolding eq is_nan
not_nan nan y e = no e
not_nan (inf s) nan e = no e
not_nan (inf s) (inf t) e = tt
not_nan (inf s) (fin t n d) e = no e
not_nan (fin s m c) nan e = no e
not_nan (fin s m c) (inf t) e = tt
not_nan (fin s m c) (fin t n d) e = tt

-- a number x, and the number of a word n: their words are the same where they are equal
pub words_as_numbers : (x : Float) (n : ℕ) → T (fits binary64 x) → is_nan x ≡ false → n < 2 ^ 64 → same_word (to_bits binary64 x) n ≡ eq x (of_bits binary64 n)
unfolding same_word
words_as_numbers x n f number h = go (eqb (word x) (canonical_word n)) refl (eq x y) refl
  where
    y : Float
    y = of_bits binary64 n

    -- the same words: the numbers are alike, so equal
    then_equal : word x ≡ canonical_word n → eq x y ≡ true
    then_equal e =
        let a : Alike x y = sym (word_alike (to_bits binary64 x) ∙ ap canonical (float_of_bits x f)) ∙ ap (λ (v : ℕ). canonical (of_bits binary64 v)) e ∙ word_alike n in
        sym (canonical_eq x y) ∙ ap (eq x) (sym a) ∙ canonical_eq x x ∙ itself x number

    -- equal numbers: alike, so of the same word
    then_same : eq x y ≡ true → word x ≡ canonical_word n
    then_same e =
        word_of x f ∙ ap (λ (v : Float). canonical_word (to_bits binary64 v)) (same_number x y f (of_bits-fits binary64 n) e) ∙ sym (word_of y (of_bits-fits binary64 n))
        ∙ ap canonical_word (to_bits-of_bits binary64 n h (not_nan x y e))

    go : (p : Bool) → eqb (word x) (canonical_word n) ≡ p → (q : Bool) → eq x y ≡ q → p ≡ q
    go true e true g = refl
    go false e false g = refl
    go true e false g = sym (then_equal (eqb-true _ _ e)) ∙ g
    go false e true g = absurd (eqb-false _ _ e (then_same g))

-- "lifts compare as numbers": a label of a list is like an edge's where the movements are one, the lifts, as numbers, are equal, and the doors are one
pub lifts_as_numbers : (sp : Space) (r : Request) (body : Body) → is_nan r.jump_height ≡ false → (from to : Point) (w : Waypoint) → edge sp r body from to ≡ Some w →
    T (fits binary64 w.lift) → (l : Label) → l.lift < 2 ^ 64 →
    alike (label_of w) l ≡ (eqb (movement_number w.movement) l.movement && (eq w.lift (of_bits binary64 l.lift) && eqb w.door l.door))
unfolding alike label_of
lifts_as_numbers sp r body jumps from to w e f l h = rw (words_as_numbers w.lift l.lift f (lift_number r body jumps sp from to w e) h)
