-- Laws of digits and of decimal places.
use Rattle.std.specs.Prelude.{ℕ, zero, suc, max, ◌+◌, ◌-◌, ◌*◌, ◌/◌, ◌%◌, ◌^◌, ◌<◌, ◌≤◌, ◌≡◌, refl, Bool, true, false, cond, List, [], ◌∷◌, ◌++◌, ltb, leb, length, set}
use Rattle.std.proofs.Common.{arith, pow-suc, div-lt_iff_lt-mul, sym, ap, ◌∙◌, lt-ltb, le-ltb, ltb-true, ltb-false, le-leb, leb-true, leb-false, length-append}
use Rattle.std.proofs.lemmas.Bool.{lt-leb}
use Rattle.std.proofs.lemmas.List.Edits.{sets}
use Rattle.std.proofs.lemmas.List.{set_comm}
use Rattle.digits.specs.Digits.{digit, digits, places_by, places, hex, decimal}
use Rattle.digits.specs.Writing.{with_field, behind, Field, sets_append, placed}

-- ---- a digit's byte

pub low_digit : (d : ℕ) → d < 10 → 48 + d ≡ digit d
unfolding digit
low_digit d h = rw (lt-ltb d 10 h)

pub high_digit : (d : ℕ) → 10 ≤ d → 87 + d ≡ digit d
unfolding digit
high_digit d h = rw (le-ltb d 10 h)

-- ---- digits

pub length_digits : (base n v : ℕ) → length (digits base n v) ≡ n
length_digits base zero v = refl
length_digits base (suc n) v = length-append (digits base n (v / base)) (digit (v % base) ∷ []) ∙ omega (arith, length_digits base n (v / base))

-- a store behind a run of stores may come first
sets_behind : (d s : List ℕ) (at i x : ℕ) → at + length d ≤ i → sets (set s i x) at d ≡ set (sets s at d) i x
sets_behind [] s at i x h = refl
sets_behind (v ∷ d) s at i x h =
    ap (λ (l : List ℕ). sets l (suc at) d) (set_comm s i at x v (λ e. omega arith)) ∙ sets_behind d (set s at v) (suc at) i x (omega arith)

-- the last digit first, and then the digits of what is left
last_digit : (s : List ℕ) (at base n v : ℕ) →
    sets (set s (at + n) (digit (v % base))) at (digits base n (v / base)) ≡ sets s at (digits base (suc n) v)
last_digit s at base n v =
    let d = digits base n (v / base) in
    let x = digit (v % base) in
    let e : length d ≡ n = length_digits base n (v / base) in
    sets_behind d s at (at + n) x (omega arith)
    ∙ ap (λ (k : ℕ). set (sets s at d) (at + k) x) (sym e)
    ∙ sym (sets_append d (x ∷ []) s at)

pub one_digit : (s : List ℕ) (at base k v x : ℕ) → 0 < k → x ≡ digit (v % base) →
    sets (set s (at + (k - 1)) x) at (digits base (k - 1) (v / base)) ≡ sets s at (digits base k v)
one_digit s at base k v x h e =
    let n : suc (k - 1) ≡ k = omega arith in
    rw e (last_digit s at base (k - 1) v ∙ ap (λ (j : ℕ). sets s at (digits base j v)) n)

-- ---- decimal places

-- more tenths than are needed change nothing
enough : (f g v : ℕ) → v ≤ f → v ≤ g → places_by f v ≡ places_by g v
enough zero zero v h k = refl
enough zero (suc g) v h k = rw (lt-ltb v 10 (omega arith))
enough (suc f) zero v h k = rw (lt-ltb v 10 (omega arith))
enough (suc f) (suc g) v h k = go (ltb v 10) refl (λ l. enough f g (v / 10) (omega arith) (omega arith))
  where
    go : (t : Bool) → ltb v 10 ≡ t → (10 ≤ v → places_by f (v / 10) ≡ places_by g (v / 10)) → places_by (suc f) v ≡ places_by (suc g) v
    go true p rest = rw p
    go false p rest = rw p (ap suc (rest (ltb-false v 10 p)))

pub one_place : (v : ℕ) → v < 10 → places v ≡ 1
unfolding places
one_place zero h = refl
one_place (suc v) h = rw (lt-ltb (suc v) 10 h)

pub more_places : (v : ℕ) → 10 ≤ v → places v ≡ suc (places (v / 10))
unfolding places
more_places zero h = absurd (omega arith)
more_places (suc v) h = rw (le-ltb (suc v) 10 h) (ap suc (enough v (suc v / 10) (suc v / 10) (omega arith) (omega arith)))

-- a number below 10 ^ n has at most n places
most_by : (f n v : ℕ) → v < 10 ^ suc n → places_by f v ≤ suc n
most_by zero n v h = omega arith
most_by (suc f) zero v h = rw (lt-ltb v 10 (omega arith)) (omega arith)
most_by (suc f) (suc n) v h =
    go (ltb v 10) (most_by f n (v / 10) ((div-lt_iff_lt-mul {k = 10} {x = v} {y = 10 ^ suc n} (omega arith)).1 (rw pow-suc at h)))
  where
    go : (t : Bool) → places_by f (v / 10) ≤ suc n → cond t 1 (suc (places_by f (v / 10))) ≤ suc (suc n)
    go true l = omega arith
    go false l = omega arith

-- so one of 64 bits has at most 20
pub most_places : (v : ℕ) → v < 2 ^ 64 → places v ≤ 20
unfolding places
most_places v h = most_by v 19 v (omega arith)

pub some_place : (v : ℕ) → 1 ≤ places v
unfolding places
some_place v = go v v
  where
    go : (f v : ℕ) → 1 ≤ places_by f v
    go zero v = omega arith
    go (suc f) v = pick (ltb v 10)
      where
        pick : (t : Bool) → 1 ≤ cond t 1 (suc (places_by f (v / 10)))
        pick true = omega arith
        pick false = omega arith

-- so a number from 10 ^ k on, and below ten times that, has k + 1 places
power_pos : (k : ℕ) → 0 < 10 ^ k
power_pos zero = omega arith
power_pos (suc k) = omega (arith, pow-suc 10 k, power_pos k)

pub places_by_power : (k v : ℕ) → 10 ^ k ≤ v → v < 10 * 10 ^ k → places v ≡ suc k
places_by_power zero v h l = one_place v l
places_by_power (suc k) v h l =
    more_places v (omega (arith, pow-suc 10 k, power_pos k))
    ∙ ap suc (places_by_power k (v / 10) (omega (arith, pow-suc 10 k)) (omega (arith, pow-suc 10 k)))

-- 0 has one, as 1 has
pub places_from_one : (v : ℕ) → places v ≡ places (max v 1)
places_from_one zero = one_place 0 (omega arith) ∙ sym (one_place 1 (omega arith))
places_from_one (suc v) = ap places (omega arith)

-- no digit of v is cut off
holds_by : (f v : ℕ) → v ≤ f → v < 10 ^ places_by f v
holds_by zero v h = omega arith
holds_by (suc f) v h = go (ltb v 10) refl (λ l. holds_by f (v / 10) (omega arith))
  where
    go : (t : Bool) → ltb v 10 ≡ t → (10 ≤ v → v / 10 < 10 ^ places_by f (v / 10)) → v < 10 ^ cond t 1 (suc (places_by f (v / 10)))
    go true p rest = omega (arith, ltb-true v 10 p)
    go false p rest = rw pow-suc ((div-lt_iff_lt-mul {k = 10} {x = v} {y = 10 ^ places_by f (v / 10)} (omega arith)).0 (rest (ltb-false v 10 p)))

pub holds_places : (v : ℕ) → v < 10 ^ places v
unfolding places
holds_places v = holds_by v v (omega arith)

-- ---- numbers as fields of a line

-- a field's room, where a buffer has as much: by the difference, which cannot wrap
pub room_by_difference : (n at : ℕ) → 21 ≤ n → leb at (n - 21) ≡ leb (at + 21) n
room_by_difference n at h = go (leb at (n - 21)) refl
  where
    go : (t : Bool) → leb at (n - 21) ≡ t → t ≡ leb (at + 21) n
    go true e = let l = leb-true at (n - 21) e in sym (le-leb (at + 21) n (omega arith))
    go false e = let l = leb-false at (n - 21) e in sym (lt-leb (at + 21) n (omega arith))

-- the byte that ends them may come first
pub ended : (s : List ℕ) (at base n v end : ℕ) → sets (set s (at + n) end) at (digits base n v) ≡ sets s at (digits base n v ++ (end ∷ []))
ended s at base n v end =
    let d = digits base n v in
    let e : length d ≡ n = length_digits base n v in
    sets_behind d s at (at + n) end (omega arith) ∙ ap (λ (k : ℕ). set (sets s at d) (at + k) end) (sym e) ∙ sym (sets_append d (end ∷ []) s at)

module _ (f s : List ℕ) (at end : ℕ) where
  -- no room: nothing is written
  pub no_room : leb (at + 21) (length s) ≡ false → (at ≡ behind f at s) × (s ≡ with_field f end at s)
  unfolding with_field behind
  no_room h = (rw h, rw h)

  pub in_room : (t : List ℕ) (r : ℕ) → leb (at + 21) (length s) ≡ true → r ≡ at + (length f + 1) → t ≡ sets s at (f ++ (end ∷ [])) → (r ≡ behind f at s) × (t ≡ with_field f end at s)
  unfolding with_field behind
  in_room t r h n e = (rw h n, rw h e)

pub length_hex : (v : ℕ) → length (hex v) ≡ 16
unfolding hex
length_hex v = length_digits 16 16 v

pub length_decimal : (v : ℕ) → length (decimal v) ≡ places v
unfolding decimal
length_decimal v = length_digits 10 (places v) v

-- for those who write a line: a number's field, and how many bytes are left behind it where there was room for one of 21 and n more: a decimal field has up to 21,
-- one in hex 17

pub hex_field : {s t : List ℕ} {at r : ℕ} (v end n : ℕ) → (r ≡ behind (hex v) at s) × (t ≡ with_field (hex v) end at s) → at + (21 + n) ≤ length s →
    Field s t at r (hex v) end × (r + (4 + n) ≤ length t)
hex_field {s} {t} {at} {r} v end n e room =
    let f = placed s t (hex v) at r end n room (omega (arith, length_hex v)) e.0 e.1 in
    (f.0, omega (arith, length_hex v, f.0.wrote.next, f.0.size, length-append (hex v) (end ∷ [])))

pub decimal_field : {s t : List ℕ} {at r : ℕ} (v end n : ℕ) → v < 2 ^ 64 → (r ≡ behind (decimal v) at s) × (t ≡ with_field (decimal v) end at s) →
    at + (21 + n) ≤ length s → Field s t at r (decimal v) end × (r + n ≤ length t)
decimal_field {s} {t} {at} {r} v end n small e room = placed s t (decimal v) at r end n room (omega (arith, length_decimal v, most_places v small)) e.0 e.1
