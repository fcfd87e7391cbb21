-- The permission byte by cases, and a table filled from the front. Assumes nothing.
use Rattle.std.specs.Prelude.{◌≡◌, refl, Bool, true, false, not, ◌&&◌, cond, List, [], ◌∷◌, ◌++◌, map, ℕ, zero, suc, ◌+◌, ◌<◌, ◌≤◌, eqb, length, get_or, set, take, drop}
use Rattle.std.proofs.Common.{ap, append-nil, not-suc-le-zero, le_of_suc-le-suc, add-one, arith, drop_of_length-le, take_all}
use Rattle.std.specs.Int.Bits.{bit_and}
use Rattle.policy.specs.declared.policy.WalkPolicy.{WalkPolicy}
use Rattle.policy.specs.declared.doors.Passage.{Passage}
use Rattle.policy.specs.declared.doors.Passage.TheVariants.{Shape, Through, Wall}
use Rattle.policy.specs.Answers.{passage_number, wall, through}
use Rattle.policy.specs.Doors.{door_passage}
use Rattle.policy.specs.Permission.{forbidden, permission}

-- the permission byte by a passage's number and by whether a flag is forbidden
abbrev pub byte_of : ℕ → Bool → ℕ
byte_of passage bad = cond (not bad && not (eqb passage wall)) 1 0 + cond (not bad) 2 0 + cond (not (eqb passage through)) 4 0

-- a forbidden flag leaves of the byte one bit: whether the state collides
pub forbidden_byte : (passage : Passage) → bit_and (byte_of (passage_number passage) false) 4 ≡ byte_of (passage_number passage) true
forbidden_byte Shape = refl
forbidden_byte Through = refl
forbidden_byte Wall = refl

pub byte : (p : WalkPolicy) (w : Bool) (f passage : ℕ) (bad : Bool) → door_passage p f ≡ passage → forbidden p w f ≡ bad → permission p w f ≡ byte_of passage bad
unfolding permission
byte p w f passage bad e h = rw (e, h)

-- a table d filled from the front with f of the bytes of s: after i turns it is map f (take i s) ++ drop i d

module _ (f : ℕ → ℕ) where
  maps : (i : ℕ) (s d : List ℕ) → i < length s → length s ≡ length d → set (map f (take i s) ++ drop i d) i (f (get_or s i 0)) ≡ map f (take (suc i) s) ++ drop (suc i) d
  maps i [] d l e = absurd (not-suc-le-zero l)
  maps i (x ∷ s) [] l e = absurd (omega arith)
  maps zero (x ∷ s) (y ∷ d) l e = refl
  maps (suc i) (x ∷ s) (y ∷ d) l e = ap (λ (t : List ℕ). f x ∷ t) (maps i s d (le_of_suc-le-suc l) (omega arith))

  -- one byte more
  pub maps_more : (i : ℕ) (s d : List ℕ) → i < length s → length s ≡ length d → set (map f (take i s) ++ drop i d) i (f (get_or s i 0)) ≡ map f (take (i + 1) s) ++ drop (i + 1) d
  maps_more i s d l e = rw add-one (maps i s d l e)

  -- all of them
  pub maps_all : (i : ℕ) (s d : List ℕ) → length s ≤ i → length s ≡ length d → map f (take i s) ++ drop i d ≡ map f s
  maps_all i s d l e = rw (take_all i s l, drop_of_length-le d {i = i} (omega arith), append-nil)
