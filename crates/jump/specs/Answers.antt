-- The number and the value by which an answer is known, and that they tell answers apart. 6 is 01's refusal EndlessJump; 0 says that nothing was refused.
use Rattle.std.specs.Prelude.{◌≡◌, ℕ, List, [], ◌∷◌, refl, Option, Some, None, Float}
use Rattle.std.proofs.Common.{ap, arith}

-- a height is no refusal, and its value is the number of blocks
abbrev pub apex_answer : Option Float → ℕ × List Float
apex_answer (Some h) = (0, h ∷ [])
apex_answer None = (6, [])

-- a contract that gives them allows one answer
pub one_apex : (a b : Option Float) → apex_answer a ≡ apex_answer b → a ≡ b
one_apex (Some h) (Some k) e = let l : h ∷ [] ≡ k ∷ [] = ap (λ x. x.1) e in cc
one_apex (Some h) None e = let z : ◌≡◌ {A = ℕ} 0 6 = ap (λ x. x.0) e in absurd (omega arith)
one_apex None (Some k) e = let z : ◌≡◌ {A = ℕ} 6 0 = ap (λ x. x.0) e in absurd (omega arith)
one_apex None None e = refl
