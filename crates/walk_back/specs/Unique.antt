-- What the walk-back gives tells its answers apart, because each can be read back: its contract allows one answer. Assumes nothing.
use Rattle.std.specs.Prelude.{◌≡◌, refl, cond, List, [], ◌∷◌, ℕ, eqb, Result, Ok, Err}
use Rattle.std.proofs.Common.{sym, ap, ◌∙◌}
use Rattle.pairs.specs.declared.PairFault.{PairFault}
use Rattle.pairs.specs.Unique.{pair_of, pair_back}
use Rattle.walk_back.specs.declared.Fault.TheVariants.{InvalidRequest, BadList, GoalOutOfRange, StartNotStandable, GoalNotStandable, WrongStart, Pair, WrongEnd}
use Rattle.walk_back.specs.declared.Denied.{Denied}
use Rattle.walk_back.specs.declared.Denied.TheVariants.{BadWorld, TooLarge, Fault as No}
use Rattle.walk_back.specs.WalkBack.{walked_number, walked_given}

-- an answer without a place, by its number
abbrev answer : ℕ → Result (Unit {0}) Denied
answer n =
    cond (eqb n (walked_number (Ok tt))) (Ok tt)
    (cond (eqb n (walked_number (Err BadWorld))) (Err BadWorld)
    (cond (eqb n (walked_number (Err TooLarge))) (Err TooLarge)
    (cond (eqb n (walked_number (Err (No InvalidRequest)))) (Err (No InvalidRequest))
    (cond (eqb n (walked_number (Err (No BadList)))) (Err (No BadList))
    (cond (eqb n (walked_number (Err (No GoalOutOfRange)))) (Err (No GoalOutOfRange))
    (cond (eqb n (walked_number (Err (No StartNotStandable)))) (Err (No StartNotStandable))
    (cond (eqb n (walked_number (Err (No GoalNotStandable)))) (Err (No GoalNotStandable))
    (cond (eqb n (walked_number (Err (No WrongStart)))) (Err (No WrongStart))
    (Err (No WrongEnd))))))))))

-- and one with a place
abbrev read_back : ℕ × List ℕ → Result (Unit {0}) Denied
read_back (n, []) = answer n
read_back (n, place ∷ places) = Err (No (Pair (pair_of n) place))

read_back_lem : (a : Result (Unit {0}) Denied) → read_back (walked_given a) ≡ a
unfolding walked_given
read_back_lem (Ok tt) = refl
read_back_lem (Err BadWorld) = refl
read_back_lem (Err TooLarge) = refl
read_back_lem (Err (No InvalidRequest)) = refl
read_back_lem (Err (No BadList)) = refl
read_back_lem (Err (No GoalOutOfRange)) = refl
read_back_lem (Err (No StartNotStandable)) = refl
read_back_lem (Err (No GoalNotStandable)) = refl
read_back_lem (Err (No WrongStart)) = refl
read_back_lem (Err (No (Pair fault place))) = ap (λ (f : PairFault). Err (No (Pair f place))) (pair_back fault)
read_back_lem (Err (No WrongEnd)) = refl

pub one_walked : (a b : Result (Unit {0}) Denied) → walked_given a ≡ walked_given b → a ≡ b
one_walked a b e = sym (read_back_lem a) ∙ ap read_back e ∙ read_back_lem b
