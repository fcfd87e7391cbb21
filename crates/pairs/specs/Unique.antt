-- Why a pair is none of the graph's is told apart by its number, because it can be read back: a contract that says the number allows one answer. Assumes nothing.
use Rattle.std.specs.Prelude.{◌≡◌, refl, cond, ℕ, eqb}
use Rattle.std.proofs.Common.{sym, ap, ◌∙◌}
use Rattle.moves.specs.declared.answer.Reason.{Reason}
use Rattle.moves.specs.declared.answer.Reason.TheVariants.{TooHigh, TooDeep, TargetOutOfRange, RaisedOutOfRange, TargetNotStandable, LiftBlocked, CrossingBlocked, SettleBlocked, Unsupported}
use Rattle.moves.specs.Moves.{reason_number}
use Rattle.moves.proofs.Unique.{reason}
use Rattle.pairs.specs.declared.PairFault.{PairFault}
use Rattle.pairs.specs.declared.PairFault.TheVariants.{NoEdge, NotAStep, WrongLabel}
use Rattle.pairs.specs.Pairs.{pair_number}

abbrev pub pair_of : ℕ → PairFault
pair_of n = cond (eqb n (pair_number NotAStep)) NotAStep (cond (eqb n (pair_number WrongLabel)) WrongLabel (NoEdge (reason n)))

pub pair_back : (a : PairFault) → pair_of (pair_number a) ≡ a
pair_back NotAStep = refl
pair_back WrongLabel = refl
pair_back (NoEdge why) = go why
  where
    go : (a : Reason) → pair_of (reason_number a) ≡ NoEdge a
    go TooHigh = refl
    go TooDeep = refl
    go TargetOutOfRange = refl
    go RaisedOutOfRange = refl
    go TargetNotStandable = refl
    go LiftBlocked = refl
    go CrossingBlocked = refl
    go SettleBlocked = refl
    go Unsupported = refl

pub one_pair : (a b : PairFault) → pair_number a ≡ pair_number b → a ≡ b
one_pair a b e = sym (pair_back a) ∙ ap pair_of e ∙ pair_back b
