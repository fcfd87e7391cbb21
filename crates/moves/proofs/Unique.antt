-- What a movement, an edge and an edge check give tells them apart, because each can be read back: a contract that says it allows one answer. Assumes nothing.
use Rattle.std.specs.Prelude.{◌≡◌, refl, cond, List, [], ◌∷◌, ℕ, eqb, ltb, Float, get_or, Option, Some, None, Result, Ok, Err}
use Rattle.std.proofs.Common.{sym, ap, ◌∙◌}
use Rattle.floats.specs.Floats.{nought}
use Rattle.world.specs.declared.Point.{Point}
use Rattle.moves.specs.declared.answer.Movement.{Movement}
use Rattle.moves.specs.declared.answer.Movement.TheVariants.{Walk, Step, Jump, Drop}
use Rattle.moves.specs.declared.answer.Waypoint.{Waypoint}
use Rattle.moves.specs.declared.answer.Reason.{Reason}
use Rattle.moves.specs.declared.answer.Reason.TheVariants.{TooHigh, TooDeep, TargetOutOfRange, RaisedOutOfRange, TargetNotStandable, LiftBlocked, CrossingBlocked, SettleBlocked, Unsupported}
use Rattle.moves.specs.Moves.{moved_number, none_number, moving_given, Values, no_values, waypoint_given, edge_given, reason_number, check_given}

abbrev movement : ℕ → Movement
movement n = cond (eqb n (moved_number Walk)) Walk (cond (eqb n (moved_number Step)) Step (cond (eqb n (moved_number Jump)) Jump Drop))

-- ---- a movement, by its number and its lift

abbrev moving : ℕ × List Float → Option (Movement × Float)
moving (n, values) = cond (eqb n none_number) None (Some (movement n, get_or values 0 nought))

moving_back : (a : Option (Movement × Float)) → moving (moving_given a) ≡ a
unfolding moving_given
moving_back (Some (Walk, lift)) = refl
moving_back (Some (Step, lift)) = refl
moving_back (Some (Jump, lift)) = refl
moving_back (Some (Drop, lift)) = refl
moving_back None = refl

pub one_moving : (a b : Option (Movement × Float)) → moving_given a ≡ moving_given b → a ≡ b
one_moving a b e = sym (moving_back a) ∙ ap moving e ∙ moving_back b

-- ---- an edge, by its number, its waypoint's four, and its door

abbrev waypoint : ℕ → Values → Waypoint
waypoint n (values, doors) =
    record {
      feet = record { x = get_or values 0 nought; y = get_or values 1 nought; z = get_or values 2 nought };
      lift = get_or values 3 nought;
      movement = movement n;
      door = get_or doors 0 0;
    }

by_movement : (feet : Point) (lift : Float) (door : ℕ) (m : Movement) →
    waypoint (moved_number m) (feet.x ∷ feet.y ∷ feet.z ∷ lift ∷ [], door ∷ []) ≡ record { feet = feet; lift = lift; movement = m; door = door }
by_movement feet lift door Walk = refl
by_movement feet lift door Step = refl
by_movement feet lift door Jump = refl
by_movement feet lift door Drop = refl

abbrev edge : ℕ × Values → Option Waypoint
edge (n, values) = cond (eqb n none_number) None (Some (waypoint n values))

edge_back : (a : Option Waypoint) → edge (edge_given a) ≡ a
unfolding edge_given
edge_back (Some w) = moved w.movement ∙ ap Some (by_movement w.feet w.lift w.door w.movement)
  where
    moved : (m : Movement) → cond (eqb (moved_number m) none_number) None (Some (waypoint (moved_number m) (waypoint_given w))) ≡ Some (waypoint (moved_number m) (waypoint_given w))
    moved Walk = refl
    moved Step = refl
    moved Jump = refl
    moved Drop = refl
edge_back None = refl

pub one_edge : (a b : Option Waypoint) → edge_given a ≡ edge_given b → a ≡ b
one_edge a b e = sym (edge_back a) ∙ ap edge e ∙ edge_back b

-- ---- a reason, by its number; and an edge check, by its number, its waypoint's four, and its door

abbrev pub reason : ℕ → Reason
reason n =
    cond (eqb n (reason_number TooHigh)) TooHigh
    (cond (eqb n (reason_number TooDeep)) TooDeep
    (cond (eqb n (reason_number TargetOutOfRange)) TargetOutOfRange
    (cond (eqb n (reason_number RaisedOutOfRange)) RaisedOutOfRange
    (cond (eqb n (reason_number TargetNotStandable)) TargetNotStandable
    (cond (eqb n (reason_number LiftBlocked)) LiftBlocked
    (cond (eqb n (reason_number CrossingBlocked)) CrossingBlocked
    (cond (eqb n (reason_number SettleBlocked)) SettleBlocked
    Unsupported)))))))

pub reason_back : (a : Reason) → reason (reason_number a) ≡ a
reason_back TooHigh = refl
reason_back TooDeep = refl
reason_back TargetOutOfRange = refl
reason_back RaisedOutOfRange = refl
reason_back TargetNotStandable = refl
reason_back LiftBlocked = refl
reason_back CrossingBlocked = refl
reason_back SettleBlocked = refl
reason_back Unsupported = refl

-- the numbers of edges are above those of reasons
abbrev check : ℕ × Values → Result Waypoint Reason
check (n, values) = cond (ltb n (moved_number Walk)) (Err (reason n)) (Ok (waypoint n values))

check_back : (a : Result Waypoint Reason) → check (check_given a) ≡ a
unfolding check_given
check_back (Ok w) = moved w.movement ∙ ap Ok (by_movement w.feet w.lift w.door w.movement)
  where
    moved : (m : Movement) → check (moved_number m, waypoint_given w) ≡ Ok (waypoint (moved_number m) (waypoint_given w))
    moved Walk = refl
    moved Step = refl
    moved Jump = refl
    moved Drop = refl
check_back (Err why) = failed why ∙ ap Err (reason_back why)
  where
    failed : (a : Reason) → check (reason_number a, no_values) ≡ Err (reason (reason_number a))
    failed TooHigh = refl
    failed TooDeep = refl
    failed TargetOutOfRange = refl
    failed RaisedOutOfRange = refl
    failed TargetNotStandable = refl
    failed LiftBlocked = refl
    failed CrossingBlocked = refl
    failed SettleBlocked = refl
    failed Unsupported = refl

pub one_check : (a b : Result Waypoint Reason) → check_given a ≡ check_given b → a ≡ b
one_check a b e = sym (check_back a) ∙ ap check e ∙ check_back b
