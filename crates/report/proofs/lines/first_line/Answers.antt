-- `report::lines::first_line` meets its contract. Assumes nothing.
use Rattle.std.proofs.Common.{rules}
use mathlib.Core.List.{[], ◌∷◌, ◌++◌}
use mathlib.Core.Path.{sym, ap, ◌∙◌}
use native.Mathlib.Omega.{arith}
use Prim.Native.Nat.{ℕ}
use Rattle.digits.specs.Digits.{hex, decimal}
use Rattle.digits.specs.Laws.{hex_field, decimal_field}
use Rattle.report.specs.Lines.{refused, outcome_word, line_one, refused_line}
use Rattle.report.specs.LineLaws.{then, whole, head, head_then, shown, too_short, outcome_first, refusal_first}
use Rattle.report.proofs.lines.first_line.Goals as goal

pub returns-then-out-lt-ROOM : goal.returns-then-out-lt-ROOM
returns-then-out-lt-ROOM c =
    let w =
    too_short _ _ c.if-out-lt-ROOM.true
    in
    record { count = w.0; bytes = w.1 }

pub put_head-a-requires : goal.put_head-a-requires
put_head-a-requires c = (omega arith, c.outcome_word-word.ensures.short)

pub returns-then-number-lt3 : goal.returns-then-number-lt3
unfolding line_one
returns-then-number-lt3 c =
    let a = c.args.told in
    let o = outcome_word a.number in
    let bits = c.bits_of in
    let headed = rw c.outcome_word-word.ensures.is at c.put_head-a.ensures in
    let closed = decimal_field a.closed 32 21 (search rules) (c.put_decimal-b.ensures.next, c.put_decimal-b.ensures.bytes) headed.room in
    let total = hex_field bits.result 10 0 (c.put_hex.ensures.next, c.put_hex.ensures.bytes) closed.1 in
    let w =
    shown c.if-out-lt-ROOM.false
    (whole (then (head o (decimal a.waypoints) (decimal a.retained)) 32 headed.wrote (then (decimal a.closed) 32 closed.0.wrote total.0.wrote)) (omega (arith, total.1)))
    (outcome_first a.number a.bad a.waypoints a.retained a.closed a.total _ c.if-number-lt3.true bits.ensures
    ∙ sym (head_then o (decimal a.waypoints) (decimal a.retained) (32 ∷ (decimal a.closed ++ (32 ∷ (hex bits.result ++ (10 ∷ [])))))))
    in
    record { count = w.0; bytes = w.1 }

pub put_head-requires : goal.put_head-requires
put_head-requires c = (omega arith, omega arith)

pub returns : goal.returns
unfolding refused_line
returns c =
    let a = c.args.told in
    let named = c.record_of in
    let headed = c.put_head.ensures in
    let w =
    shown c.if-out-lt-ROOM.false (whole headed.wrote (omega (arith, headed.room)))
    (refusal_first a.number a.bad a.waypoints a.retained a.closed a.total c.if-number-lt3.false
    ∙ ap (λ (n : ℕ). refused ++ (32 ∷ (decimal a.number ++ (32 ∷ (decimal n ++ (10 ∷ [])))))) (sym named.ensures)
    ∙ sym (head_then refused (decimal a.number) (decimal named.result) (10 ∷ [])))
    in
    record { count = w.0; bytes = w.1 }
