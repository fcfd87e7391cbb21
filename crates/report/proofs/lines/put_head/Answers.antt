-- `report::lines::put_head` meets its contract. Assumes nothing.
use native.Mathlib.Omega.{arith}
use Rattle.digits.specs.Digits.{decimal}
use Rattle.digits.specs.Writing.{left}
use Rattle.digits.specs.Laws.{decimal_field}
use Rattle.report.specs.LineLaws.{then, headed}
use Rattle.report.proofs.lines.put_head.Goals as goal

pub put_word-c-requires : goal.put_word-c-requires
put_word-c-requires c = (omega (arith, c.requires.0), c.requires.1)

pub returns : goal.returns
returns c =
    let a = c.args in
    let word = c.put_word-c.ensures in
    let first = decimal_field a.a 32 63 c.ranges.a.fits (c.put_decimal-d.ensures.next, c.put_decimal-d.ensures.bytes) (left 84 word (omega (arith, c.requires.0))) in
    let second = decimal_field a.b a.end 42 c.ranges.b.fits (c.put_decimal.ensures.next, c.put_decimal.ensures.bytes) first.1 in
    headed a.word.now (decimal a.a) (decimal a.b) a.end (then a.word.now 32 word.wrote (then (decimal a.a) 32 first.0.wrote second.0.wrote)) second.1
