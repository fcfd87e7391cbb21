-- `records::put_record` meets its contract. Assumes nothing.
use Rattle.std.specs.Option.{SomeIff, unwrap_or}
use Rattle.std.specs.Prelude.{Option, Some, None}
use Rattle.std.proofs.Common.{arith, ℕ, ◌*◌, ◌/◌, ◌<◌, ◌≤◌, ◌≡◌, refl, sym, ◌∙◌, length}
use Rattle.records.specs.Laws.{rest_all, rest_more, rest_none, none_out}
use Rattle.records.proofs.put_record.Goals as goal
use Rattle.records.proofs.put_record.Goals.{Then-inside}

-- how many records the table has: 0 of records without words
module _ (k size long : ℕ) where
  some : (o : Option ℕ) → SomeIff o (0 < size) (long / size) → k < unwrap_or o 0 → k < long / size
  some (Some m) h l = let e : m ≡ long / size = h.1 in omega arith
  some None h l = absurd (omega arith)

  all : (o : Option ℕ) → SomeIff o (0 < size) (long / size) → unwrap_or o 0 ≤ k → 0 < size → long / size ≤ k
  all (Some m) h l p = let e : m ≡ long / size = h.1 in omega arith
  all None h l p = absurd (h p)

-- record k is one of the table
one : (c : Then-inside) → let a = c.args in a.k < length a.s.now / (8 * length a.words.now)
one c =
    let a = c.args in
    some a.k (8 * length a.words.now) (length a.s.now) c.checked_div.result c.checked_div.ensures (omega (arith, c.unwrap_or.ensures, c.if-inside.true))

pub loop-i-init : goal.loop-i-init
loop-i-init c = let a = c.args in (refl, rest_all a.s.now a.k a.words.now)

pub loop-i-preserved : goal.loop-i-preserved
loop-i-preserved c =
    let r = rest_more c.args.s.now c.args.k c.args.words.now c.loop-i.i c.loop-i.s c.loop-i-test.true (one (goal.at.loop-i-preserved c).Then-inside) in
    grind (arith, r, c.loop-i.invariant)

pub returns-after-loop-i : goal.returns-after-loop-i
returns-after-loop-i c =
    let a = c.args in let l = c.loop-i in
    sym (l.invariant.1 ∙ rest_none a.s.now a.k a.words.now l.i l.s c.loop-i-test.false)

pub returns-else-inside : goal.returns-else-inside
returns-else-inside c =
    let a = c.args in
    let n : ℕ = length a.words.now in
    let past : 0 < 8 * n → length a.s.now / (8 * n) ≤ a.k =
    all a.k (8 * n) (length a.s.now) c.checked_div.result c.checked_div.ensures (omega (arith, c.unwrap_or.ensures, c.if-inside.false)) in
    sym (rest_all a.s.now a.k a.words.now ∙ none_out a.s.now a.k a.words.now past)
