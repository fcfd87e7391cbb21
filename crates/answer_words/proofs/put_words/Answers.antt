-- `answer_words::put_words` meets its contract. Assumes nothing.
use Rattle.std.proofs.Common.{arith, ℕ, ◌+◌, ◌<◌, ◌≤◌, ◌≡◌, List, [], ◌∷◌, ◌++◌, length, drop, take, get_or, set, refl, sym, ap, ◌∙◌, add-one, append_assoc, length-take-le, take-suc, take_all, le-leb}
use Rattle.std.proofs.Math.Seq.{drop-cons}
use Rattle.std.proofs.lemmas.List.{set_at}
use Rattle.answer_words.specs.Table.{at_start}
use Rattle.answer_words.proofs.put_words.Goals as goal

-- one more of the words' bytes is written
written : (w old : List ℕ) (k : ℕ) → k < length w → k < length old → set (take k w ++ drop k old) k (get_or w k 0) ≡ take (k + 1) w ++ drop (k + 1) old
written w old k in_words in_out =
    let rest : drop k old ≡ get_or old k 0 ∷ drop (k + 1) old = rw add-one (drop-cons old k 0 in_out) in
    let one : take (k + 1) w ≡ take k w ++ (get_or w k 0 ∷ []) = rw add-one (take-suc w k 0 in_words) in
    ap (λ (t : List ℕ). set (take k w ++ t) k (get_or w k 0)) rest
    ∙ set_at (take k w) (get_or old k 0) (drop (k + 1) old) (get_or w k 0) k (length-take-le k w (omega arith))
    ∙ sym (ap (λ (t : List ℕ). t ++ drop (k + 1) old) one ∙ append_assoc (take k w) (get_or w k 0 ∷ []) (drop (k + 1) old))

pub loop-k-init : goal.loop-k-init
loop-k-init c = refl

pub loop-k-preserved : goal.loop-k-preserved
loop-k-preserved c =
    ap (λ (t : List ℕ). set t c.loop-k.k (get_or c.words-words.result.now c.loop-k.k 0)) c.loop-k.invariant
    ∙ written c.words-words.result.now c.args.out.now c.loop-k.k (omega arith) (omega (arith, c.if-size-out.true))

-- all of them are written
whole : (w old : List ℕ) (k : ℕ) → k ≡ length w → length w ≤ length old → take k w ++ drop k old ≡ at_start w old
unfolding at_start
whole w old k all fits = rw (all, le-leb (length w) (length old) fits) (ap (λ (t : List ℕ). t ++ drop (length w) old) (take_all (length w) w (omega arith)))

pub returns-after-loop-k-clause-out_after : goal.returns-after-loop-k-clause-out_after
returns-after-loop-k-clause-out_after c =
    c.loop-k.invariant
    ∙ whole c.words-words.result.now c.args.out.now c.loop-k.k (omega (arith, c.loop-k-test.false, c.loop-k.auto.k-end)) c.if-size-out.true
    ∙ ap (λ (t : List ℕ). at_start t c.args.out.now) c.words-words.ensures
