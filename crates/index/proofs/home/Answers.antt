-- `index::home` meets its contract. Assumes nothing.
use Rattle.std.proofs.Common.{ℕ, ◌-◌, ap, ◌∙◌, bit_and}
use Rattle.index.specs.Index.{folded_down, stir, mix, hashed, home}
use Rattle.index.proofs.home.Goals as goal

pub returns : goal.returns
unfolding home hashed
returns c =
    let a = c.args in
    let x = c.mix-x.ensures ∙ ap (mix 0) c.canonical_word.ensures in
    let y = c.mix-y.ensures ∙ (λ i. mix (x i) (c.canonical_word-2.ensures i)) in
    let z = c.mix-z.ensures ∙ (λ i. mix (y i) (c.canonical_word-3.ensures i)) in
    let h = c.stir-h.ensures ∙ ap stir (c.stir.ensures ∙ ap stir z) in
    ap (λ (h : ℕ). bit_and h (a.n - 1)) (c.wrapping_add_u64.ensures.value ∙ ap (folded_down 34) h)
