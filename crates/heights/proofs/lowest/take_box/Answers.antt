-- `heights::lowest::take_box` meets its contract. Assumes nothing.
use Rattle.std.proofs.Common.{◌≡◌, refl, sym, ◌∙◌, Bool, true, false, ◌&&◌, cond, List, ℕ, Float}
use Rattle.heights.specs.Put.{put}
use Rattle.heights.proofs.lowest.take_box.Goals as goal

-- by the two tests together
both : {A : Type 0} (r n : Bool) (t f : A) → (r && n) ≡ true → cond r (cond n t f) f ≡ t
both true true t f e = refl
both true false t f e = cc
both false n t f e = cc

not_both : {A : Type 0} (r n : Bool) (t f : A) → (r && n) ≡ false → cond r (cond n t f) f ≡ f
not_both true true t f e = cc
not_both true false t f e = refl
not_both false n t f e = refl

pub returns-then-reaches_to-is_beyond : goal.returns-then-reaches_to-is_beyond
returns-then-reaches_to-is_beyond c =
    let a = c.args in
    let r = c.reaches_to in
    let n = c.is_beyond in
    let s : List Float × ℕ = (a.room.now, a.count) in
    record { result_after = rw (sym r.ensures, sym n.ensures) (c.put_top.ensures.result_after ∙ sym (both r.result n.result (put s a.b.max.y) s c.if-reaches_to-is_beyond.true)); upper_bound = c.put_top.ensures.upper_bound }

pub returns : goal.returns
returns c =
    let a = c.args in
    let r = c.reaches_to in
    let n = c.is_beyond in
    let s : List Float × ℕ = (a.room.now, a.count) in
    record { result_after = rw (sym r.ensures, sym n.ensures) (sym (not_both r.result n.result (put s a.b.max.y) s c.if-reaches_to-is_beyond.false)); upper_bound = c.requires }
