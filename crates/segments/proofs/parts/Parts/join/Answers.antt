-- `segments::parts::Parts::join` meets its contract. Assumes nothing.
use Rattle.std.proofs.Common.{Some}
use Rattle.std.proofs.lemmas.List.Elements.{All-pop}
use mathlib.Core.List.{Memᴰ}
use Rattle.support.specs.Cover.{joins}
use Rattle.support.specs.Joints.{joined_none, joined_on}
use Rattle.segments.proofs.parts.Parts.join.Goals as goal

pub loop-part-init : goal.loop-part-init
loop-part-init c = record { joined = joined_none _ _; left = λ is o. rw (c.into_iter-part-iterator.ensures.into_iter_gives, c.rev-part-items.ensures.source, c.iter.ensures.rest, c.self.view_is) o }

pub loop-part-preserved : goal.loop-part-preserved
unfolding joins
loop-part-preserved c =
    let i = c.loop-part.invariant in
    record {
      joined = rw c.max-so_far.ensures (joined_on c.in-Some.part.now (λ is o. (All-pop (λ i. Memᴰ i is) _ _ (Some c.in-Some.part.now) c.in-Some.ensures.steps (i.left is o)).1) (cc) i.joined);
      left = λ is o. (All-pop (λ i. Memᴰ i is) _ _ (Some c.in-Some.part.now) c.in-Some.ensures.steps (i.left is o)).0;
    }
