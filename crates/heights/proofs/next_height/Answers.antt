-- `heights::next_height` meets its contract. Assumes nothing.
use Rattle.std.proofs.Common.{◌∙◌}
use Rattle.world.specs.Space.{space_of}
use Rattle.heights.specs.Heights.{tops, next_after}
use Rattle.heights.specs.Lowest.{height_at}
use Rattle.heights.proofs.BatchLaws.{one_next}
use Rattle.heights.proofs.next_height.Goals as goal

pub returns : goal.returns
unfolding next_after
returns c =
    let a = c.args in
    let l = c.lowest_tops-count.ensures in
    c.height_at.ensures ∙ (λ i. height_at (l.room_after i) (record { count = l.value i; at = 0 })) ∙ one_next a.after (tops (space_of a.world) a.shaft.band a.shaft.x a.shaft.z) _
