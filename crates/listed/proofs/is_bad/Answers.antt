-- `listed::is_bad` meets its contract. Assumes nothing.
use Rattle.std.proofs.Common.{refl, arith, rules, tests, ◌∙◌, ◌/◌, length}
use Rattle.std.proofs.lemmas.Iterator.{YieldsList-from_range}
use Rattle.std.proofs.lemmas.Iterator.Search.{any_from_yields_List}
use Rattle.rooms.specs.Records.{waypoint_at}
use Rattle.listed.specs.Listed.{entry, waypoints, above3, bad_list}
use Rattle.listed.specs.Laws.{any_above}
use Rattle.listed.proofs.is_bad.Goals as goal

pub returns-then-list : goal.returns-then-list
unfolding bad_list
returns-then-list c = rw c.if-list.true

pub returns : goal.returns
unfolding bad_list waypoints
returns c =
    let s = c.args.list.now in
    let n = length s / 48 in
    rw c.if-list.false
    (any_from_yields_List (λ k. above3 (entry (waypoint_at s k))) _ _ c.any.result c.any.ensures.ran (YieldsList-from_range 0 n n refl (omega arith)) (λ x b q k. search (rules, tests)) ∙ any_above s 0 n)
