-- `heights::lowest::put_top` meets its contract. Assumes nothing.
use Rattle.std.proofs.Common.{arith, ◌≤◌, ◌≡◌, ℕ, sym, ap, ◌∙◌, List, Float, length, length-set, set}
use Rattle.heights.specs.Put.{place_of, one_more, put_before, with_front}
use Rattle.heights.proofs.Put.{place_le, no_room, moved_up, fewer, no_fewer, no_more}
use Rattle.heights.proofs.lowest.put_top.Goals as goal
use Rattle.heights.proofs.lowest.put_top.Goals.{After-place_of-place}

-- how many there are then
ends : (s : After-place_of-place) → s.min-end.result ≡ one_more (length s.args.room.now) s.args.count
ends s = s.min-end.ensures ∙ fewer (length s.args.room.now) s.args.count s.requires

pub returns-then-end-place : goal.returns-then-end-place
returns-then-end-place c =
    let a = c.args in
    let n : ℕ = length a.room.now in
    let p : ℕ = place_of a.top a.room.now a.count in
    let e = ends (goal.at.returns-then-end-place c).After-place_of-place in
    let z : one_more n a.count ≡ p = omega (arith, e, c.place_of-place.ensures, place_le a.top a.room.now a.count, no_fewer n a.count) in
    let same = ap (λ (k : ℕ). with_front k (put_before p a.top a.room.now) a.room.now) z ∙ no_room a.top a.room.now p (omega (arith, place_le a.top a.room.now a.count)) in
    record { result_after = (λ i. (sym same i, e i)); upper_bound = omega (arith, e, no_more n a.count c.requires) }

pub returns : goal.returns
returns c =
    let a = c.args in
    let n : ℕ = length a.room.now in
    let p : ℕ = c.place_of-place.result in
    let e = ends (goal.at.returns c).After-place_of-place in
    let l : c.min-end.result ≤ n = omega (arith, e, no_more n a.count c.requires) in
    let moved = ap (λ (s : List Float). set s p a.top) c.copy_within.ensures.after ∙ moved_up a.top a.room.now p c.min-end.result c.if-end-place.false l in
    record {
      result_after = (λ i. ((moved ∙ (λ j. with_front (e j) (put_before (c.place_of-place.ensures j) a.top a.room.now) a.room.now)) i, e i));
      upper_bound = omega (arith, length-set c.copy_within.new.self p a.top, c.copy_within.ensures.len, l);
    }
