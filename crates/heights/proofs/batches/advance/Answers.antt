-- `heights::batches::advance` meets its contract. Assumes nothing.
use Rattle.std.proofs.Common.{arith, ℕ, ◌-◌, ◌≡◌, sym, ap, ◌∙◌, ◌||◌, ltb, length}
use Rattle.heights.specs.Lowest.{first_from, batch_count, place_in, moved_on}
use Rattle.heights.proofs.BatchLaws.{batch_count_le, fewest}
use Rattle.heights.proofs.batches.advance.Goals as goal
use Rattle.heights.proofs.batches.advance.Goals.{After-first_beyond-at, After-min-count}

-- how many the batch has
fill : (s : After-min-count) → s.min-count.result ≡ batch_count s.args.room.now s.args.b
fill s = s.min-count.ensures ∙ fewest s.args.b.count (length s.args.room.now)

-- and the place that it is moved on to
place : (s : After-first_beyond-at) → s.min-count.result ≡ batch_count s.args.room.now s.args.b → s.first_beyond-at.result ≡ place_in s.args.after s.args.room.now s.args.b
place s e = let a = s.args in s.first_beyond-at.ensures ∙ ap (λ (k : ℕ). first_from a.after a.room.now a.b.at (k - a.b.at)) e

pub first_beyond-at-requires : goal.first_beyond-at-requires
first_beyond-at-requires c =
    omega (arith, fill (goal.at.first_beyond-at-requires c).After-min-count, batch_count_le c.args.room.now c.args.b)

pub returns-then-at-count : goal.returns-then-at-count
unfolding moved_on
returns-then-at-count c =
    let a = c.args in
    let e = fill (goal.at.returns-then-at-count c).After-min-count in
    let p = place (goal.at.returns-then-at-count c).After-first_beyond-at e in
    let t = sym (λ i. ltb (p i) (e i) || ltb a.b.count (length a.room.now)) ∙ c.if-at-count.true in
    rw t (λ i. (a.room.now, record { count = e i; at = p i }))

pub returns : goal.returns
unfolding moved_on
returns c =
    let a = c.args in
    let e = fill (goal.at.returns c).After-min-count in
    let p = place (goal.at.returns c).After-first_beyond-at e in
    let t = sym (λ i. ltb (p i) (e i) || ltb a.b.count (length a.room.now)) ∙ c.if-at-count.false in
    let l = c.lowest_tops-count.ensures in
    rw t (λ i. (l.room_after i, record { count = l.value i; at = 0 }))
