-- `search::turns::spin` meets its contract. The loop's invariant: the rooms are the state after so many expansions, with what the last of them came to.
use Rattle.std.proofs.Common.{◌<◌, ◌≤◌, ◌≡◌, refl, ◌∙◌, arith, le_trans, lt_of_lt_of_le}
use Rattle.std.specs.Float.{binary64}
use Rattle.std.specs.Float.Ieee.{of_bits}
use lib.ListN.{length-replicate}
use Rattle.outcomes.specs.declared.Turn.{Turn}
use Rattle.outcomes.specs.declared.Turn.TheVariants.{Rest, Going, At, By}
use Rattle.index.specs.Index.{extended}
use Rattle.index.proofs.Laws.{Longer, longer, indexed_same}
use Rattle.search.specs.Turns.{Settled}
use Rattle.search.proofs.Laws.Turns.{settled_none, settled_more, settled_on}
use Rattle.search.proofs.Laws.Steps.{ready_after}
use Rattle.search.proofs.Laws.Runs.{Ended, spun_none, spun_next, spun_over}
use Rattle.search.proofs.turns.spin.Goals as goal
use Rattle.search.proofs.turns.spin.Goals.{After-extend-known, After-first_busy-low}
use Rattle.rooms.specs.declared.Counts.{Counts}

-- a turn that is not `Going`
ended : (t : Turn) → ((d : Counts) → t ≡ Going d → ⊥) → Ended t
ended (Rest c) h = tt
ended (Going c) h = absurd (h c refl)
ended (At c k) h = tt
ended (By c k l) h = tt

pub loop-init : goal.loop-init
loop-init c = record {
  spun = spun_none _ _ c.requires.ready.few;
  entered = c.requires.indexed;
  few_known = omega arith;
  at_rest = settled_none _ _;
  few_resting = omega arith;
  tops = length-replicate 256 (of_bits binary64 0);
}

-- how far the index goes before an expansion
entered : (s : After-extend-known) → Longer s.loop.index s.loop.nodes s.loop.known s.in-Going.d.retained (extended s.loop.index s.loop.nodes s.loop.known s.in-Going.d.retained)
entered s =
    let u = rw s.in-Going.is at s.loop.invariant.spun in
    let l = rw s.in-Going.is at s.loop.invariant.few_known in
    longer s.in-Going.d.retained s.loop.invariant.entered l (omega (arith, u.near.few, s.requires.ready.numbered))

-- and how far the nodes are at rest
settled : (s : After-first_busy-low) → Settled s.loop.nodes s.loop.front s.first_busy-low.result × (s.first_busy-low.result ≤ s.in-Going.d.retained)
settled s =
    let l = rw s.in-Going.is at s.loop.invariant.few_resting in
    settled_more s.in-Going.d.retained s.loop.invariant.at_rest l s.first_busy-low.ensures

pub expand-turn-requires : goal.expand-turn-requires
expand-turn-requires c =
    let u = rw c.in-Going.is at c.loop.invariant.spun in
    let x = entered (goal.at.expand-turn-requires c).After-extend-known in
    let less : c.loop.counter < c.args.n = grind (arith, c.loop-test.true) in
    record {
      room_nonzero = omega (arith, c.loop.invariant.tops);
      ready = ready_after c.requires.ready u.near (omega (arith, less)) c.loop.auto.nodes c.loop.auto.front;
      goal_value = c.requires.goal_value;
      indexed = (rw (c.extend-known.ensures.1, c.extend-known.ensures.0) x.indexed, rw c.extend-known.ensures.0 x.most, (settled (goal.at.expand-turn-requires c).After-first_busy-low).0);
    }

pub loop-preserved : goal.loop-preserved
loop-preserved c =
    let u = rw c.in-Going.is at c.loop.invariant.spun in
    let x = entered (goal.at.loop-preserved c).After-extend-known in
    let e = c.expand-turn.ensures in
    let k = c.extend-known.ensures in
    let s = settled (goal.at.loop-preserved c).After-first_busy-low in
    let m : c.extend-known.result ≤ c.in-Going.d.retained = rw k.0 x.most in
    record {
      spun = spun_next c.loop.counter u e;
      entered = indexed_same (λ i h. e.still.feet i (lt_of_lt_of_le h m)) (rw (k.1, k.0) x.indexed);
      few_known = le_trans m e.near.more;
      at_rest = settled_on s.0 s.1 e.rest;
      few_resting = le_trans s.1 e.near.more;
      tops = c.expand-turn.auto.room ∙ c.loop.invariant.tops;
    }

pub returns-after-loop : goal.returns-after-loop
returns-after-loop c =
    let e : c.loop.counter ≡ c.args.n = grind (arith, c.loop-test.false, c.loop.auto.counter-end) in
    rw e at c.loop.invariant.spun

pub returns-in_default : goal.returns-in_default
returns-in_default c =
    let most : c.loop.counter ≤ c.args.n = grind (arith, c.loop.auto.counter-end) in
    spun_over c.loop.turn c.loop.counter c.args.n most (ended c.loop.turn c.in_default.not-Going) c.loop.invariant.spun
