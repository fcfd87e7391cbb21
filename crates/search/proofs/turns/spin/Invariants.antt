-- `search::turns::spin` meets its contract. The loop's invariant: the rooms are the state after so many expansions, with what the last of them came to.
use Rattle.std.proofs.Common.{◌≤◌, ◌≡◌, length}
use Rattle.world.specs.Space.{space_of}
use Rattle.outcomes.specs.Outcomes.{counts_of}
use Rattle.index.specs.Indexed.{Indexed}
use Rattle.search.specs.Turns.{Settled}
use Rattle.search.specs.Runs.{Spun}
use Rattle.search.proofs.turns.spin.Given as goal

-- Assumes nothing.
abbrev pub invariant-loop : goal.invariant-loop
invariant-loop l = record {
  spun : Spun l.task.aim (space_of l.task.query.world) l.task.query.request l.task.query.body (counts_of l.initial.turn) l.counter l.turn l.initial.nodes l.initial.front l.nodes l.front;
  entered : Indexed l.index l.nodes l.known;
  few_known : l.known ≤ (counts_of l.turn).retained;
  at_rest : Settled l.nodes l.front l.low;
  few_resting : l.low ≤ (counts_of l.turn).retained;
  tops : length l.room ≡ 256;
}
