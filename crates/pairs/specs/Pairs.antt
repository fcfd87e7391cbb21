-- Why a pair of a list is none of the graph's (02, No. 3). Definitions only.
use Rattle.std.specs.Prelude.{ℕ, Bool, cond, Result, Ok, Err}
use Rattle.exploration.specs.WalkBack.{joined}
use Rattle.world.specs.declared.Body.{Body}
use Rattle.world.specs.declared.Request.{Request}
use Rattle.world.specs.Space.{Space}
use Rattle.moves.specs.declared.answer.Reason.{Reason}
use Rattle.moves.specs.declared.answer.Waypoint.{Waypoint}
use Rattle.moves.specs.Moves.{reason_number}
use Rattle.edges.specs.Reasons.{edge_check}
use Rattle.rooms.specs.declared.Feet.{Feet}
use Rattle.words.specs.Words.{point_of, label_of}
use Rattle.steps.specs.Graph.{graph}
use Rattle.pairs.specs.declared.PairFault.{PairFault}
use Rattle.pairs.specs.declared.PairFault.TheVariants.{NoEdge, NotAStep, WrongLabel}

-- the edge's reasons keep their numbers, 101 to 109; a pair's own are 117 and 118
abbrev pub pair_number : PairFault → ℕ
pair_number (NoEdge why) = reason_number why
pair_number NotAStep = 117
pair_number WrongLabel = 118

module _ (sp : Space) (r : Request) (body : Body) where
  -- "the edge's reason, not a graph step (nor, at the last pair, a connector), wrong movement or lift": of a pair that is none of the graph's, by its edge. It is
  -- a graph step, or at the last pair a connector, where it is one with its own edge's movement, lift and door; then the record's are wrong. (02, No. 5: "A route must
  -- carry the right door too (else No. 3's wrong movement or lift)".)
  abbrev pub pair_fault_by : Bool → Feet → Feet → Result Waypoint Reason → PairFault
  pair_fault_by last p q (Err why) = NoEdge why
  pair_fault_by last p q (Ok step) = cond (joined (graph sp r body) last p (q, label_of step)) WrongLabel NotAStep

  unfoldable pub pair_fault : Bool → Feet → Feet → PairFault
  pair_fault last p q = pair_fault_by last p q (edge_check sp r body (point_of p) (point_of q))
