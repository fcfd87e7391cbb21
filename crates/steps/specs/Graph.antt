-- The graph of 01 over the words of records. Definitions only.
use Rattle.std.specs.Prelude.{map}
use Rattle.world.specs.declared.Body.{Body}
use Rattle.world.specs.declared.Request.{Request}
use Rattle.world.specs.Space.{Space}
use Rattle.edges.specs.Edges.{connector}
use Rattle.exploration.specs.Graph.{Graph}
use Rattle.rooms.specs.declared.Feet.{Feet}
use Rattle.rooms.specs.declared.Label.{Label}
use Rattle.rooms.specs.Waypoints.{same_point, alike, standing}
use Rattle.words.specs.Words.{point_of, feet_of, step_of, label_if}
use Rattle.steps.specs.Columns.{steps_from}

-- the graph of a space, a request and a body
unfoldable pub graph : Space → Request → Body → Graph Feet Label
graph sp r body = record {
  same = same_point;
  alike = alike;
  start = feet_of r.start;
  start_label = standing;
  goal = feet_of r.goal;
  steps = λ p. map step_of (steps_from sp r body (point_of p));
  connector = λ p. label_if (connector sp r body (point_of p));
}
