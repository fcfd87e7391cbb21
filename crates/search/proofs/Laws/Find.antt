-- The public call: what each way out of `judge` answers and leaves.
use Rattle.std.specs.Prelude.{◌≡◌, List, ℕ, length}
use Rattle.std.proofs.Common.{sym}
use Rattle.std.proofs.Math.Option.{Option}
use Rattle.world.specs.declared.Body.{Body}
use Rattle.world.specs.declared.Request.{Request}
use Rattle.world.specs.declared.Window.{Window}
use Rattle.outcomes.specs.declared.Outcome.{Outcome}
use Rattle.outcomes.specs.declared.Answer.{Answer}
use Rattle.search.specs.FindWalkPath.{answer_by, before_search, nodes_by, zero_by, out_by, found, nodes_after, front_after, index_after, out_after}

module _ (w : Window) (cells perms shapes boxes : List ℕ) (r : Request) (body : Body) (nodes front index out : List ℕ) {a : Answer} {b g y x : List ℕ} where
  pub leaves : (way : Option Outcome) → way ≡ before_search w cells perms shapes boxes r body (length nodes) (length front) (length index) (length out) →
      a ≡ answer_by w cells perms shapes boxes r body way → b ≡ nodes_by w cells perms shapes boxes r body way nodes →
      x ≡ out_by w cells perms shapes boxes r body way out → g ≡ zero_by w cells perms shapes boxes r body way front → y ≡ zero_by w cells perms shapes boxes r body way index →
      (a ≡ found w cells perms shapes boxes r body (length nodes) (length front) (length index) (length out)) ×
      ((b ≡ nodes_after w cells perms shapes boxes r body nodes front index out) ×
      ((g ≡ front_after w cells perms shapes boxes r body nodes front index out) ×
      ((y ≡ index_after w cells perms shapes boxes r body nodes front index out) ×
      (x ≡ out_after w cells perms shapes boxes r body nodes front index out))))
  unfolding found nodes_after front_after index_after out_after
  leaves way e i j l k m = rw (sym e) (i, (j, (k, (m, l))))
