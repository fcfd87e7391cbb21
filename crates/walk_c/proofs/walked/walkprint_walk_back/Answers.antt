-- `walk_c::walked::walkprint_walk_back` meets its contract. Assumes nothing.
use Rattle.std.proofs.Common.{List, ℕ, Result}
use Rattle.walk_back.specs.declared.Denied.{Denied}
use Rattle.walk_back.specs.WalkBack.{walked_number, walked_places}
use Rattle.c_answers.specs.Answers.{place_written}
use Rattle.c_answers.specs.Laws.{told}
use Rattle.walk_c.proofs.walked.walkprint_walk_back.Goals as goal

abbrev written : Result (Unit {0}) Denied → List ℕ → List ℕ
written a old = place_written (walked_places a) old

pub returns : goal.returns
returns c =
    let w = told walked_number written c.args.place.now (rw c.query_in-query.ensures at c.walk_back.ensures)
    (c.put_walked.ensures.value, c.put_walked.ensures.place_after) in record { number = w.0; place = w.1 }
