-- The bytes that the answers of a search, of one in slices and of a walk-back leave in the slice that a caller lends for it.
use Rattle.std.specs.Prelude.{ℕ, List, [], ◌∷◌, Ok, Err}
use Rattle.fields.specs.Little.{with_field}
use Rattle.fields.specs.Records.{with_record}
use Rattle.rooms.specs.declared.Counts.{Counts}
use Rattle.outcomes.specs.declared.Answer.{Answer}
use Rattle.outcomes.specs.Outcomes.{Path, outcome_number}
use Rattle.outcomes.specs.declared.Slice.TheVariants.{Searching, Ended}
use Rattle.outcomes.specs.Ticks.{Tick, tick_number, counts_given}

-- the record of an answer, 32 bytes: outcome, count, retained and closed, four u64. Where they do not fit, nothing is written.
unfoldable pub answer_written : Answer → List ℕ → List ℕ
answer_written a old = with_record (8 ∷ 8 ∷ 8 ∷ 8 ∷ []) old 0 (outcome_number a.outcome ∷ a.count ∷ a.retained ∷ a.closed ∷ [])

-- of a mob's search the same record, and "8 .. write nothing"
abbrev pub path_written : Path → List ℕ → List ℕ
path_written (Ok a) old = answer_written a old
path_written (Err e) old = old

-- the record of a search in slices, 48 bytes: a number, the list's count, and retained, closed, pushed and dropped, six u64
unfoldable pub progress_written : ℕ → ℕ → Counts → List ℕ → List ℕ
progress_written number count c old = with_record (8 ∷ 8 ∷ 8 ∷ 8 ∷ 8 ∷ 8 ∷ []) old 0 (number ∷ count ∷ counts_given c)

-- A refusal leaves it as it is (02, No. 10: "nothing written"); a search that goes on has no list yet.
abbrev pub tick_written : Tick → List ℕ → List ℕ
tick_written (Err r) old = old
tick_written (Ok (Searching c)) old = progress_written (tick_number (Ok (Searching c))) 0 c old
tick_written (Ok (Ended o n c)) old = progress_written (tick_number (Ok (Ended o n c))) n c old

-- of a walk-back the place that goes with its answer, in the first 8 bytes; where they do not fit, or none goes with it, nothing is written
abbrev pub place_written : List ℕ → List ℕ → List ℕ
place_written [] old = old
place_written (place ∷ places) old = with_field 8 old 0 place
