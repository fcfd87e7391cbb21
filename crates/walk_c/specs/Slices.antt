-- What the calls of a search in slices answer and leave (02, No. 10), of the records that they are handed. Definitions only, and that a call's answer is told right.
use Rattle.std.specs.Prelude.{ℕ, ◌≡◌, List}
use Rattle.std.proofs.Common.{ap, ◌∙◌}
use Rattle.rooms.specs.declared.Counts.{Counts}
use Rattle.outcomes.specs.Ticks.{Tick, tick_number, Ticked, Gives}
use Rattle.outcomes.proofs.Unique.{one_tick}
use Rattle.openings.specs.Openings.{begun_search}
use Rattle.search.specs.Ticks.{continued_search}
use Rattle.c_records.specs.Records.{window_in, body_in}
use Rattle.c_records.specs.Asked.{asked}
use Rattle.c_answers.specs.Answers.{tick_written}

unfoldable pub begun_in : (window cells permissions shapes boxes request body nodes front out : List ℕ) → Ticked
begun_in window cells permissions shapes boxes request body nodes front out =
    begun_search (window_in window) cells permissions shapes boxes (asked window request body) (body_in body) nodes front out

-- "the counts (retained, closed, pushed, dropped) pass by value"
unfoldable pub continued_in : (window cells permissions shapes boxes request body nodes front out : List ℕ) → Counts → ℕ → Ticked
continued_in window cells permissions shapes boxes request body nodes front out c n =
    continued_search (window_in window) cells permissions shapes boxes (asked window request body) (body_in body) nodes front out c n

-- what a call answers with a number, a progress record in its old bytes, and three rooms
pub record Sliced (h : Ticked) (number : ℕ) (old progress nodes front out : List ℕ) : Type 0 where
  pub answer : number ≡ tick_number h.tick
  pub record_is : progress ≡ tick_written h.tick old
  pub node_room_lem : nodes ≡ h.nodes
  pub front_room_lem : front ≡ h.front
  pub output : out ≡ h.out

pub sliced : {h : Ticked} {t : Tick} {number : ℕ} {progress nodes front out : List ℕ} (old : List ℕ) → Gives h t nodes front out →
    (number ≡ tick_number t) × (progress ≡ tick_written t old) → Sliced h number old progress nodes front out
sliced {h} {t} old holds (n, p) =
    let e = one_tick t h.tick holds.answer in
    record { answer = n ∙ ap tick_number e; record_is = p ∙ ap (λ (x : Tick). tick_written x old) e; node_room_lem = holds.node_room_lem; front_room_lem = holds.front_room_lem; output = holds.output }
