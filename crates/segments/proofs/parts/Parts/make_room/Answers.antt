-- `segments::parts::Parts::make_room` meets its contract. Assumes nothing.
use Rattle.std.proofs.Common.{ℕ, ◌≡◌, List, length, take, drop, sym, ◌∙◌, arith, length-drop}
use Rattle.std.proofs.lemmas.List.{take_all, length-take}
use Rattle.std.proofs.lemmas.List.Edits.{take-paste}
use Rattle.std.proofs.lemmas.List.Elements.{All-drop}
use Rattle.std.specs.List.{copy_within}
use mathlib.Core.List.{Memᴰ}
use Rattle.support.specs.declared.Interval.{Interval}
use Rattle.segments.proofs.parts.Parts.make_room.Goals as goal

-- of so many places the nearer half, moved to the front
nearer : (places new : List Interval) (count : ℕ) → length places ≡ 1024 → count ≡ 1024 → new ≡ copy_within places 512 1024 0 → take 512 new ≡ drop 512 (take count places)
nearer places new count l z e =
    rw (e, z, take_all 1024 places (omega arith))
    (take-paste places 0 (drop 512 places) 512 (omega arith) (omega (arith, length-drop 512 places)) ∙ take_all 512 (drop 512 places) (omega (arith, length-drop 512 places)))

pub returns-clause-gathers : goal.returns-clause-gathers
returns-clause-gathers c =
    let s = c.self.inside in
    let e = nearer s.places c.copy_within.new.self s.count (omega arith) (omega (arith, c.self.invariant)) c.copy_within.ensures.after in
    record { all = λ is f o. rw e (All-drop (λ i. Memᴰ i is) 512 _ (rw (sym c.self.view_is) at o)) }

pub returns-clause-room : goal.returns-clause-room
returns-clause-room c = omega (arith, length-take 512 c.copy_within.new.self)
