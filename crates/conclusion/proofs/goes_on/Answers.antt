-- `conclusion::goes_on` meets its contract. Assumes nothing.
use Rattle.std.proofs.Common.{ℕ, ◌≡◌, refl, sym, ap, ◌∙◌, false, List, arith, ltb}
use Rattle.rooms.specs.declared.Counts.{Counts}
use Rattle.outcomes.specs.declared.Turn.{Turn}
use Rattle.outcomes.specs.declared.Turn.TheVariants.{Rest, Going, At, By}
use Rattle.scans.specs.Laws.{next_from_lem}
use Rattle.conclusion.specs.GoesOn.{goes_on}
use Rattle.conclusion.proofs.goes_on.Goals as goal

-- a turn that is not `Going`
over : (g : List ℕ) (t : Turn) → ((c : Counts) → t ≡ Going c → ⊥) → false ≡ goes_on g t
over g (Rest c) h = refl
over g (Going c) h = absurd (h c refl)
over g (At c k) h = refl
over g (By c k l) h = refl

pub returns-in_default : goal.returns-in_default
returns-in_default c = over c.args.front.now c.args.turn c.in_default.not-Going

pub returns : goal.returns
returns c =
    let g = c.args.front.now in
    let n = c.in-Going.c.retained in
    ap (λ (m : ℕ). ltb m n) (c.pick.ensures ∙ next_from_lem 0 n g (λ j h. absurd (omega arith))) ∙ sym (ap (goes_on g) c.in-Going.is)
