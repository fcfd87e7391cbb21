-- `root::root` meets its contract: its tests sort x (`Sorts`), and each of its three answers is `answer x`, so the answer of `Answers` too. Assumes nothing.
use mathlib.Core.Path.{sym, ap, ◌∙◌, subst}
use lib.Dec.{T}
use lib.Ieee.{binary64, fits}
use Rattle.std.specs.Prelude.{Some, None}
use Rattle.root.specs.Root.{value}
use Rattle.root.proofs.Sorts.{zero_answer, finite_above, root_answer, refused_answer, both}
use Rattle.root.proofs.root.Goals as goal
use Rattle.root.proofs.root.Goals.{Start}

-- what owning an `f64` tells: the format holds it
held : (c : Start) → T (fits binary64 c.args.x)
held c = subst T (sym c.well_formed.0.1) tt

pub returns-then-x : goal.returns-then-x
returns-then-x c = let p = both _ (Some c.args.x) (held (goal.at.returns-then-x c).Start) (zero_answer c.args.x c.if-x.true) in record { is_root = p.0; is_answer = p.1 }

pub nearest_root-requires : goal.nearest_root-requires
nearest_root-requires c = finite_above _ c.if-x-infinity.true

pub returns-then-x-infinity : goal.returns-then-x-infinity
returns-then-x-infinity c =
    let x = c.args.x in
    let p = both _ (Some c.nearest_root.result) (held (goal.at.returns-then-x-infinity c).Start) (ap value c.nearest_root.ensures ∙ root_answer x (finite_above x c.if-x-infinity.true)) in record { is_root = p.0; is_answer = p.1 }

pub returns : goal.returns
returns c = let p = both _ None (held (goal.at.returns c).Start) (refused_answer c.args.x c.if-x.false c.if-x-infinity.false) in record { is_root = p.0; is_answer = p.1 }
