-- `root::nearest::nearest_root` meets its contract: the pattern that it makes is a root by `right_at` of the laws, and there is one root only. Assumes nothing.
use native.Mathlib.Omega.{arith}
use mathlib.Core.Path.{sym, subst}
use Prim.Native.Nat.{ℕ, ◌+◌, ◌^◌, ◌<◌, ◌≤◌}
use lib.Dec.{T}
use lib.Ieee.{Float, binary64, fits}
use lib.Ieee.Bits.{of_bits-to_bits}
use Rattle.root.specs.Method.{Scaled}
use Rattle.root.specs.Near.{bounds}
use Rattle.root.proofs.Digits.{no_nan, bits_lt, bits_pos, evened, evened_whole, no_nan_bits, right_root}
use Rattle.root.proofs.nearest.nearest_root.Goals as goal
use Rattle.root.proofs.nearest.nearest_root.Goals.{After-scaled-s, After-whole_root-r, Start}

-- what owning an `f64` tells: the format holds it
held : (c : Start) → T (fits binary64 c.args.x)
held c = subst T (sym c.well_formed.0.1) tt

-- what `scaled` says of x's pattern, of x
parts : (c : After-scaled-s) → T (fits binary64 c.args.x) → Scaled c.args.x c.scaled-s.result.m c.scaled-s.result.e
parts c h =
    subst (λ (x : Float). Scaled x c.scaled-s.result.m c.scaled-s.result.e) (of_bits-to_bits binary64 c.args.x h) c.scaled-s.ensures

within : (c : After-whole_root-r) → (2 ^ 53 ≤ c.whole_root-r.result) × (c.whole_root-r.result + 1 < 2 ^ 54)
within c =
    let s = c.scaled-s.ensures in
    let m = c.scaled-s.result.m in
    let e = c.scaled-s.result.e in
    bounds m e c.whole_root-r.result s.full s.small (evened_whole m e c.whole_root-r.result s.small c.whole_root-r.ensures)

pub float_to_bits-b : goal.float_to_bits-b
float_to_bits-b c = no_nan c.args.x c.requires

pub scaled-s-requires : goal.scaled-s-requires
scaled-s-requires c = (bits_pos c.args.x (held c) c.requires, bits_lt c.args.x (held c) c.requires)

pub whole_root-r-requires : goal.whole_root-r-requires
whole_root-r-requires c =
    let w = evened c.scaled-s.result.m c.scaled-s.result.e c.scaled-s.ensures.small in
    subst (λ (n : ℕ). n < 2 ^ 54) (sym w.0) w.1

pub overflow_add-q : goal.overflow_add-q
overflow_add-q c = omega (arith, within c)

pub float_from_bits-result : goal.float_from_bits-result
float_from_bits-result c = no_nan_bits _ (omega (arith, within c, c.scaled-s.ensures.high))

pub returns : goal.returns
returns c = right_root c.args.x c.scaled-s.result.m c.scaled-s.result.e c.whole_root-r.result (held (goal.at.returns c).Start) c.requires (parts (goal.at.returns c).After-scaled-s (held (goal.at.returns c).Start)) c.whole_root-r.ensures
