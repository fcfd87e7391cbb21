-- `scene_rules::zeros::zeros_from` meets its contract. Assumes nothing.
use Rattle.std.proofs.Common.{◌≡◌, ◌&&◌, drop}
use Rattle.scene_records.specs.Layout.{zeros}
use Rattle.scene_rules.proofs.zeros.zeros_from.Given as goal

-- the bytes before i are zero or not, and then those from i on
abbrev pub invariant-loop-i : goal.invariant-loop-i
invariant-loop-i l = zeros (drop l.from l.bytes) ≡ (l.all && zeros (drop l.i l.bytes))
