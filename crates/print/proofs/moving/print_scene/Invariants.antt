-- `print::moving::print_scene` ends: the tables keep their lengths, and each record leaves fewer bytes. Assumes nothing.
use Rattle.std.proofs.Common.{◌≡◌, length}
use Rattle.print.proofs.moving.print_scene.Given as goal

abbrev pub invariant-loop-record : goal.invariant-loop-record
invariant-loop-record g l = (length l.cells ≡ 32768) × (length l.perms ≡ 256) × (length l.shapes ≡ 2048) × (length l.boxes ≡ 12288) × (length l.record ≡ 64)

abbrev pub decreases-loop-record : goal.decreases-loop-record
decreases-loop-record g l = l.left
