-- `scene::reader::put_permission` meets its contract. Assumes nothing.
use lib.Seq.{set_out}
use Rattle.std.proofs.Common.{sym}
use Rattle.scene.proofs.reader.put_permission.Goals as goal

pub returns-else-at-perms : goal.returns-else-at-perms
returns-else-at-perms c = sym (set_out c.args.perms.now c.args.n c.args.permission c.if-at-perms.false)
