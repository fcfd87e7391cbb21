-- `policy::policy::WalkPolicy::fill_permissions` meets its contract. The invariant: the first i bytes are those of the first i flag bytes, the rest as it came. Assumes nothing.
use Rattle.std.proofs.Common.{◌∙◌, arith, length, eq-eqb, ne_eqb}
use Rattle.policy.specs.Permission.{permission}
use Rattle.policy.specs.PermissionLaws.{maps_more, maps_all}
use Rattle.policy.proofs.policy.WalkPolicy.fill_permissions.Goals as goal

pub returns-then-flags-permissions : goal.returns-then-flags-permissions
returns-then-flags-permissions c = let e = ne_eqb _ _ c.if-flags-permissions.true in record { answer = rw e; written = rw e }

pub loop-i-preserved : goal.loop-i-preserved
loop-i-preserved c =
    let at = c.loop-i in
    rw (c.permission.ensures, at.invariant) (maps_more (permission c.args.self c.args.in_water) at.i c.args.flags.now c.args.permissions.now (omega arith) (omega arith))

pub returns : goal.returns
returns c =
    let e = eq-eqb (length c.args.flags.now) (length c.args.permissions.now) (omega arith) in record {
      answer = rw e;
      written = rw e (c.loop-i.invariant ∙ maps_all (permission c.args.self c.args.in_water) c.loop-i.i c.args.flags.now c.args.permissions.now (omega arith) (omega arith));
    }
