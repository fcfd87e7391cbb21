-- `policy::policy::WalkPolicy::fill_permissions` meets its contract. The invariant: the first i bytes are those of the first i flag bytes, the rest as it came. Assumes nothing.
use Rattle.std.proofs.Common.{◌≡◌, map, ◌++◌, take, drop}
use Rattle.policy.specs.Permission.{permission}
use Rattle.policy.proofs.policy.WalkPolicy.fill_permissions.Given as goal

abbrev pub invariant-loop-i : goal.invariant-loop-i
invariant-loop-i l = l.permissions ≡ map (permission l.self l.in_water) (take l.i l.flags) ++ drop l.i l.initial.permissions
