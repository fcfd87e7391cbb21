-- `jump::jump_apex` meets its contract. The invariant: the answer for the whole jump is the answer for what is left of its ticks, from where it is now, and a jump that goes on after its last tick is endless. Assumes nothing.
use Rattle.std.proofs.Common.{◌≡◌, ◌-◌, ◌<◌, ◌≤◌, []}
use Rattle.jump.specs.Jump.{jump_apex, apex_of, after}
use Rattle.jump.proofs.jump_apex.Given as goal

abbrev pub invariant-loop : goal.invariant-loop
invariant-loop l = record {
  on_its_way : l.counter ≤ 65536 → jump_apex l.power l.gravity ≡ apex_of l.gravity (after (65536 - l.counter) l.gravity (record { height = l.height; velocity = l.velocity }));
  never_rests : 65536 < l.counter → jump_apex l.power l.gravity ≡ (6, []);
}
