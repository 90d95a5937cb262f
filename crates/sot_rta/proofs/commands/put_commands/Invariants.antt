use Rattle.std.proofs.Common.{◌≡◌, length, take}
use Rattle.std.specs.Prelude.{map}
use Rattle.sot_tube.specs.Certified.{command_interval}
use Rattle.sot_rta.proofs.commands.put_commands.Given as goal

abbrev pub invariant-loop-i : goal.invariant-loop-i
invariant-loop-i l = record {
  size : length l.sides ≡ length l.initial.sides;
  put : take l.i l.sides ≡ map (command_interval l.p l.writes l.draft) (take l.i l.inputs);
}
