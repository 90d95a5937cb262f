use Rattle.std.proofs.Common.{◌≡◌, drop}
use Rattle.sot_tube.specs.Certified.{command_interval}
use Rattle.sot_rta.proofs.commands.command.Given as goal

-- nothing before is drafted for the scalar
abbrev pub invariant-loop-i : goal.invariant-loop-i
invariant-loop-i l = command_interval l.p l.writes l.draft l.scalar ≡ command_interval l.p (drop l.i l.writes) (drop l.i l.draft) l.scalar
