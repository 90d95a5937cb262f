use Rattle.std.proofs.Common.{◌≡◌, length}
use Rattle.sot_invariant_atoms.specs.Greatest.{KeepsHeldRegions}
use Rattle.sot_invariant_atoms.specs.Closed.{KeepsClosedSets}
use Rattle.sot_invariant_atoms.proofs.sweeps.sweep.Given as goal

abbrev pub invariant-loop-i : goal.invariant-loop-i
invariant-loop-i l = record {
  size : length l.set ≡ length l.initial.set;
  keeps : KeepsHeldRegions l.ask.program l.ask.jitter l.ask.info l.grid l.initial.set l.set;
  closed : KeepsClosedSets l.ask.program l.ask.jitter l.ask.info l.grid l.initial.set l.set;
}
