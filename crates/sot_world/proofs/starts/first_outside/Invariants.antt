use Rattle.sot_world.specs.Opens.{StartInside}
use Rattle.sot_world.proofs.starts.first_outside.Given as goal

abbrev pub invariant-loop-m : goal.invariant-loop-m
invariant-loop-m l = StartInside l.p l.start l.m
