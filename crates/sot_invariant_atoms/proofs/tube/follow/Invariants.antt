use Rattle.sot_invariant_atoms.proofs.Followed.{FollowedTo}
use Rattle.sot_invariant_atoms.proofs.tube.follow.Given as goal

abbrev pub invariant-loop-tick : goal.invariant-loop-tick
invariant-loop-tick l = FollowedTo l.grid l.set l.initial.walk l.walk l._tick l.found
