use Rattle.std.proofs.Common.{◌≡◌, ◌+◌, drop}
use Rattle.sot_flight.specs.Counts.{decision_count}
use Rattle.sot_flight.proofs.counts.decisions_of.Given as goal

abbrev pub invariant-loop-info : goal.invariant-loop-info
invariant-loop-info l = l.sum + decision_count l.horizon (drop l.info-index l.modules) ≡ decision_count l.horizon l.modules
