use Rattle.std.proofs.Common.{◌≡◌, ◌+◌, drop}
use Rattle.sot_flight.specs.Counts.{firing_count}
use Rattle.sot_workers.proofs.rule.firings_of.Given as goal

abbrev pub invariant-loop-node : goal.invariant-loop-node
invariant-loop-node l = l.sum + firing_count l.horizon (drop l.node-index l.nodes) ≡ firing_count l.horizon l.nodes
