use Rattle.std.proofs.Common.{◌≡◌, ◌+◌, drop}
use Rattle.sot_flight.specs.Counts.{draft_numbers}
use Rattle.sot_flight.proofs.counts.drafts_of.Given as goal

abbrev pub invariant-loop-node : goal.invariant-loop-node
invariant-loop-node l = l.sum + draft_numbers l.horizon (drop l.node-index l.nodes) ≡ draft_numbers l.horizon l.nodes
