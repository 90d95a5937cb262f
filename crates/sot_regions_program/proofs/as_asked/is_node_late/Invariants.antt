use Rattle.sot_rta.specs.Refused.{PassBefore}
use Rattle.sot_regions_program.proofs.Late.{node_in_time}
use Rattle.sot_regions_program.proofs.as_asked.is_node_late.Given as goal

abbrev pub invariant-loop-node : goal.invariant-loop-node
invariant-loop-node l = PassBefore l.p.nodes (node_in_time l.jitter) l.node
