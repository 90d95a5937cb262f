use Rattle.sot_tube.specs.Verdict.{code}
use Rattle.sot_rta.specs.Refused.{PassBefore}
use Rattle.sot_compose.proofs.check.check_codes.Given as goal

abbrev pub invariant-loop-node : goal.invariant-loop-node
invariant-loop-node l = PassBefore l.p.nodes (code l.p) l.node
