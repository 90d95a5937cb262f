use Rattle.std.proofs.Common.{rules, arith, ◌≡◌, length}
use Rattle.sot_tube.specs.Verdict.{code}
use Rattle.sot_rta.proofs.Loops.{next_passes, all_pass}
use Rattle.sot_compose.proofs.check.check_codes.Goals as goal

pub loop-node-preserved : goal.loop-node-preserved
loop-node-preserved c =
    next_passes c.args.p.now.nodes (code c.args.p.now) c.loop-node.node c.node_at.result.now c.node_at.ensures.is c.in_default.ensures c.loop-node.invariant

pub returns : goal.returns
returns c =
    let few : c.len-node-end.result ≡ length c.args.p.now.nodes = search rules in
    all_pass c.args.p.now.nodes (code c.args.p.now) c.loop-node.node (omega (arith, few, c.loop-node-test.false)) c.loop-node.invariant
