use Rattle.std.proofs.Common.{refl, ◌∙◌, arith}
use Rattle.std.proofs.lemmas.List.{length-set}
use Rattle.std.proofs.lemmas.Option.{slice_get_within}
use Rattle.sot_lists.proofs.Places.{read_at}
use Rattle.sot_lang.specs.declared.tables.NodeInfo.{NodeInfo}
use Rattle.sot_guard.proofs.Untils.{flag_more}
use Rattle.sot_guard.proofs.due.leave_due_nodes.Goals as goal

pub loop-n-preserved : goal.loop-n-preserved
loop-n-preserved c =
    let nodes = c.args.nodes.now in
    let at = read_at nodes nodes c.loop-n.n c.index-nodes-n.result refl c.loop-n-test.true c.index-nodes-n.is in
    record {
      size = length-set c.loop-n.left c.loop-n.n c.is_due.result ∙ c.loop-n.invariant.size;
      done = flag_more (λ (x : NodeInfo). x.period) (λ x. x.offset) c.args.time nodes c.loop-n.n c.loop-n.left c.index-nodes-n.result c.is_due.result at
          (omega (arith, c.loop-n-test.true, c.loop-n.invariant.size)) c.is_due.ensures c.loop-n.invariant.done;
    }

pub returns-clause-left : goal.returns-clause-left
returns-clause-left c = λ n node at. c.loop-n.invariant.done n node (omega (arith, slice_get_within c.args.nodes.now n node at, c.loop-n-test.false)) at
