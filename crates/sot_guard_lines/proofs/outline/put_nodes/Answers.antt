use Rattle.std.proofs.Common.{ap, refl}
use Rattle.sot_lists.proofs.Places.{drop_at, read_at}
use Rattle.sot_trace.proofs.Putting.{piece_put}
use Rattle.sot_guard_lines.specs.Outline.{nodes_text}
use Rattle.sot_guard_lines.proofs.outline.put_nodes.Goals as goal

pub put_node-requires : goal.put_node-requires
put_node-requires g c =
    let xs = c.args.nodes.now in
    c.requires c.loop-n.n _ (read_at xs xs c.loop-n.n _ refl c.loop-n-test.true c.index-nodes-n.is)

pub loop-n-preserved : goal.loop-n-preserved
loop-n-preserved g c = λ y rest.
    let xs = c.args.nodes.now in
    let i = c.loop-n.n in
    let at = read_at xs xs i c.index-nodes-n.result refl c.loop-n-test.true c.index-nodes-n.is in
    piece_put g.O.Out.puts g.met.O.Out.more _ _ _ y _ _ _ _ c.put_node.ensures
    (ap (λ l. nodes_text c.args.p.now l) (drop_at xs i c.index-nodes-n.result at)) (c.loop-n.invariant y) rest
