use Rattle.std.proofs.Common.{ap, refl}
use Rattle.sot_lists.proofs.Places.{drop_at, read_at}
use Rattle.sot_trace.proofs.Putting.{piece_put}
use Rattle.sot_guard_lines.specs.Lines.{due_names}
use Rattle.sot_guard_lines.proofs.ready.put_due_names.Goals as goal

pub put_due_name-requires : goal.put_due_name-requires
put_due_name-requires g c =
    let nodes = c.args.nodes.now in
    c.requires c.loop-n.n _ (read_at nodes nodes c.loop-n.n _ refl c.loop-n-test.true c.index-nodes-n.is)

pub loop-n-preserved : goal.loop-n-preserved
loop-n-preserved g c = λ y rest.
    let nodes = c.args.nodes.now in
    let n = c.loop-n.n in
    let at = read_at nodes nodes n c.index-nodes-n.result refl c.loop-n-test.true c.index-nodes-n.is in
    piece_put g.O.Out.puts g.met.O.Out.more _ _ _ y _ _ _ _ c.put_due_name.ensures
    (ap (λ l. due_names l c.args.time) (drop_at nodes n c.index-nodes-n.result at)) (c.loop-n.invariant y) rest
