use Rattle.std.proofs.Common.{◌<◌, length, refl, ap, subst, arith}
use Rattle.std.proofs.lemmas.Option.{slice_get_read}
use Rattle.sot_lists.specs.Places.{At}
use Rattle.sot_bridge.proofs.Writers.{sends_more, sends_small}
use Rattle.sot_bridge.proofs.counting.most_sends.Goals as goal

pub node_sends-sum-requires-clause-inside : goal.node_sends-sum-requires-clause-inside
node_sends-sum-requires-clause-inside c =
    let below : c.loop-n.n < length c.p.inside.nodes.items = omega (arith, c.loop-n-test.true, c.len-n-end.ensures, c.p.inside.nodes.ok.0) in
    let at = slice_get_read c.p.inside.nodes.items _ c.loop-n.n c.index.result.now refl below c.index.ensures in
    let size = ap (λ t. length t.scalars) c.p.view_is in
    λ k has. (let there = c.p.invariant.typed.inside c.loop-n.n _ k at has in omega (arith, there, size))

pub overflow_add-sum : goal.overflow_add-sum
overflow_add-sum c =
    let below : c.loop-n.n < length c.p.inside.nodes.items = omega (arith, c.loop-n-test.true, c.len-n-end.ensures, c.p.inside.nodes.ok.0) in
    let few = c.p.invariant.node_count in
    let one = sends_small c.args.p.now c.args.topic c.args.horizon c.index.result.now c.requires in
    let is = c.node_sends-sum.ensures in
    let so_far = c.loop-n.invariant.small in
    omega (arith, below, few, one, is, so_far)

pub loop-n-preserved : goal.loop-n-preserved
loop-n-preserved c =
    let below : c.loop-n.n < length c.p.inside.nodes.items = omega (arith, c.loop-n-test.true, c.len-n-end.ensures, c.p.inside.nodes.ok.0) in
    let at = subst (λ t. At t.nodes c.loop-n.n c.index.result.now) c.p.view_is
    (slice_get_read c.p.inside.nodes.items _ c.loop-n.n c.index.result.now refl below c.index.ensures) in
    let more = sends_more c.args.p.now c.args.topic c.args.horizon c.args.p.now.nodes c.loop-n.n c.index.result.now at in
    let one = sends_small c.args.p.now c.args.topic c.args.horizon c.index.result.now c.requires in
    let is = c.node_sends-sum.ensures in
    let so_far = c.loop-n.invariant.rest in
    let small = c.loop-n.invariant.small in
    record { rest = omega (arith, more, is, so_far); small = omega (arith, one, is, small) }
