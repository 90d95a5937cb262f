use Rattle.std.proofs.Common.{◌≡◌, ◌≤◌, ◌*◌, length, refl, ap, ◌∙◌, arith}
use Rattle.std.proofs.lemmas.Option.{slice_get_read}
use Rattle.std.proofs.Math.Nat.{mul-le-mul_left}
use Rattle.sot_flight.specs.Counts.{due_count}
use Rattle.sot_flight.proofs.DueCounts.{drafts_more, drafts_small, due_small}
use Rattle.sot_flight.proofs.counts.drafts_of.Goals as goal

pub overflow_mul-sum : goal.overflow_mul-sum
overflow_mul-sum c =
    let list = c.args.nodes.now in
    let node = c.node-item.result in
    let at = slice_get_read list _ c.loop-node.node-index node refl c.loop-node-test.true c.node-item.is in
    let few : c.len.result ≤ 8 = omega (arith, c.requires.writes c.loop-node.node-index node at, c.len.ensures, node.writes.ok.0) in
    omega (arith, mul-le-mul_left c.due_times.result few, c.due_times.ensures, due_small node.period node.offset c.args.horizon, c.requires.horizon)

pub overflow_add-sum : goal.overflow_add-sum
overflow_add-sum c =
    let list = c.args.nodes.now in
    let node = c.node-item.result in
    let at = slice_get_read list _ c.loop-node.node-index node refl c.loop-node-test.true c.node-item.is in
    let more = drafts_more c.args.horizon list c.loop-node.node-index node at in
    let small = drafts_small c.args.horizon list c.requires.horizon c.requires.writes in
    let len : c.len.result ≡ length node.writes.items = omega (arith, c.len.ensures, node.writes.ok.0) in
    let product : c.due_times.result * c.len.result ≡ due_count node.period node.offset c.args.horizon * length node.writes.items =
    ap (λ n. n * c.len.result) c.due_times.ensures ∙ ap (λ n. due_count node.period node.offset c.args.horizon * n) len in
    omega (arith, c.loop-node.invariant, more, small, c.requires.few, product)

pub returns-clause-small : goal.returns-clause-small
returns-clause-small c =
    let small = drafts_small c.args.horizon c.args.nodes.now c.requires.horizon c.requires.writes in
    omega (arith, c.loop-node.invariant, small, c.requires.few)
