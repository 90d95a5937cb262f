use Rattle.std.proofs.Common.{◌≡◌, ◌<◌, length, refl, arith}
use Rattle.std.proofs.lemmas.Option.{slice_get_read}
use Rattle.sot_workers.proofs.Going.{in_step_more, compared}
use Rattle.sot_workers.proofs.own.compare.Goals.{then-len-count, else-len-count, then-not-is_in_step, else-not-is_in_step}
use Rattle.sot_workers.proofs.own.compare.Goals as goal

pub loop-node-preserved : goal.loop-node-preserved
loop-node-preserved g c =
    let b = c.args.board.now in
    let lists = c.args.lists.now.items in
    let k = c.loop-node.node in
    let here = c.index.result.now in
    let size : length lists ≡ c.len-count.result = elim c.if-len-count.branch [
      | then-len-count w ↦ absurd w.stop.ensures
      | else-len-count w ↦ omega (arith, c.args.lists.now.ok.0)
    ] in
    let there : k < length lists = omega (arith, size) in
    in_step_more b c.args.away.now lists k here c.loop-node.invariant (slice_get_read lists (length lists) k here refl there c.index.ensures)
    (elim c.if-not-is_in_step.branch [
      | then-not-is_in_step w ↦ absurd w.stop-then-not-is_in_step.ensures
      | else-not-is_in_step w ↦ c.is_in_step.ensures w.if-not-is_in_step.false
    ])

pub returns : goal.returns
returns g c = λ seen on own.
    let b = c.args.board.now in
    let lists = c.args.lists.now.items in
    let k = c.loop-node.node in
    let size : length lists ≡ k = elim c.if-len-count.branch [
      | then-len-count w ↦ absurd w.stop.ensures
      | else-len-count w ↦ omega (arith, c.args.lists.now.ok.0)
    ] in
    compared b c.args.away.now lists k seen c.loop-node.invariant size on own
