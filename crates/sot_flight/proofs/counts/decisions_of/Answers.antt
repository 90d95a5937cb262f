use Rattle.std.proofs.Common.{refl, arith}
use Rattle.std.proofs.lemmas.Option.{slice_get_read}
use Rattle.sot_flight.proofs.DueCounts.{decisions_more, decisions_small}
use Rattle.sot_flight.proofs.counts.decisions_of.Goals as goal

pub overflow_add-sum : goal.overflow_add-sum
overflow_add-sum c =
    let list = c.args.modules.now in
    let at = slice_get_read list _ c.loop-info.info-index c.info-item.result refl c.loop-info-test.true c.info-item.is in
    let more = decisions_more c.args.horizon list c.loop-info.info-index c.info-item.result at in
    let small = decisions_small c.args.horizon list c.requires.horizon in
    omega (arith, c.loop-info.invariant, more, small, c.requires.few, c.due_times-sum.ensures)
