use Rattle.std.proofs.Common.{◌<◌, length, ap, arith}
use Rattle.sot_lists.proofs.Places.{at_map, read_at}
use Rattle.sot_flight.proofs.Merging.{pushed_more}
use Rattle.sot_flight.proofs.relaying.copy_rows.Goals as goal

pub loop-row-preserved : goal.loop-row-preserved
loop-row-preserved g c =
    let i = c.loop-row.row-index in
    let e = c.deref-row-items.ensures.value in
    let below : i < length c.args.rows.now.items = omega (arith, c.loop-row-test.true, ap length e) in
    let at = at_map (λ r. r.items) c.args.rows.now.items i _ (read_at _ _ i c.row-item.result e below c.row-item.is) in
    pushed_more (λ r. r.items) c.loop-row.found.items _ c.in_ok-copy_row.field-0 _ i _ _ c.in_ok-push.ensures.items c.in_ok-copy_row.ensures at
    c.loop-row.invariant
