use Rattle.std.proofs.Common.{arith}
use Rattle.sot_report.proofs.Counts.{few_so_far}
use Rattle.sot_report.proofs.accepted.cell_count.Goals as goal

pub overflow_add-count : goal.overflow_add-count
overflow_add-count c =
    let so_far = few_so_far c.args.entries.now c.loop-entry.entry-index c.loop-entry.count c.entry-item.result c.requires.few c.requires.entries
    c.loop-entry-test.true c.entry-item.is c.loop-entry.invariant in
    omega (arith, so_far, c.entry_count-count.ensures)
