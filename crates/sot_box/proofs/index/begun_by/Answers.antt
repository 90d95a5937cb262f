use Rattle.std.proofs.Common.{rules}
use Rattle.std.specs.Prelude.{int_le}
use Rattle.std.proofs.lemmas.List.Sorted.{IsPartitionPoint-from_clause}
use Rattle.sot_box.proofs.Indexes.{parted_on_low, le_false}
use Rattle.sot_box.proofs.index.begun_by.Goals as goal

pub returns-clause-later : goal.returns-clause-later
returns-clause-later c =
    let parted = parted_on_low c.args.entries.now c.args.x c.requires in
    let point =
    IsPartitionPoint-from_clause (λ e. int_le e.low c.args.x) c.args.entries.now c.partition_point.result c.partition_point.ensures.partitioned parted
    (λ a r q k. search rules) in
    λ k d above below. le_false _ _ (point.1 k d above below)
