-- Of `add_fields`: that its loop keeps what it says.
use Rattle.sot_rules.specs.Names.{field_part}
use Rattle.sot_rules.proofs.NameTables.{sorts_more}
use Rattle.sot_rules.proofs.names.index.add_fields.Goals as goal

pub loop-f-preserved : goal.loop-f-preserved
loop-f-preserved c =
    sorts_more field_part c.args.fields.now c.loop-f.f-index c.f-item.result c.loop-f.table c.add_value.new.table _ _
    c.loop-f-test.true c.f-item.is c.loop-f.invariant c.in_ok-add_value.ensures c.as_bytes.ensures c.scalar_sort.ensures
