-- Of `add_parts`: that its loop keeps what it says.
use Rattle.sot_rules.specs.Names.{state_part}
use Rattle.sot_rules.proofs.NameTables.{sorts_more}
use Rattle.sot_rules.proofs.names.index.add_parts.Goals as goal

pub loop-s-preserved : goal.loop-s-preserved
loop-s-preserved c =
    sorts_more state_part c.args.states.now c.loop-s.s-index c.s-item.result c.loop-s.table c.add_value.new.table _ _
    c.loop-s-test.true c.s-item.is c.loop-s.invariant c.in_ok-add_value.ensures c.as_bytes.ensures c.state_sort.ensures
