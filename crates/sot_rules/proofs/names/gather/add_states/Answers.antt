-- Of `add_states`: that its loop keeps what it says, and its promises.
use Rattle.std.proofs.Common.{ap}
use Rattle.sot_rules.specs.Names.{alone, state_thing}
use Rattle.sot_rules.proofs.StandsFor.{alone_more, mapped_all}
use Rattle.sot_rules.proofs.names.gather.add_states.Goals as goal

pub loop-s-preserved : goal.loop-s-preserved
loop-s-preserved c =
    alone_more state_thing c.args.states.now c.loop-s.s-index c.s-item.result _ _ c.args.things.now c.loop-s.things c.add.new.table
    c.loop-s-test.true c.s-item.is c.loop-s.invariant c.in_ok-add.ensures c.as_bytes.ensures (ap alone c.state_sort.ensures)

pub returns : goal.returns
returns c tables xs stands =
    mapped_all tables state_thing xs c.args.states.now c.loop-s.s-index c.loop-s.things c.loop-s-test.false (c.loop-s.invariant tables xs stands)
