-- Of `add_noise`: that its loop keeps what it says, and its promises.
use Rattle.std.proofs.Common.{ap}
use Rattle.sot_rules.specs.Names.{alone, noise_thing}
use Rattle.sot_rules.proofs.StandsFor.{alone_more, mapped_all}
use Rattle.sot_rules.proofs.names.gather.add_noise.Goals as goal

pub loop-f-preserved : goal.loop-f-preserved
loop-f-preserved c =
    alone_more noise_thing c.args.noise.now c.loop-f.f-index c.f-item.result _ _ c.args.things.now c.loop-f.things c.add.new.table
    c.loop-f-test.true c.f-item.is c.loop-f.invariant c.in_ok-add.ensures c.as_bytes.ensures (ap alone c.scalar_sort.ensures)

pub returns : goal.returns
returns c tables xs stands =
    mapped_all tables noise_thing xs c.args.noise.now c.loop-f.f-index c.loop-f.things c.loop-f-test.false (c.loop-f.invariant tables xs stands)
