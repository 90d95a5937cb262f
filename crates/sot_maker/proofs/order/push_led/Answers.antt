use Rattle.std.proofs.Common.{◌*◌, arith}
use Rattle.std.specs.Prelude.{nat_lt}
use Rattle.sot_maker.proofs.Ordered.{number_more, led_all}
use Rattle.sot_maker.proofs.order.push_led.Goals as goal

pub loop-last-preserved : goal.loop-last-preserved
loop-last-preserved c =
    number_more (λ k. nat_lt k c.args.n) (10 * c.args.digit) c.loop-last.last 10 _ _ _ c.loop-last-test.true c.in_ok-push_below-2.ensures c.loop-last.invariant

pub returns : goal.returns
returns c =
    led_all (λ k. nat_lt k c.args.n) c.args.digit c.loop-last.last c.args.order.now.items c.push_below.new.order.items c.loop-last.order.items
    (omega arith) c.in_ok-push_below.ensures c.loop-last.invariant
