use Rattle.std.proofs.Common.{arith}
use Rattle.std.specs.Prelude.{nat_lt}
use Rattle.sot_maker.proofs.Ordered.{digit_more, zero_first, digits_all}
use Rattle.sot_maker.proofs.order.by_name.Goals as goal

pub loop-digit-init : goal.loop-digit-init
loop-digit-init c = zero_first c.args.n c.new-order.result.items c.push_below.new.order.items c.new-order.ensures.items c.in_ok-push_below.ensures

pub loop-digit-preserved : goal.loop-digit-preserved
loop-digit-preserved c = digit_more (λ k. nat_lt k c.args.n) c.loop-digit.digit _ _ _ c.loop-digit-test.true c.in_ok-push_led.ensures c.loop-digit.invariant

pub returns : goal.returns
returns c = digits_all (λ k. nat_lt k c.args.n) c.loop-digit.digit _ _ (omega arith) c.loop-digit.invariant
