use Rattle.std.proofs.Common.{arith}
use Rattle.sot_world.proofs.KeptDrafts.{bits_start, bits_below, bits_next, bits_all}
use Rattle.sot_world.proofs.drafted.bits_of.Goals as goal

pub loop-i-init : goal.loop-i-init
loop-i-init c = bits_start c.args.there.now c.told-there

pub behind-bits-requires : goal.behind-bits-requires
behind-bits-requires c = bits_below c.args.there.now c.loop-i.i c.loop-i.bits c.told-there c.loop-i-test.true c.loop-i.invariant

pub loop-i-preserved : goal.loop-i-preserved
loop-i-preserved c =
    bits_next c.args.there.now c.loop-i.i c.loop-i.bits c.told-there c.loop-i-test.true c.loop-i.invariant c.behind-bits.result c.behind-bits.ensures

pub returns : goal.returns
returns c = bits_all c.args.there.now c.loop-i.i c.loop-i.bits (omega (arith, c.loop-i-test.false, c.loop-i.auto.i-end)) c.loop-i.invariant
