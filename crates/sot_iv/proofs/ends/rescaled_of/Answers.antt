use Rattle.std.proofs.Common.{◌∙◌}
use Rattle.sot_iv.proofs.Wide.{wide, word}
use Rattle.sot_iv.proofs.Floors.{scaled_mono}
use Rattle.sot_iv.proofs.ends.rescaled_of.Goals as goal

pub fit-requires : goal.fit-requires
fit-requires c =
    let lo = wide c.scaled-lo.result c.scaled-lo.type_inv ∙ c.scaled-lo.ensures in
    let hi = wide c.scaled-hi.result c.scaled-hi.type_inv ∙ c.scaled-hi.ensures in
    rw (lo, hi, word c.args.a c.ranges.a, word c.args.b c.ranges.b) (scaled_mono c.args.from c.args.to c.args.a c.args.b c.requires.order)
